-- Names with `.` in the place of each `/` are text.
use Rattle.std.proofs.Common.{inl, inr, ℕ, ◌<◌, ◌^◌, ◌==◌, suc, Bool, true, false, cond, List, [], ◌∷◌, codes, arith}
use Rattle.std.specs.Str.{IsAscii}
use Rattle.std.proofs.lemmas.List.Elements.{All-weaker}
use Rattle.std.proofs.lemmas.Str.{IsAscii-append}
use Rattle.std.proofs.lemmas.Str.Ascii.{IsAscii-nil, IsAscii-cons, IsAscii-from_all}
use Rattle.hprof_text.specs.Identifier.{IsLowerDigit, id_digits}
use Rattle.hprof_text.proofs.IdTexts.{AreIdDigits-id_digits}
use Rattle.hprof_text.proofs.Prints.{IsAscii-printed}
use Rattle.hprof_items.specs.FactValue.{FactValue}
use Rattle.hprof_naming.specs.Naming.{IsNameText}
use Rattle.hprof_threads.specs.Frames.{dotted}

-- a name in print is ASCII
IsAscii-id_digits : (id : ℕ) → id < 2 ^ 64 → IsAscii (id_digits id)
IsAscii-id_digits id small =
    IsAscii-from_all (id_digits id)
    (All-weaker IsLowerDigit (λ b. b < 128) below_128 (id_digits id) (AreIdDigits-id_digits id small).lower)
  where
    below_128 : (c : ℕ) → IsLowerDigit c → c < 128
    below_128 c lower = grind arith

pub IsAscii-name_text : (facts : List FactValue) (name : ℕ) (text : List ℕ) → name < 2 ^ 64 → IsNameText facts name text → IsAscii text
IsAscii-name_text facts name text small (inl is) = IsAscii-printed is.0 text is.2
IsAscii-name_text facts name text small (inr none) =
    let mark : IsAscii (codes "\\?") = IsAscii-cons 92 (63 ∷ []) (omega arith) (IsAscii-cons 63 [] (omega arith) IsAscii-nil) in
    rw none.1 (IsAscii-append (codes "\\?") (id_digits name) mark (IsAscii-id_digits name small))

-- and so it is with dots
pub IsAscii-dotted : (text : List ℕ) → IsAscii text → IsAscii (dotted text)
IsAscii-dotted [] ascii = IsAscii-nil
IsAscii-dotted (byte ∷ text) ascii =
    IsAscii-cons (cond (byte == 47) 46 byte) (dotted text) (by_test (byte == 47)) (IsAscii-dotted text (λ i. ascii (suc i)))
  where
    by_test : (b : Bool) → cond b 46 byte < 128
    by_test true = omega arith
    by_test false = ascii 0
