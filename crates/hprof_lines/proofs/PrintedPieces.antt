-- Units in print, of which a piece is kept before it is written.
use Rattle.std.proofs.Common.{◌≡◌, ℕ, List, [], ◌∷◌, ◌++◌, Option, Result, sym, ap, subst, ◌∙◌, append_assoc, append-nil}
use Rattle.hprof_text.specs.Printed.{printed_unit}
use Rattle.std.specs.Io.KnownBytes.{Appends}
use Rattle.hprof_devices.proofs.Writes.{Pushed, WritesFront}
use Rattle.hprof_engine.specs.declared.product.ProductFault.{ProductFault}
use Rattle.hprof_lines.specs.Stopping.{WritesText}
use Rattle.hprof_lines.proofs.TextWriting.{text_then}
use Rattle.hprof_lines.specs.Printed.{printed_units}

-- what was pushed, and then what is left as far as it went
pub pushed_then : {A : Type 0} (r : Result A ProductFault) (old mid new : Option (List ℕ)) (all rest : List ℕ) → Pushed old mid all rest
    → WritesText mid new r rest → WritesText old new r all
pushed_then r old mid new all rest p writes =
    subst (WritesText old new r) (sym p.parts) (text_then r old mid new p.front rest p.appended writes)

-- one unit more is kept
pub kept_more : (text more : List ℕ) (unit : ℕ) (left after : List ℕ) → more ≡ text ++ printed_unit unit → left ≡ unit ∷ after
    → text ++ printed_units left ≡ more ++ printed_units after
kept_more text more unit left after pushed e =
    ap (λ (l : List ℕ). text ++ printed_units l) e ∙ sym (append_assoc text (printed_unit unit) (printed_units after))
    ∙ ap (λ (l : List ℕ). l ++ printed_units after) (sym pushed)

-- where no units are left, what is kept is left
pub kept_last : (text left : List ℕ) → left ≡ [] → text ++ printed_units left ≡ text
kept_last text left none = ap (λ (l : List ℕ). text ++ printed_units l) none ∙ append-nil text

-- a text in other words
pub appended_is : (old new : Option (List ℕ)) (text same : List ℕ) → text ≡ same → Appends old new text → Appends old new same
appended_is old new text same e appends = subst (Appends old new) e appends

pub front_is : (old new : Option (List ℕ)) (text same : List ℕ) → text ≡ same → WritesFront old new text → WritesFront old new same
front_is old new text same e front = subst (WritesFront old new) e front
