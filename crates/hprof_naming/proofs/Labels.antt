-- Labels, taken apart.
use Rattle.std.proofs.Common.{◌≡◌, ◌≢◌, ◌↔◌, IsTrue, ℕ, zero, suc, ◌+◌, ◌-◌, ◌<◌, Bool, true, false, cond, ◌==◌, List, [], ◌∷◌, ◌++◌}
use Rattle.std.proofs.Common.{Option, replicate, refl, sym, ap, ◌∙◌, append_assoc, arith}
use Rattle.std.specs.List.{AllByRecursion}
use Rattle.std.proofs.lemmas.List.{append_cancel_left, append_cancel_right, map-append, replicate-append-replicate}
use Rattle.std.proofs.lemmas.Bool.{eqb-true}
use Rattle.hprof_values.specs.declared.basic.Basic.{Basic}
use Rattle.hprof_values.specs.declared.basic.Basic.TheVariants as basics
use Rattle.hprof_naming.specs.TypeNames.{type_letter}
use Rattle.hprof_naming.specs.MeantLabel.{Means, descriptor_of, label_with, meant_label, slashed, slashed_byte}
use Rattle.hprof_naming.proofs.Slashed.{IsPlain, plain_byte, plain_end, plain_front, plain_text}

-- ---- opening brackets

plain_bracket : IsPlain 91
plain_bracket = plain_byte 91 (λ e. omega arith) (λ e. omega arith)

plain_brackets : (count : ℕ) → AllByRecursion IsPlain (replicate count 91)
plain_brackets zero = tt
plain_brackets (suc count) = (plain_bracket, plain_brackets count)

-- one more stands behind some
pub one_bracket_more : (label rest behind : List ℕ) (count : ℕ) → label ≡ replicate count 91 ++ rest → rest ≡ 91 ∷ behind
    → label ≡ replicate (count + 1) 91 ++ behind
one_bracket_more label rest behind count is then =
    is ∙ ap (λ (l : List ℕ). replicate count 91 ++ l) then ∙ sym (append_assoc (replicate count 91) (91 ∷ []) behind)
    ∙ ap (λ (l : List ℕ). l ++ behind) (replicate-append-replicate count 1 91)

-- too few stand there
pub too_few : (label rest : List ℕ) (count all : ℕ) → label ≡ replicate count 91 ++ rest → count < all
    → ((behind : List ℕ) → rest ≢ 91 ∷ behind) → (behind : List ℕ) → label ≢ replicate all 91 ++ behind
too_few label rest count all is less none behind same = at (all - count - 1) (omega arith) where
  at : (left : ℕ) → all ≡ count + suc left → ⊥
  at left sum =
      let whole : replicate all 91 ≡ replicate count 91 ++ 91 ∷ replicate left 91 =
      ap (λ (n : ℕ). replicate n 91) sum ∙ sym (replicate-append-replicate count (suc left) 91) in
      let both : replicate count 91 ++ rest ≡ replicate count 91 ++ (91 ∷ replicate left 91 ++ behind) =
      sym is ∙ same ∙ ap (λ (l : List ℕ). l ++ behind) whole ∙ append_assoc (replicate count 91) (91 ∷ replicate left 91) behind in
      none (replicate left 91 ++ behind) (append_cancel_left (replicate count 91) rest (91 ∷ replicate left 91 ++ behind) both)

-- ---- descriptors

plain_letter : (elem : Basic) → AllByRecursion IsPlain (type_letter elem)
plain_letter basics.Array = (plain_bracket, tt)
plain_letter basics.Object = (plain_byte 76 (λ e. omega arith) (λ e. omega arith), tt)
plain_letter basics.Boolean = (plain_byte 90 (λ e. omega arith) (λ e. omega arith), tt)
plain_letter basics.Char = (plain_byte 67 (λ e. omega arith) (λ e. omega arith), tt)
plain_letter basics.Float = (plain_byte 70 (λ e. omega arith) (λ e. omega arith), tt)
plain_letter basics.Double = (plain_byte 68 (λ e. omega arith) (λ e. omega arith), tt)
plain_letter basics.Byte = (plain_byte 66 (λ e. omega arith) (λ e. omega arith), tt)
plain_letter basics.Short = (plain_byte 83 (λ e. omega arith) (λ e. omega arith), tt)
plain_letter basics.Int = (plain_byte 73 (λ e. omega arith) (λ e. omega arith), tt)
plain_letter basics.Long = (plain_byte 74 (λ e. omega arith) (λ e. omega arith), tt)

-- a text that is the same as a type's letter
pub only_letter : (elem : Basic) (text : List ℕ) → slashed text ≡ slashed (type_letter elem) → text ≡ type_letter elem
only_letter elem text same = plain_text (type_letter elem) text (plain_letter elem) same

-- texts between `L` and `;`
pub same_between : (text between name : List ℕ) → text ≡ 76 ∷ between ++ 59 ∷ []
    → (slashed between ≡ slashed name) ↔ (slashed text ≡ slashed (76 ∷ name ++ 59 ∷ []))
same_between text between name is =
    let one : slashed text ≡ 76 ∷ slashed between ++ 59 ∷ [] =
    ap slashed is ∙ ap (λ (l : List ℕ). 76 ∷ l) (map-append slashed_byte between (59 ∷ [])) in
    let other : slashed (76 ∷ name ++ 59 ∷ []) ≡ 76 ∷ slashed name ++ 59 ∷ [] =
    ap (λ (l : List ℕ). 76 ∷ l) (map-append slashed_byte name (59 ∷ [])) in (
      λ same. one ∙ ap (λ (l : List ℕ). 76 ∷ l ++ 59 ∷ []) same ∙ sym other,
      λ same.
          let whole : 76 ∷ slashed between ++ 59 ∷ [] ≡ 76 ∷ slashed name ++ 59 ∷ [] = sym one ∙ same ∙ other in
          let tail : slashed between ++ 59 ∷ [] ≡ slashed name ++ 59 ∷ [] = cc in
          append_cancel_right (slashed between) (slashed name) (59 ∷ []) tail,
    )

-- a text that does not stand between them is the same as none that does
pub never_between : (text name : List ℕ) → ((between : List ℕ) → text ≢ 76 ∷ between ++ 59 ∷ [])
    → slashed text ≢ slashed (76 ∷ name ++ 59 ∷ [])
never_between text name none same =
    let whole : slashed text ≡ 76 ∷ slashed name ++ 59 ∷ [] =
    same ∙ ap (λ (l : List ℕ). 76 ∷ l) (map-append slashed_byte name (59 ∷ [])) in
    let first = plain_front (76 ∷ []) text (slashed name ++ 59 ∷ []) (plain_letter basics.Object) whole in
    let is : text ≡ 76 ∷ first.0 = first.1 in
    let both : 76 ∷ slashed first.0 ≡ 76 ∷ slashed name ++ 59 ∷ [] = sym (ap slashed is) ∙ whole in
    let rest : slashed first.0 ≡ slashed name ++ 59 ∷ [] = cc in
    let last = plain_end (slashed name) first.0 59 (plain_byte 59 (λ e. omega arith) (λ e. omega arith)) rest in
    none last.0 (is ∙ ap (λ (l : List ℕ). 76 ∷ l) last.1)

-- ---- labels

pub label_of_arrays : (dimensions : ℕ) (elem : Option Basic) (name : List ℕ) → dimensions ≢ 0
    → label_with dimensions elem name ≡ replicate dimensions 91 ++ descriptor_of elem name
label_of_arrays dimensions elem name some = by_test (dimensions == 0) refl where
  by_test : (b : Bool) → (dimensions == 0) ≡ b
      → cond b name (replicate dimensions 91 ++ descriptor_of elem name) ≡ replicate dimensions 91 ++ descriptor_of elem name
  by_test true e = absurd (some (eqb-true dimensions 0 e))
  by_test false e = refl

-- labels of arrays, by what stands behind their brackets
pub same_behind : (count : ℕ) (label text descriptor : List ℕ) → label ≡ replicate count 91 ++ text
    → (slashed text ≡ slashed descriptor) ↔ (slashed label ≡ slashed (replicate count 91 ++ descriptor))
same_behind count label text descriptor is =
    let one : slashed label ≡ slashed (replicate count 91) ++ slashed text =
    ap slashed is ∙ map-append slashed_byte (replicate count 91) text in
    let other : slashed (replicate count 91 ++ descriptor) ≡ slashed (replicate count 91) ++ slashed descriptor =
    map-append slashed_byte (replicate count 91) descriptor in (
      λ same. one ∙ ap (λ (l : List ℕ). slashed (replicate count 91) ++ l) same ∙ sym other,
      λ same. append_cancel_left (slashed (replicate count 91)) (slashed text) (slashed descriptor) (sym one ∙ same ∙ other),
    )

-- a label with too few brackets is the same as none that has them
pub never_behind : (count : ℕ) (label descriptor : List ℕ) → ((text : List ℕ) → label ≢ replicate count 91 ++ text)
    → slashed label ≢ slashed (replicate count 91 ++ descriptor)
never_behind count label descriptor none same =
    let it = plain_front (replicate count 91) label (slashed descriptor) (plain_brackets count)
    (same ∙ map-append slashed_byte (replicate count 91) descriptor) in
    none it.0 it.1

-- a label that is the same as what a word means
pub said : (word label meant : List ℕ) (answer : Bool) → meant ≡ meant_label word → (IsTrue answer ↔ (slashed label ≡ slashed meant))
    → IsTrue answer ↔ Means word label
said word label meant answer is tells = (λ yes. tells.0 yes ∙ ap slashed is, λ means. tells.1 (means ∙ ap slashed (sym is)))

-- a label of arrays is, or is not, the same as one with that descriptor
pub said_of_arrays : (dimensions : ℕ) (elem : Option Basic) (name : List ℕ) → dimensions ≢ 0 → (word label : List ℕ) (answer : Bool)
    → label_with dimensions elem name ≡ meant_label word
    → (IsTrue answer ↔ (slashed label ≡ slashed (replicate dimensions 91 ++ descriptor_of elem name)))
    → IsTrue answer ↔ Means word label
said_of_arrays dimensions elem name some word label answer is tells =
    said word label (replicate dimensions 91 ++ descriptor_of elem name) answer (sym (label_of_arrays dimensions elem name some) ∙ is) tells
