-- Lines, from the texts that stand in them.
use Rattle.std.proofs.Common.{◌≡◌, ◌==◌, ℕ, false, List, ◌++◌, ◌∙◌, ap, append_assoc, codes}
use Rattle.std.proofs.lemmas.Bool.{eqb-true, false_from_ne_true}
use Rattle.hprof_text.specs.Identifier.{id_digits}
use Rattle.hprof_items.specs.FactValue.{FactValue}
use Rattle.hprof_describe.specs.Findings.{Findings}
use Rattle.hprof_describe.specs.References.{object_words, reference_text}
use Rattle.hprof_show.specs.ClassLines.{equal_line, named_line}
use Rattle.hprof_show.specs.FieldLines.{from_line}
use Rattle.hprof_show.specs.ShowText.{object_line}

three_more : (a b c d : List ℕ) → a ++ (b ++ (c ++ d)) ≡ a ++ b ++ c ++ d
three_more a b c d = simp append_assoc

unequal : (one other : ℕ) → (one ≡ other → ⊥) → (one == other) ≡ false
unequal one other differ = false_from_ne_true (one == other) (λ yes. differ (eqb-true one other yes))

pub constant_parts : (place value told : List ℕ) → value ≡ told
    → codes "  constant " ++ (place ++ (codes " = " ++ (value ++ codes "\n"))) ≡ equal_line (codes "constant " ++ place) told
constant_parts place value told e = rw e (simp append_assoc)

pub static_parts : (place name named value told : List ℕ) → name ≡ named → value ≡ told
    → codes "  static " ++ (place ++ (codes " " ++ (name ++ (codes " = " ++ (value ++ codes "\n")))))
    ≡ equal_line (codes "static " ++ place ++ codes " " ++ named) told
static_parts place name named value told e f = rw (e, f) (simp append_assoc)

pub field_parts : (place name named value told : List ℕ) → name ≡ named → value ≡ told
    → codes "  field " ++ (place ++ (codes " " ++ (name ++ (codes " = " ++ (value ++ codes "\n")))))
    ≡ equal_line (codes "field " ++ place ++ codes " " ++ named) told
field_parts place name named value told e f = rw (e, f) (simp append_assoc)

pub own_parts : (place word type_word name named : List ℕ) → word ≡ type_word → name ≡ named
    → codes "  own " ++ (place ++ (codes " " ++ (word ++ (codes " " ++ (name ++ codes "\n")))))
    ≡ codes "  own " ++ place ++ codes " " ++ type_word ++ codes " " ++ named ++ codes "\n"
own_parts place word type_word name named e f = rw (e, f) (simp append_assoc)

-- what is not 0 has a line
pub named_parts : (found : Findings) (word value : List ℕ) (id : ℕ) → (id ≡ 0 → ⊥) → value ≡ reference_text found id
    → codes "  " ++ (word ++ (codes " = " ++ (value ++ codes "\n"))) ≡ named_line found word id
named_parts found word value id some e = let not : (id == 0) ≡ false = unequal id 0 some in rw (e, not) (simp append_assoc)

-- another class has a line
pub from_parts : (found : Findings) (label : List ℕ) (before class : ℕ) → (class ≡ before → ⊥) → label ≡ found.naming.label class
    → codes "  from " ++ (label ++ codes "\n") ≡ from_line found before class
from_parts found label before class other e =
    let not : (class == before) ≡ false = unequal class before other in rw (e, not) (simp append_assoc)

-- an object has a line
pub object_parts : (found : Findings) (id : ℕ) (fact : FactValue) (digits words : List ℕ) → digits ≡ id_digits id
    → words ≡ object_words found id fact
    → digits ++ (codes " " ++ (words ++ codes "\n")) ≡ object_line found id fact
object_parts found id fact digits words printed told =
    ap (λ (front : List ℕ). front ++ (codes " " ++ (words ++ codes "\n"))) printed
    ∙ ap (λ (text : List ℕ). id_digits id ++ (codes " " ++ (text ++ codes "\n"))) told
    ∙ three_more (id_digits id) (codes " ") (object_words found id fact) (codes "\n")
