-- What the front of a class says of its spelling.
use Rattle.std.proofs.Common.{◌≡◌, ◌↔◌, ◌^◌, ◌≤◌, ◌<◌, ℕ, List, ◌∷◌, ◌++◌, length, Option, ap, sym, subst, ◌∙◌, append_assoc, arith}
use Rattle.byteorder.specs.Endian.{big_bytes}
use Rattle.hprof_values.specs.declared.ids.IdSize.{IdSize}
use Rattle.hprof_values.specs.declared.number_writing.Number.{Number}
use Rattle.hprof_values.specs.declared.record_tag.RecordTag.{RecordTag}
use Rattle.hprof_values.specs.declared.sub_tag.SubTag.TheVariants as tags
use Rattle.hprof_values.specs.FieldGroups.{field_bytes, FitFields}
use Rattle.hprof_values.specs.Numbers.{number_widths, number_values}
use Rattle.hprof_values.specs.SubTag.{code_of_tag}
use Rattle.hprof_values.specs.declared.entry.Entry.{Entry}
use Rattle.hprof_values.specs.declared.entry.EntryKind.{EntryKind}
use Rattle.hprof_values.specs.declared.entry.EntryKind.TheVariants as kinds
use Rattle.hprof_values.specs.Entries.{IsEntryList, entries_bytes, list_bytes, ListFits}
use Rattle.hprof_items.specs.declared.fact.Fact.{Fact}
use Rattle.hprof_items.specs.ClassDump.{class_widths, class_lists}
use Rattle.hprof_items.specs.FactValue.{value_of}
use Rattle.hprof_items.specs.Spelling.{longest_body, spelled_as, spelling}
use Rattle.hprof_items.specs.SubRecord.{tagged_bytes}
use Rattle.hprof_writing.proofs.Lengths.{class_short}
use Rattle.hprof_writing.specs.ClassFronts.{counted, IsClassFront}

-- a list that is written: its count and its bytes
pub record IsList (ids : IdSize) (kind : EntryKind) (entries : List Entry) (count : ℕ) (bytes : List ℕ) : Type 0 where
  pub size : IdSize
  pub same : size ≡ ids
  pub counts : count ≡ length entries
  pub spells : IsEntryList size kind entries bytes

list_is : (ids : IdSize) (kind : EntryKind) (entries : List Entry) (count : ℕ) (bytes : List ℕ) → IsList ids kind entries count bytes
    → counted count bytes ≡ list_bytes ids kind entries
list_is ids kind entries count bytes list =
    ap (λ (n : ℕ). big_bytes 2 n ++ bytes) list.counts
    ∙ ap (λ (b : List ℕ). big_bytes 2 (length entries) ++ b) (list.spells.spelled
    ∙ ap (λ (s : IdSize). entries_bytes s kind entries) list.same)

-- a class with its tag, its fields and its lists
pub class_spelled : (ids : IdSize) (tag : ℕ) (numbers : List ℕ) (constants statics own : List Entry) (first second third : ℕ)
    (a b c : List ℕ) → tag ≡ code_of_tag tags.ClassDump → IsList ids kinds.Constant constants first a
    → IsList ids kinds.Static statics second b → IsList ids kinds.Field own third c
    → tagged_bytes tags.ClassDump (class_widths ids) numbers (class_lists ids constants statics own)
    ≡ field_bytes (1 ∷ class_widths ids) (tag ∷ numbers) ++ (counted first a ++ (counted second b ++ counted third c))
class_spelled ids tag numbers constants statics own first second third a b c same one two three =
    let rest : List ℕ = counted second b ++ counted third c in
    let begun : List ℕ = list_bytes ids kinds.Constant constants in
    sym (
    ap (λ (t : ℕ). field_bytes (1 ∷ class_widths ids) (t ∷ numbers) ++ (counted first a ++ rest)) same
    ∙ ap (λ (l : List ℕ). tagged_bytes tags.ClassDump (class_widths ids) numbers (l ++ rest))
    (list_is ids kinds.Constant constants first a one)
    ∙ ap (λ (l : List ℕ). tagged_bytes tags.ClassDump (class_widths ids) numbers (begun ++ (l ++ counted third c)))
    (list_is ids kinds.Static statics second b two)
    ∙ ap (λ (l : List ℕ). tagged_bytes tags.ClassDump (class_widths ids) numbers (begun ++ (list_bytes ids kinds.Static statics ++ l)))
    (list_is ids kinds.Field own third c three)
    )

-- it fits if its tag and its fields do, since its lists are never too long
pub class_fitting : (ids : IdSize) (tag : ℕ) (numbers : List ℕ) (constants statics own : List Entry) → tag ≡ code_of_tag tags.ClassDump
    → ListFits ids kinds.Constant constants × ListFits ids kinds.Static statics × ListFits ids kinds.Field own
    → FitFields (1 ∷ class_widths ids) (tag ∷ numbers)
    ↔ ((FitFields (class_widths ids) numbers × ListFits ids kinds.Constant constants × ListFits ids kinds.Static statics
    × ListFits ids kinds.Field own)
    × (length (tagged_bytes tags.ClassDump (class_widths ids) numbers (class_lists ids constants statics own)) ≤ longest_body))
class_fitting ids tag numbers constants statics own same lists =
    let code : tag < 256 ^ 1 = omega (arith, same) in (
      λ fits. (
        (fits.1, lists.0, lists.1, lists.2),
        class_short ids numbers constants statics own fits.1 lists.0 lists.1 lists.2,
      ),
      λ fits. (code, fits.0.0),
    )

-- the front of a fact in hand, of which it is known that it is a class
pub front_form : (ids : IdSize) (fact this : Fact) (fields : List Number) (constants statics own : List ℕ) → fact ≡ this
    → IsClassFront ids this fields constants statics own → IsClassFront ids fact fields constants statics own
front_form ids fact this fields constants statics own same front =
    subst (λ (f : Fact). IsClassFront ids f fields constants statics own) (sym same) front

-- what is written of it, list by list
pub class_parts : (ids : IdSize) (fact : Fact) (fields : List Number) (constants statics own : List ℕ)
    → IsClassFront ids fact fields constants statics own
    → (field_bytes (number_widths ids fields) (number_values fields) ++ constants) ++ (statics ++ own) ≡ spelling ids (value_of fact)
class_parts ids fact fields constants statics own front =
    append_assoc (field_bytes (number_widths ids fields) (number_values fields)) constants (statics ++ own) ∙ sym front.spelled
    ∙ ap (λ (o : Option RecordTag). spelled_as ids o (value_of fact)) (sym front.is)
