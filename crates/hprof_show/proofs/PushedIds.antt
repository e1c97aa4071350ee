-- Lists that go on with what is left to append.
use Rattle.std.specs.Prelude.{take}
use Rattle.std.proofs.Common.{◌≡◌, ℕ, ◌+◌, ◌-◌, ◌<◌, ◌≤◌, List, [], ◌∷◌, ◌++◌, length, get_or, drop}
use Rattle.std.proofs.Common.{refl, sym, ap, ◌∙◌, add-one, append_assoc, append-nil, drop-cons}
use Rattle.std.specs.List.{filter}
use Rattle.std.proofs.lemmas.List.{drop_all}
use Rattle.hprof_layouts.specs.declared.field_value.FieldValue.{FieldValue}
use Rattle.hprof_show.specs.Shown.{field_referents, is_some_id, referent}
use Rattle.hprof_show.proofs.ToldFields.{no_field}

-- one more is appended
pub one_pushed : (list new left others whole : List ℕ) (value told : ℕ) → new ≡ list ++ value ∷ [] → value ≡ told → left ≡ told ∷ others
    → list ++ left ≡ whole → new ++ others ≡ whole
one_pushed list new left others whole value told pushed is steps was =
    ap (λ (l : List ℕ). l ++ others) pushed ∙ append_assoc list (value ∷ []) others ∙ ap (λ (n : ℕ). list ++ n ∷ others) is
    ∙ ap (λ (l : List ℕ). list ++ l) (sym steps) ∙ was

-- nothing is left
pub all_pushed : (list left whole : List ℕ) → left ≡ [] → list ++ left ≡ whole → list ≡ whole
all_pushed list left whole none was = sym (append-nil list) ∙ ap (λ (l : List ℕ). list ++ l) (sym none) ∙ was

-- ---- fields

module _ (values : List FieldValue) (place : ℕ) where
  pub field_next : place < length values
      → field_referents (drop place values)
      ≡ referent (get_or values place no_field).basic (get_or values place no_field).bits ∷ field_referents (drop (place + 1) values)
  field_next within =
      let value = get_or values place no_field in
      let next : drop place values ≡ value ∷ drop (place + 1) values = rw (add-one, drop-cons values place no_field) refl in
      ap field_referents next

  pub no_field_next : length values ≤ place → field_referents (drop place values) ≡ []
  no_field_next behind = ap field_referents (drop_all place values behind)

-- ---- elements

-- those that are told of the elements, behind so many
abbrev pub told_ids : (told : ℕ) → List ℕ → List ℕ
told_ids told ids = take (100 - told) (filter is_some_id ids)

-- ---- what was appended to the identifier

pub shown_pushed : (id : ℕ) (class object none one two three : List ℕ) → none ≡ [] → one ≡ none ++ id ∷ [] → two ≡ one ++ class
    → three ≡ two ++ object → id ∷ (class ++ object) ≡ three
shown_pushed id class object none one two three empty own classes objects =
    sym (objects ∙ ap (λ (l : List ℕ). l ++ object)
    (classes ∙ ap (λ (l : List ℕ). l ++ class) (own ∙ ap (λ (l : List ℕ). l ++ id ∷ []) empty)))
