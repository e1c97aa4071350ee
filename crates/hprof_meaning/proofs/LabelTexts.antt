-- Labels are there, and each is the only one.
use Rattle.std.proofs.Common.{◌≡◌, inl, inr, ℕ, List, Option, Some, None, refl, sym, ◌∙◌, codes}
use Rattle.hprof_text.proofs.Prints.{one_printed}
use Rattle.hprof_text.proofs.Decided.{printed_exists}
use Rattle.hprof_items.specs.FactValue.{FactValue}
use Rattle.hprof_rows.specs.Conflict.{IsConsistent}
use Rattle.hprof_heap.proofs.NameFacts.{Lookup, Found, NotFound, look_up, one_name}
use Rattle.hprof_naming.proofs.FirstLoads.{class_name_exists, one_class_name}
use Rattle.hprof_meaning.specs.BareLabels.{AreBareLabels, IsBareLabel, IsBareLabelOf}

-- ---- there is one

named_exists : (facts : List FactValue) (name : ℕ) → Lookup facts name → (text : List ℕ) × IsBareLabelOf facts (Some name) text
named_exists facts name (Found bytes has) = let form = printed_exists bytes in (form.0, inl (bytes, has, form.1))
named_exists facts name (NotFound none) = (codes "\\?", inr (none, refl))

pub bare_of_exists : (facts : List FactValue) (name : Option ℕ) → (text : List ℕ) × IsBareLabelOf facts name text
bare_of_exists facts None = (codes "\\?", refl)
bare_of_exists facts (Some name) = named_exists facts name (look_up facts name)

pub bare_exists : (facts : List FactValue) (class : ℕ) → (text : List ℕ) × IsBareLabel facts class text
bare_exists facts class =
    let name = class_name_exists facts class in
    let label = bare_of_exists facts name.0 in
    (label.0, (name.0, name.1, label.1))

pub labels_exist : (facts : List FactValue) → (label : ℕ → List ℕ) × AreBareLabels facts label
labels_exist facts = (λ class. (bare_exists facts class).0, λ class. (bare_exists facts class).1)

-- ---- and no other

module _ (facts : List FactValue) (agree : IsConsistent facts) where
  pub one_bare_of : (name : Option ℕ) (one other : List ℕ) → IsBareLabelOf facts name one → IsBareLabelOf facts name other → one ≡ other
  one_bare_of None one other is is_too = is ∙ sym is_too
  one_bare_of (Some name) one other (inl is) (inl is_too) =
      let same = one_name facts name is.0 is_too.0 agree is.1 is_too.1 in
      one_printed is_too.0 one other (rw same at is.2) is_too.2
  one_bare_of (Some name) one other (inl is) (inr none) = absurd (none.0 is.0 is.1)
  one_bare_of (Some name) one other (inr none) (inl is) = absurd (none.0 is.0 is.1)
  one_bare_of (Some name) one other (inr none) (inr none_too) = none.1 ∙ sym none_too.1

  -- a label and that of a name that the class has
  pub of_that_name : (name name_too : Option ℕ) (one other : List ℕ) → name ≡ name_too → IsBareLabelOf facts name one
      → IsBareLabelOf facts name_too other → one ≡ other
  of_that_name name name_too one other same is is_too = one_bare_of name_too one other (rw same at is) is_too

  pub one_bare_label : (class : ℕ) (one other : List ℕ) → IsBareLabel facts class one → IsBareLabel facts class other → one ≡ other
  one_bare_label class one other is is_too =
      of_that_name is.0 is_too.0 one other (one_class_name facts class is.0 is_too.0 agree is.1 is_too.1) is.2 is_too.2
