-- Names and classes are printed in one way.
use Rattle.std.proofs.Common.{◌≡◌, ◌⊎◌, inl, inr, ℕ, List, ◌++◌, Option, Some, None, Result, Ok, Err, refl, sym, subst, ◌∙◌}
use Rattle.std.specs.Prelude.{IfOk}
use Rattle.std.proofs.Common.{codes}
use Rattle.hprof_text.specs.Identifier.{id_digits}
use Rattle.hprof_text.proofs.Prints.{one_printed}
use Rattle.hprof_text.proofs.Decided.{printed_exists}
use Rattle.hprof_items.specs.FactValue.{FactValue}
use Rattle.hprof_rows.specs.Conflict.{IsConsistent}
use Rattle.hprof_heap.proofs.NameFacts.{Lookup, Found, NotFound, look_up, one_name}
use Rattle.hprof_naming.specs.Naming.{IsNameText, IsLabelOf, IsLabel, Naming, IsNaming}
use Rattle.hprof_naming.proofs.FirstLoads.{class_name_exists, one_class_name}

-- what holds of a text that is there implies another
pub of_text : {T E : Type 0} (P Q : T → Type 0) (r : Result T E) → ((x : T) → P x → Q x) → IfOk r P → IfOk r Q
of_text P Q (Ok x) implies is = implies x is
of_text P Q (Err e) implies is = tt

-- ---- there is one

name_exists : (facts : List FactValue) (name : ℕ) → Lookup facts name → (text : List ℕ) × IsNameText facts name text
name_exists facts name (Found bytes has) = let form = printed_exists bytes in (form.0, inl (bytes, has, form.1))
name_exists facts name (NotFound none) = (codes "\\?" ++ id_digits name, inr (none, refl))

label_of_exists : (facts : List FactValue) (name : Option ℕ) → (text : List ℕ) × IsLabelOf facts name text
label_of_exists facts None = (codes "\\?", refl)
label_of_exists facts (Some name) = name_exists facts name (look_up facts name)

label_exists : (facts : List FactValue) (class : ℕ) → (text : List ℕ) × IsLabel facts class text
label_exists facts class =
    let name = class_name_exists facts class in
    let label = label_of_exists facts name.0 in
    (label.0, (name.0, name.1, label.1))

pub naming_exists : (facts : List FactValue) → (naming : Naming) × IsNaming facts naming
naming_exists facts = (
  record { name_text = λ name. (name_exists facts name (look_up facts name)).0; label = λ class. (label_exists facts class).0 },
  record { names = λ name. (name_exists facts name (look_up facts name)).1; labels = λ class. (label_exists facts class).1 },
)

-- ---- and no other

module _ (facts : List FactValue) (agree : IsConsistent facts) where
  pub one_name_text : (name : ℕ) (one other : List ℕ) → IsNameText facts name one → IsNameText facts name other → one ≡ other
  one_name_text name one other (inl is) (inl is_too) =
      let same = one_name facts name is.0 is_too.0 agree is.1 is_too.1 in
      one_printed is_too.0 one other (rw same at is.2) is_too.2
  one_name_text name one other (inl is) (inr none) = absurd (none.0 is.0 is.1)
  one_name_text name one other (inr none) (inl is) = absurd (none.0 is.0 is.1)
  one_name_text name one other (inr none) (inr none_too) = none.1 ∙ sym none_too.1

  one_label_of : (name : Option ℕ) (one other : List ℕ) → IsLabelOf facts name one → IsLabelOf facts name other → one ≡ other
  one_label_of None one other is is_too = is ∙ sym is_too
  one_label_of (Some name) one other is is_too = one_name_text name one other is is_too

  pub one_label : (class : ℕ) (one other : List ℕ) → IsLabel facts class one → IsLabel facts class other → one ≡ other
  one_label class one other is is_too =
      let same = one_class_name facts class is.0 is_too.0 agree is.1 is_too.1 in
      one_label_of is_too.0 one other (rw same at is.2) is_too.2

  pub one_naming : (one other : Naming) → IsNaming facts one → IsNaming facts other → one ≡ other
  one_naming one other is is_too =
      let names = λ (name : ℕ). one_name_text name (one.name_text name) (other.name_text name) (is.names name) (is_too.names name) in
      let labels = λ (class : ℕ). one_label class (one.label class) (other.label class) (is.labels class) (is_too.labels class) in
      λ i. record { name_text = λ name. names name i; label = λ class. labels class i }
