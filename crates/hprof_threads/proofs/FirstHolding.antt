-- The first field that holds the name of a thread: there is one at most, and it can be told whether there is one.
use Rattle.std.proofs.Common.{◌≡◌, ℕ, ◌+◌, ◌<◌, List, [], ◌∷◌, ◌++◌, length, get_or, drop, codes, Option, Some, None, ◌⊎◌, inl, inr}
use Rattle.std.proofs.Common.{refl, sym, ap, ◌∙◌, subst}
use Rattle.std.specs.List.{AllByRecursion}
use Rattle.std.specs.Prelude.{bytes_eq}
use Rattle.std.proofs.lemmas.Bool.{cases_Bool}
use Rattle.std.proofs.lemmas.Bool.Decides.{not_from_Decides}
use Rattle.std.proofs.lemmas.Slice.Eq.{bytes_eq-Decides}
use Rattle.hprof_items.specs.FactValue.{FactValue}
use Rattle.hprof_rows.specs.Conflict.{IsConsistent}
use Rattle.hprof_rows.proofs.Tables.{drop_from}
use Rattle.hprof_heap.proofs.NameFacts.{Found, NotFound, look_up, one_name}
use Rattle.hprof_heap.specs.ClassName.{NamesClass}
use Rattle.hprof_heap.specs.Names.{HasName}
use Rattle.hprof_layouts.specs.declared.field_value.FieldValue.{FieldValue}
use Rattle.hprof_naming.proofs.CalledClasses.{OneOrNot, called_or_not, has_name_or_not}
use Rattle.hprof_threads.specs.ThreadNames.{HoldsName, IsFirstHolding}

module _ (facts : List FactValue) where
  -- ---- where facts agree, it can be told of a field

  module _ (agree : IsConsistent facts) where
    holds_or_not : (field : FieldValue) → OneOrNot (HoldsName facts field)
    holds_or_not field = elim (has_name_or_not facts agree (codes "name") field.name) [
      | inr apart ↦ inr (λ holds. apart holds.0)
      | inl named ↦ elim (called_or_not facts agree (codes "java/lang/Thread") field.class) [
        | inl is ↦ inl (named, is)
        | inr apart ↦ inr (λ holds. apart holds.1)
      ]
    ]

  abbrev NotHolding : FieldValue → Type 0
  NotHolding field = ¬ (HoldsName facts field)

  -- ---- from the fields behind one

  pub first_later : (field : FieldValue) (fields : List FieldValue) (first : Option FieldValue) → NotHolding field
      → IsFirstHolding facts fields first → IsFirstHolding facts (field ∷ fields) first
  first_later field fields (Some first) apart is =
      (field ∷ is.0, is.1, ap (λ (l : List FieldValue). field ∷ l) is.2, is.3, (apart, is.4))
  first_later field fields None apart none = (apart, none)

  pub first_here : (field : FieldValue) (fields : List FieldValue) → HoldsName facts field
      → IsFirstHolding facts (field ∷ fields) (Some field)
  first_here field fields is = ([], fields, refl, is, tt)

  -- some fields have a first, or none holds the name
  pub first_exists : IsConsistent facts → (fields : List FieldValue) → (first : Option FieldValue) × IsFirstHolding facts fields first
  first_exists agree [] = (None, tt)
  first_exists agree (field ∷ fields) = elim (holds_or_not agree field) [
    | inl is ↦ (Some field, first_here field fields is)
    | inr apart ↦
        let rest = first_exists agree fields in
        (rest.0, first_later field fields rest.0 apart rest.1)
  ]

  -- ---- there is one at most

  -- it is the one in front, or that of the others
  data Place (field : FieldValue) (fields : List FieldValue) (first : Option FieldValue) : Type 0 where
    Here : HoldsName facts field → first ≡ Some field → Place field fields first
    Later : NotHolding field → IsFirstHolding facts fields first → Place field fields first

  some_place : (field : FieldValue) (fields : List FieldValue) (first : FieldValue) (before after : List FieldValue)
      → field ∷ fields ≡ before ++ first ∷ after → HoldsName facts first → AllByRecursion NotHolding before
      → Place field fields (Some first)
  some_place field fields first [] after e is none =
      let same : first ≡ field = cc in
      Here (subst (λ (f : FieldValue). HoldsName facts f) same is) (ap Some same)
  some_place field fields first (other ∷ before) after e is none =
      let same : other ≡ field = cc in
      let rest : fields ≡ before ++ first ∷ after = cc in
      Later (subst NotHolding same none.0) (before, after, rest, is, none.1)

  place : (field : FieldValue) (fields : List FieldValue) (first : Option FieldValue) → IsFirstHolding facts (field ∷ fields) first
      → Place field fields first
  place field fields (Some first) is = some_place field fields first is.0 is.1 is.2 is.3 is.4
  place field fields None none = Later none.0 none.1

  -- no fields have no first
  none_in_none : (first : FieldValue) (before after : List FieldValue) → [] ≡ before ++ first ∷ after → ⊥
  none_in_none first [] after e = cc
  none_in_none first (other ∷ before) after e = cc

  pub first_once : (fields : List FieldValue) (one other : Option FieldValue) → IsFirstHolding facts fields one
      → IsFirstHolding facts fields other → one ≡ other
  first_once [] None None is too = refl
  first_once [] (Some one) other is too = absurd (none_in_none one is.0 is.1 is.2)
  first_once [] None (Some other) is too = absurd (none_in_none other too.0 too.1 too.2)
  first_once (field ∷ fields) one other is too = elim (place field fields one is) [
    | Here holds same ↦ elim (place field fields other too) [
      | Here holds_too same_too ↦ same ∙ sym same_too
      | Later apart rest ↦ absurd (apart holds)
    ]
    | Later apart rest ↦ elim (place field fields other too) [
      | Here holds same ↦ absurd (apart holds)
      | Later apart_too rest_too ↦ first_once fields one other rest rest_too
    ]
  ]

  -- ---- along the fields

  -- the first of those from this place on is the first of all
  pub record GoesOn (fields : List FieldValue) (place : ℕ) : Type 0 where
    pub on : (first : Option FieldValue) → IsFirstHolding facts (drop place fields) first → IsFirstHolding facts fields first

  pub begins : (fields : List FieldValue) → GoesOn fields 0
  begins fields = record { on = λ first is. is }

  module _ (fields : List FieldValue) (place : ℕ) (default : FieldValue) (done : GoesOn fields place) (within : place < length fields) where
    pub goes_on : NotHolding (get_or fields place default) → GoesOn fields (place + 1)
    goes_on apart = record {
      on = λ first rest. done.on first
          (subst (λ (l : List FieldValue). IsFirstHolding facts l first) (sym (drop_from fields place default within))
          (first_later (get_or fields place default) (drop (place + 1) fields) first apart rest));
    }

    pub ends_here : HoldsName facts (get_or fields place default) → IsFirstHolding facts fields (Some (get_or fields place default))
    ends_here holds =
        done.on (Some (get_or fields place default))
        (subst (λ (l : List FieldValue). IsFirstHolding facts l (Some (get_or fields place default)))
        (sym (drop_from fields place default within))
        (first_here (get_or fields place default) (drop (place + 1) fields) holds))
