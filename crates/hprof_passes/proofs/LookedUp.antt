-- A sink that is given the objects of ascending identifiers, one look-up after the other.
use Rattle.std.proofs.Common.{◌≡◌, ◌+◌, ◌<◌, ℕ, List, [], ◌∷◌, ◌++◌, drop, get_or, length, refl, sym, ap, subst, ◌∙◌}
use Rattle.std.proofs.Common.{append-nil, append_assoc}
use Rattle.std.specs.List.Sorted.{IsStrictlyIncreasing, IsStrictlySortedBy}
use Rattle.std.specs.Ordering.{nat_cmp}
use Rattle.std.proofs.lemmas.Map.Keys.{sorted_from_strictly_increasing}
use Rattle.hprof_values.specs.declared.ids.IdSize.{IdSize}
use Rattle.hprof_items.specs.FactValue.{FactValue}
use Rattle.hprof_rows.specs.Order.{IsCanonicalOrder}
use Rattle.hprof_rows.proofs.Tables.{drop_from}
use Rattle.hprof_passes.specs.Passing.{RefusesObject, TakesObjects}
use Rattle.hprof_passes.specs.Picked.{picked}
use Rattle.hprof_passes.proofs.GoingOver.{refused_behind, takes_both}
use Rattle.hprof_passes.proofs.PickedObjects.{first_picked, none_wanted}

module _ {T : Type 0} (takes : T → IdSize → FactValue → T → Type 0) (ids : IdSize) (objects : List FactValue) where
  -- the objects of the identifiers before those that are left were taken
  pub record LooksUp (wanted : List ℕ) (old now : T) (left : List ℕ) : Type 0 where
    pub front : List FactValue
    pub are : picked wanted objects ≡ front ++ picked left objects
    pub took : TakesObjects takes ids old front now
    pub ascend : IsStrictlySortedBy nat_cmp left

  pub begins : (wanted : List ℕ) (old : T) → IsStrictlyIncreasing wanted → LooksUp wanted old old wanted
  begins wanted old ascend = record {
    front = [];
    are = refl;
    took = refl;
    ascend = sorted_from_strictly_increasing wanted ascend;
  }

  module _ (ordered : IsCanonicalOrder objects) (wanted : List ℕ) (old now : T) (id : ℕ) (rest : List ℕ)
      (looks : LooksUp wanted old now (id ∷ rest)) where
    next_are : picked wanted objects ≡ looks.front ++ (picked (id ∷ []) objects ++ picked rest objects)
    unfolding IsStrictlySortedBy
    next_are =
        looks.are ∙ ap (λ (l : List FactValue). looks.front ++ l) (first_picked id rest objects ordered looks.ascend.0)

    pub goes_on : (new : T) → TakesObjects takes ids now (picked (id ∷ []) objects) new → LooksUp wanted old new rest
    unfolding IsStrictlySortedBy
    goes_on new took = record {
      front = looks.front ++ picked (id ∷ []) objects;
      are = next_are ∙ sym (append_assoc looks.front (picked (id ∷ []) objects) (picked rest objects));
      took = takes_both takes ids old now new looks.front (picked (id ∷ []) objects) looks.took took;
      ascend = looks.ascend.1;
    }

    pub refused : {E : Type 0} (refuses : T → IdSize → FactValue → E → T → Type 0) (fault : E) (new : T)
        → RefusesObject takes refuses ids (picked (id ∷ []) objects) fault now new
        → RefusesObject takes refuses ids (picked wanted objects) fault old new
    refused refuses fault new is =
        subst (λ (l : List FactValue). RefusesObject takes refuses ids l fault old new) (sym next_are)
        (refused_behind takes ids refuses old now new looks.front (picked (id ∷ []) objects) (picked rest objects) fault looks.took is)

  -- by the place of the identifier that is next
  pub at_place : (wanted : List ℕ) (old now : T) (place : ℕ) → place < length wanted → LooksUp wanted old now (drop place wanted)
      → LooksUp wanted old now (get_or wanted place 0 ∷ drop (place + 1) wanted)
  at_place wanted old now place within looks =
      subst (LooksUp wanted old now) (drop_from wanted place 0 within) looks

  pub ends : (wanted : List ℕ) (old now : T) → LooksUp wanted old now [] → TakesObjects takes ids old (picked wanted objects) now
  ends wanted old now looks =
      subst (λ (l : List FactValue). TakesObjects takes ids old l now)
      (sym (looks.are ∙ ap (λ (l : List FactValue). looks.front ++ l) (none_wanted objects) ∙ append-nil looks.front)) looks.took
