-- Fields that are sorted by class and then by place.
use Rattle.std.specs.List.Sorted.{IsBinarySearchResult, IsNonDecreasingBy, IsSearchInRange, IsSorted}
use Rattle.std.specs.Prelude.{Result, Ok, Err}
use Rattle.std.specs.Result.{is_ok}
use Rattle.std.proofs.Common.{◌≡◌, ◌==◌, ℕ, ◌+◌, ◌<◌, ◌≤◌, true, false, List, length, get_or, refl, sym, inl, inr}
use Rattle.std.proofs.Common.{arith}
use Rattle.std.specs.Ordering.{MatchOrdering, is_lt, nat_cmp, ordering_index, ordering_then}
use Rattle.std.specs.declared.cmp.Ordering.{Ordering}
use Rattle.std.specs.declared.cmp.Ordering.TheVariants.{Less, Equal, Greater}
use Rattle.std.proofs.lemmas.Bool.{cases_lt, eq-eqb, ne_eqb}
use Rattle.std.proofs.lemmas.Cmp.{nat_cmp_total, ranked}
use Rattle.std.proofs.lemmas.List.Folds.{list_any_at, list_any_none}
use Rattle.std.proofs.lemmas.List.Sorted.{ranks_by, searchable_from_sorted, sorted_far}
use Rattle.hprof_edges.specs.declared.field_place.FieldPlace.{FieldPlace}
use Rattle.hprof_edges.specs.contracts.field_place.FieldPlaceOrd.TheImpl as place_ord
use Rattle.hprof_edges.specs.contracts.field_place.FieldPlaceOrd.TheImpl.Laws.{total-law}
use Rattle.hprof_edges.specs.LeftOut.{has_place}

-- of two fields, the second does not come before the first
pub record IsNotBefore (first second : FieldPlace) : Type 0 where
  pub class : first.class ≤ second.class
  pub place : first.class ≡ second.class → first.place ≤ second.place

pub not_before : (first second : FieldPlace) → is_lt ((place_ord.ghosts).cmp second first) ≡ false → IsNotBefore first second
not_before first second late =
    by_class (nat_cmp second.class first.class) (ranked second.class first.class _ refl) late where
      by_place : (o : Ordering) → MatchOrdering o (second.place < first.place) (second.place ≡ first.place) (first.place < second.place)
          → is_lt o ≡ false → first.place ≤ second.place
      by_place Less at late = absurd cc
      by_place Equal at late = omega (arith, at)
      by_place Greater at late = omega (arith, at)

      by_class : (o : Ordering) → MatchOrdering o (second.class < first.class) (second.class ≡ first.class) (first.class < second.class)
          → is_lt (ordering_then o (nat_cmp second.place first.place)) ≡ false → IsNotBefore first second
      by_class Less at late = absurd cc
      by_class Equal at late = record {
        class = omega (arith, at);
        place = λ same. by_place (nat_cmp second.place first.place) (ranked second.place first.place _ refl) late;
      }
      by_class Greater at late = record { class = omega (arith, at); place = λ same. absurd (omega (arith, at, same)) }

module _ (fields : List FieldPlace) (sorted : IsSorted (place_ord.ghosts).cmp fields) where
  -- of two of them, the later one does not come before the earlier
  pub in_order : (i j : ℕ) (d : FieldPlace) → i ≤ j → j < length fields → IsNotBefore (get_or fields i d) (get_or fields j d)
  in_order i j d le within =
      not_before (get_or fields i d) (get_or fields j d)
      (sorted_far (λ x y. is_lt ((place_ord.ghosts).cmp x y)) (ranks_by total-law (λ x. x)) fields sorted i j d le within)

  pub by_class : IsNonDecreasingBy (λ (field : FieldPlace). field.class) fields
  by_class i j d le within = (in_order i j d le within).class

-- ---- searched by place

-- where a search by place ends among fields that ascend by place, one of them has the place, or none has
module _ (fields : List FieldPlace) (ascend : IsNonDecreasingBy (λ (field : FieldPlace). field.place) fields) (place : ℕ) where
  at_place : (field : FieldPlace) → nat_cmp field.place place ≡ Equal → (field.place == place) ≡ true
  at_place field is = eq-eqb field.place place (ranked field.place place Equal (sym is))

  before_place : (field : FieldPlace) → nat_cmp field.place place ≡ Less → (field.place == place) ≡ false
  before_place field is = let at = ranked field.place place Less (sym is) in ne_eqb field.place place (λ same. omega (arith, at, same))

  behind_place : (field : FieldPlace) → nat_cmp field.place place ≡ Greater → (field.place == place) ≡ false
  behind_place field is = let at = ranked field.place place Greater (sym is) in ne_eqb field.place place (λ same. omega (arith, at, same))

  in_turn : IsNonDecreasingBy (λ (field : FieldPlace). ordering_index (nat_cmp field.place place)) fields
  in_turn = searchable_from_sorted nat_cmp_total (λ (field : FieldPlace). field.place) fields place
      (λ k d low below. no_less (ascend k (k + 1) d (omega arith) below)) where
        no_less : {x y : ℕ} → x ≤ y → is_lt (nat_cmp y x) ≡ false
        no_less {x} {y} le = go (nat_cmp y x) (ranked y x _ refl) where
          go : (o : Ordering) → MatchOrdering o (y < x) (y ≡ x) (x < y) → is_lt o ≡ false
          go Less at = absurd (omega (arith, at, le))
          go Equal at = refl
          go Greater at = refl

  pub place_found : (found : Result ℕ ℕ) → IsSearchInRange found (length fields)
      → IsBinarySearchResult (λ (field : FieldPlace). nat_cmp field.place place) fields found → is_ok found ≡ has_place fields place
  place_found (Ok at) within is =
      let any : FieldPlace = record { class = 0; place = 0 } in
      sym (list_any_at (λ (field : FieldPlace). field.place == place) fields at any within (at_place (get_or fields at any) (is any)))
  place_found (Err at) within is = sym (list_any_none (λ (field : FieldPlace). field.place == place) fields (λ k d below.
      elim (cases_lt k at) [
        | inl early ↦ before_place (get_or fields k d) ((is in_turn).0 k d (omega arith) early)
        | inr late ↦ behind_place (get_or fields k d) ((is in_turn).1 k d late below)
      ]))
