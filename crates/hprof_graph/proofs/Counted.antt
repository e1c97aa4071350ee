-- How many instances there are.
use Rattle.std.specs.Prelude.{◌↔◌, nat_eq, map}
use Rattle.std.specs.List.{IsDistinct}
use Rattle.std.proofs.Common.{◌≡◌, ℕ, ◌-◌, ◌^◌, ◌≤◌, true, List, [], ◌∷◌, length, Contains, refl, ap, subst, inl, inr}
use Rattle.std.proofs.Common.{arith}
use Rattle.std.proofs.lemmas.Bool.{eq-eqb, or_left, or_right}
use Rattle.std.proofs.lemmas.List.{length-map}
use Rattle.hprof_values.specs.declared.ids.IdSize.{IdSize}
use Rattle.hprof_items.specs.FactValue.{FactValue, Instance}
use Rattle.hprof_rows.specs.declared.table.Table.TheVariants as tables
use Rattle.hprof_rows.specs.Facts.{Has}
use Rattle.hprof_rows.specs.Tables.{facts_of_table, number_of_table, stands_in}
use Rattle.hprof_rows.proofs.Picking.{picked}
use Rattle.hprof_layouts.specs.Known.{HasLayout}
use Rattle.hprof_edges.proofs.PutTogether.{nothing_there}
use Rattle.hprof_graph.specs.declared.derived.Derived.{Derived}
use Rattle.hprof_graph.specs.Derived.{CanBeLaid, CannotBeLaid, IsDerived, IsInstance}
use Rattle.hprof_graph.specs.Number.{IsNumberOf}
use Rattle.hprof_graph.proofs.Instances.{one_class}
use Rattle.hprof_graph.proofs.Members.{from_is_in, is_in, no_longer, without, without_are, without_count, without_once}

-- the identifier of an instance
abbrev instance_id : FactValue → ℕ
instance_id (Instance id trace class bytes) = id
instance_id fact = 0

is_among : (instance trace class : ℕ) (bytes : List ℕ) (facts : List FactValue) → Has facts (Instance instance trace class bytes)
    → is_in (map instance_id facts) instance ≡ true
is_among instance trace class bytes [] has = absurd has
is_among instance trace class bytes (first ∷ facts) (inl same) = or_left _ _ (eq-eqb instance (instance_id first) (ap instance_id same))
is_among instance trace class bytes (first ∷ facts) (inr has) = or_right _ _ (is_among instance trace class bytes facts has)

-- instances that are listed once each are no more than the objects
pub few : (facts : List FactValue) (list : List ℕ) → IsDistinct nat_eq list
    → ((instance : ℕ) → Contains list instance → IsInstance facts instance) → length list ≤ length (facts_of_table tables.Objects facts)
few facts list once are =
    let table = facts_of_table tables.Objects facts in
    let counted = length-map table instance_id in
    let all = no_longer list (map instance_id table) once (λ instance there.
    let is = are instance there in
    let dump = Instance instance is.1.1.trace is.0 is.1.0 in
    let has : Has table dump =
    picked (stands_in (number_of_table tables.Objects)) facts dump (record { has = is.1.1.has; passes = refl }) in
    from_is_in (map instance_id table) instance (is_among instance is.1.1.trace is.0 is.1.0 table has)) in
    omega (arith, counted, all)

-- there is none where there are no facts
none_in : (list : List ℕ) → ((instance : ℕ) → Contains list instance → ⊥) → length list ≡ 0
none_in [] none = refl
none_in (x ∷ xs) none = absurd (none x (0, omega arith, refl))

module _ (ids : IdSize) (facts : List FactValue) (derived : Derived) (is : IsDerived ids facts derived) (objects : ℕ)
    (objects_are : objects ≡ length (facts_of_table tables.Objects facts)) (fit : objects ≤ 2 ^ 64 - 1) where
  laid_few : length is.laid ≤ objects
  laid_few =
      let all = few facts is.laid is.deriving_is.laid_once
      (λ instance there. (let can = is.deriving_is.laid_are instance there in (can.class, can.is_of))) in
      omega (arith, all, objects_are)

  all_few : length is.deriving_is.all ≤ objects
  all_few =
      let all = few facts is.deriving_is.all is.deriving_is.all_once (λ instance there. (is.deriving_is.all_are instance).0 there) in
      omega (arith, all, objects_are)

  laid_exactly : derived.cuts ≡ length is.laid
  laid_exactly = let stopped_at = is.deriving_is.cuts_are in let at_most = laid_few in omega (arith, stopped_at, at_most, fit)

  all_exactly : derived.instances ≡ length is.deriving_is.all
  all_exactly = let stopped_at = is.deriving_is.instances_are in let at_most = all_few in omega (arith, stopped_at, at_most, fit)

  pub number_laid : IsNumberOf (CanBeLaid facts) derived.cuts
  number_laid = record {
    all = is.laid;
    once = is.deriving_is.laid_once;
    exact = λ instance. (is.deriving_is.laid_are instance, is.whole instance);
    number_is = laid_exactly;
  }

  waits_not_laid : (instance : ℕ) → Contains (without is.laid is.deriving_is.all) instance ↔ CannotBeLaid facts instance
  waits_not_laid instance = (
    λ there.
        let both = (without_are is.laid is.deriving_is.all instance).0 there in
        let one = (is.deriving_is.all_are instance).0 both.0 in
        record {
          class = one.0;
          is_of = one.1;
          no_layout = λ layout. both.1 (is.whole instance (record { class = one.0; is_of = one.1; layout = layout }));
        },
    λ cannot. (without_are is.laid is.deriving_is.all instance).1 (
      (is.deriving_is.all_are instance).1 (cannot.class, cannot.is_of),
      λ there.
          let can = is.deriving_is.laid_are instance there in
          cannot.no_layout (subst (HasLayout facts)
          (one_class facts is.deriving_is.agree instance can.class cannot.class can.is_of cannot.is_of)
          can.layout),
    ),
  )

  pub number_waiting : (number : ℕ) → number ≡ derived.instances - derived.cuts → IsNumberOf (CannotBeLaid facts) number
  number_waiting number e = record {
    all = without is.laid is.deriving_is.all;
    once = without_once is.laid is.deriving_is.all is.deriving_is.all_once;
    exact = waits_not_laid;
    number_is =
        let counted = without_count is.laid is.deriving_is.all is.deriving_is.all_once is.deriving_is.laid_once
        (λ instance there. (let can = is.deriving_is.laid_are instance there in
        (is.deriving_is.all_are instance).1 (can.class, can.is_of))) in
        let laid = laid_exactly in
        let all = all_exactly in
        omega (arith, e, counted, laid, all);
  }

-- where there are no facts there are none
pub no_number : (P : ℕ → Type 0) → ((id : ℕ) → P id → ⊥) → IsNumberOf P 0
unfolding IsDistinct
no_number P none = record {
  all = [];
  once = tt;
  exact = λ id. (λ there. absurd (nothing_there id there), λ is. absurd (none id is));
  number_is = refl;
}
