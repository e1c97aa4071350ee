use Rattle.std.proofs.Common.{◌≡◌, true, false, List, nat_le, nat_lt, rules, of_calls, take, subst, sym, ap, ◌∙◌}
use Rattle.std.specs.Prelude.{◌↔◌, ◌≤◌, Contains, length}
use Rattle.std.specs.List.Sorted.{IsNonDecreasingBy, IsPartitionPoint, IsPartitionedBy}
use Rattle.std.proofs.lemmas.Fn.{always_returns_same}
use Rattle.hprof_edges.specs.declared.field_place.FieldPlace.{FieldPlace}
use Rattle.hprof_edges.proofs.FieldsOf.{cut_below, cut_up_to, run_ascends, run_exact}
use Rattle.hprof_edges.proofs.PlacesAscend.{by_class, in_order}
use Rattle.hprof_edges.proofs.left_out.fields_of.Goals as goal

pub returns : goal.returns
returns c =
    let fields = c.args.fields.now in
    let class = c.args.class in
    let sorted = by_class fields c.requires in
    let start = c.partition_point-start.result in
    let count = c.partition_point-count.result in
    let back = c.split_at.ensures.back in
    let first = c.partition_point-start.ensures.partitioned (λ field. nat_lt field.class class)
    (always_returns_same _ _ _ (λ a r f k. search (rules, of_calls))) (cut_below fields sorted class) in
    let last = c.partition_point-count.ensures.partitioned (λ field. nat_le field.class class)
    (always_returns_same _ _ _ (λ a r f k. search (rules, of_calls)))
    (subst (IsPartitionedBy (λ (field : FieldPlace). nat_le field.class class)) (sym back) (cut_up_to fields sorted class start)) in
    let run_is = c.split_at-2.ensures.front ∙ ap (take count) back in
    let within = c.partition_point-start.ensures.bound in
    let count_within = subst (λ (l : List FieldPlace). count ≤ length l) back c.partition_point-count.ensures.bound in
    let last_is = subst (λ (l : List FieldPlace). IsPartitionPoint (λ (field : FieldPlace). nat_le field.class class ≡ true)
    (λ (field : FieldPlace). nat_le field.class class ≡ false) l count) back last in
    record {
      exact = λ field. subst (λ (l : List FieldPlace). Contains l field ↔ (Contains fields field × (field.class ≡ class))) (sym run_is)
          (run_exact fields sorted class start count within count_within first last_is field);
      ascend = subst (IsNonDecreasingBy (λ (field : FieldPlace). field.place)) (sym run_is)
          (run_ascends fields sorted class start count within count_within first last_is (in_order fields c.requires));
    }
