use Rattle.std.proofs.Common.{◌-◌, take, refl, ap, sym, subst, ◌∙◌, arith, rules}
use Rattle.hprof_values.specs.Ids.{IsBytes}
use Rattle.hprof_values.proofs.Numbers.{IsBytes-drop, IsBytes-take}
use Rattle.hprof_values.specs.Entries.{list_end}
use Rattle.hprof_values.proofs.ListEnds.{list_span}
use Rattle.hprof_values.proofs.entry_span.list_at.Goals as goal

pub overflow_sub-end : goal.overflow_sub-end
overflow_sub-end c =
    (list_span c.args.ids c.args.kind _ c.args.item.now.bytes.now _ _ c.args.at _ _ c.count_at-count.ensures.bytes (omega arith)
    c.count_at-count.ensures.count
    (sym c.end_of.ensures ∙ c.in_ok-first.was) (sym c.entries_end.ensures.end ∙ c.in_ok-end.was) refl).ends

pub returns-clause-entries : goal.returns-clause-entries
returns-clause-entries c =
    (list_span c.args.ids c.args.kind _ c.args.item.now.bytes.now _ _ c.args.at _ _ c.count_at-count.ensures.bytes (omega arith)
    c.count_at-count.ensures.count
    (sym c.end_of.ensures ∙ c.in_ok-first.was) (sym c.entries_end.ensures.end ∙ c.in_ok-end.was) (c.split_at-2.ensures.front
    ∙ ap (take (c.in_ok-end.end - c.in_ok-first.first)) c.split_at.ensures.back)).entries

pub returns-clause-spelled : goal.returns-clause-spelled
returns-clause-spelled c =
    (list_span c.args.ids c.args.kind _ c.args.item.now.bytes.now _ _ c.args.at _ _ c.count_at-count.ensures.bytes (omega arith)
    c.count_at-count.ensures.count
    (sym c.end_of.ensures ∙ c.in_ok-first.was) (sym c.entries_end.ensures.end ∙ c.in_ok-end.was) (c.split_at-2.ensures.front
    ∙ ap (take (c.in_ok-end.end - c.in_ok-first.first)) c.split_at.ensures.back)).spelled

pub returns-clause-end : goal.returns-clause-end
unfolding list_end
returns-clause-end c = search rules

pub invariant_of-result : goal.invariant_of-result
invariant_of-result c = record {
  range = subst IsBytes (sym c.split_at-2.ensures.front) (IsBytes-take (c.in_ok-end.end - c.in_ok-first.first) c.split_at.result.1.now
      (subst IsBytes (sym c.split_at.ensures.back) (IsBytes-drop c.in_ok-first.first c.args.item.now.bytes.now
      c.count_at-count.ensures.bytes)));
  few = omega (arith, c.count_at-count.type_inv);
}
