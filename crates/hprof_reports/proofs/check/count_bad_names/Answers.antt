use Rattle.std.proofs.Common.{sym, subst, rules}
use Rattle.hprof_items.specs.FactValue.{value_of}
use Rattle.hprof_rows.specs.declared.table.Table.TheVariants as tables
use Rattle.hprof_rows.specs.FactsLeft.{facts_left}
use Rattle.hprof_rows.specs.Tables.{facts_of_table}
use Rattle.hprof_heap.specs.HeapFacts.{facts_of}
use Rattle.hprof_reports.specs.Check.{IsBadName}
use Rattle.hprof_reports.proofs.Counts.{IsCountedTo, counted_none, counted_one, counted_other, counted_all, room_at_first, room_after_one}
use Rattle.hprof_reports.proofs.Counts.{room_after_other}
use Rattle.hprof_reports.proofs.check.count_bad_names.Goals as goal

pub loop-fact-init : goal.loop-fact-init
loop-fact-init c =
    let names = facts_of_table tables.Names (facts_of c.args.heap.now) in
    let left = c.table_facts-fact-items.ensures.all in
    rw c.into_iter-fact-iterator.ensures.into_iter_gives (record {
      counted = subst (IsCountedTo IsBadName names 0) (sym left) (counted_none IsBadName names);
      bound = room_at_first (facts_left c.table_facts-fact-items.result) names c.table_len-names.result left c.table_len-names.ensures;
    })

pub loop-fact-preserved-then-is_bad_name : goal.loop-fact-preserved-then-is_bad_name
loop-fact-preserved-then-is_bad_name c =
    let names = facts_of_table tables.Names (facts_of c.args.heap.now) in
    let fact = value_of c.in-Some.fact in
    let rest = facts_left c.next.new.self in
    let loop = c.loop-fact in
    let bad : IsBadName fact = search rules in
    record {
      counted = counted_one IsBadName names loop.bad fact rest
          (subst (IsCountedTo IsBadName names loop.bad) c.in-Some.ensures.steps.0 loop.invariant.counted) bad;
      bound = room_after_one loop.bad c.table_len-names.result (facts_left loop.fact-iterator) fact rest c.in-Some.ensures.steps.0
          loop.invariant.bound;
    }

pub loop-fact-preserved : goal.loop-fact-preserved
loop-fact-preserved c =
    let names = facts_of_table tables.Names (facts_of c.args.heap.now) in
    let fact = value_of c.in-Some.fact in
    let rest = facts_left c.next.new.self in
    let loop = c.loop-fact in
    let good : ¬ (IsBadName fact) = search rules in
    record {
      counted = counted_other IsBadName names loop.bad fact rest
          (subst (IsCountedTo IsBadName names loop.bad) c.in-Some.ensures.steps.0 loop.invariant.counted) good;
      bound = room_after_other loop.bad c.table_len-names.result (facts_left loop.fact-iterator) fact rest c.in-Some.ensures.steps.0
          loop.invariant.bound;
    }

pub returns : goal.returns
returns c =
    counted_all IsBadName (facts_of_table tables.Names (facts_of c.args.heap.now)) c.loop-fact.bad
    (facts_left c.loop-fact.fact-iterator) c.in-None.ensures.steps.0.0 c.loop-fact.invariant.counted
