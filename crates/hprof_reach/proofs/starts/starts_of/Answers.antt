use Rattle.std.proofs.Common.{◌≡◌, ℕ, [], ap, subst, sym}
use Rattle.std.specs.Prelude.{◌↔◌}
use Rattle.hprof_items.specs.FactValue.{value_of}
use Rattle.hprof_rows.specs.declared.table.Table.TheVariants as tables
use Rattle.hprof_rows.specs.FactsLeft.{facts_left}
use Rattle.hprof_rows.specs.Tables.{facts_of_table}
use Rattle.hprof_heap.specs.HeapFacts.{facts_of}
use Rattle.hprof_reach.specs.Reaching.{IsRooted}
use Rattle.hprof_reach.proofs.Reached.{all_starts}
use Rattle.hprof_reach.proofs.TableNodes.{GivesRoot, IsGiven, gives_no_root, gives_root, gone_over_all, gone_over_one, gone_over_other}
use Rattle.hprof_reach.proofs.TableNodes.{no_root, one_more, rooted, same_given}
use Rattle.hprof_reach.proofs.starts.starts_of.Goals as goal

pub loop-fact-preserved-in-Continue-branch-2 : goal.loop-fact-preserved-in-Continue-branch-2
loop-fact-preserved-in-Continue-branch-2 c =
    let fact = value_of c.in-Some.fact in
    let before = c.loop-fact.starts.items in
    gone_over_one GivesRoot [] before c.push.new.self.items (facts_of_table tables.Roots (facts_of c.args.heap.now))
    (facts_left c.loop-fact.fact-iterator) (facts_left c.next.new.self) fact c.loop-fact.invariant c.in-Some.ensures.steps.0
    (one_more before c.push.new.self.items c.root_id.result (GivesRoot fact) c.in_ok-push.ensures.items
    (λ id. let is = gives_root c.in-Root.root fact (ap value_of (sym c.in-Root.is)) id in
    subst (λ (n : ℕ). GivesRoot fact id ↔ (n ≡ id)) (sym c.root_id.ensures) is))

pub loop-fact-preserved : goal.loop-fact-preserved
loop-fact-preserved c =
    let fact = value_of c.in-Some.fact in
    gone_over_other GivesRoot [] c.loop-fact.starts.items (facts_of_table tables.Roots (facts_of c.args.heap.now))
    (facts_left c.loop-fact.fact-iterator) (facts_left c.next.new.self) fact c.loop-fact.invariant c.in-Some.ensures.steps.0
    (gives_no_root fact (no_root c.in-Some.fact c.in_default.not-Root))

pub returns : goal.returns
returns c =
    let facts = facts_of c.args.heap.now in
    let table = facts_of_table tables.Roots facts in
    all_starts facts c.loop-fact.starts.items
    (same_given (IsGiven GivesRoot table) (IsRooted facts) [] c.loop-fact.starts.items (rooted facts)
    (gone_over_all GivesRoot [] c.loop-fact.starts.items table (facts_left c.loop-fact.fact-iterator) c.loop-fact.invariant
    c.in-None.ensures.steps.0.0))
