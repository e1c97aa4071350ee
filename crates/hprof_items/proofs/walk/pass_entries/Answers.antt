use Rattle.std.proofs.Common.{sym, ◌∙◌, rules}
use Rattle.hprof_items.proofs.Walks.{entry_passed, entry_there, entry_stopped}
use Rattle.hprof_items.proofs.walk.pass_entries.Goals as goal

pub loop-left-preserved : goal.loop-left-preserved
loop-left-preserved c =
    let item = c.args.item.now in
    let at = c.loop-left.at in
    let passed = sym c.in-Ok.ensures.end in
    let kept = entry_passed c.args.ids c.args.kind item c.loop-left.left at c.in-Ok.end c.loop-left-test.true passed in
    record {
      placed = entry_there c.args.ids c.args.kind item at c.in-Ok.end passed;
      kept =
          λ more. kept more ∙ c.loop-left.invariant.kept more;
    }

pub returns-in-Err-clause-answer : goal.returns-in-Err-clause-answer
returns-in-Err-clause-answer c =
    let item = c.args.item.now in
    entry_stopped c.args.ids c.args.kind item c.loop-left.left c.loop-left.at c.in-Err.stop c.loop-left-test.true (sym c.in-Err.ensures.end)

pub returns-in-Err-clause-kept : goal.returns-in-Err-clause-kept
returns-in-Err-clause-kept c = search rules

pub returns-in-Err-clause-stands : goal.returns-in-Err-clause-stands
returns-in-Err-clause-stands c = search rules
