use Rattle.std.proofs.Common.{◌<◌, List, ap, sym, ◌∙◌, arith}
use Rattle.std.specs.Prelude.{slice_get}
use Rattle.hprof_values.specs.declared.entry.Entry.{Entry}
use Rattle.hprof_values.specs.Entries.{entries_in}
use Rattle.hprof_values.proofs.Counting.{later_entry}
use Rattle.hprof_values.proofs.entries.nth_entry.Goals as goal

pub returns-then-before-eq0-clause-entry : goal.returns-then-before-eq0-clause-entry
returns-then-before-eq0-clause-entry c =
    sym (ap (λ (es : List Entry). slice_get es 0) c.next_entry.ensures.first)
    ∙ ap (slice_get (entries_in c.args.ids c.args.kind c.loop-left.left c.loop-left.rest.now)) (sym c.if-before-eq0.true)
    ∙ c.loop-left.invariant.same

pub loop-left-preserved : goal.loop-left-preserved
loop-left-preserved c =
    let behind : 0 < c.loop-left.before = (let other = c.if-before-eq0.false in omega arith) in
    record {
      spelled = c.next_entry.ensures.spelled;
      same =
          sym (later_entry c.next_entry.result.0 _ c.loop-left.before behind)
          ∙ sym (ap (λ (es : List Entry). slice_get es c.loop-left.before) c.next_entry.ensures.first)
          ∙ c.loop-left.invariant.same;
    }
