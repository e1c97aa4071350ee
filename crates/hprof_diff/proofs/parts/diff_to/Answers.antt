use Rattle.std.proofs.Common.{refl}
use Rattle.hprof_diff.specs.Kept.{totals_in}
use Rattle.hprof_diff.proofs.parts.diff_to.Goals as goal

pub returns-in-Ok-write_to-clause-ends : goal.returns-in-Ok-write_to-clause-ends
returns-in-Ok-write_to-clause-ends g c = record {
  counts = c.in-Ok.ensures.counts;
  totals = totals_in c.in-Ok.old;
  are_totals = c.in-Ok.ensures.totals;
  makes = c.in-Ok-write_to.ensures;
}

pub returns-clause-ends : goal.returns-clause-ends
returns-clause-ends g c = record {
  counts = c.in-Ok.ensures.counts;
  totals = totals_in c.in-Ok.old;
  are_totals = c.in-Ok.ensures.totals;
  makes = c.in-Err-write_to.ensures;
}

-- the text is made of the heaps of both
pub returns-in-Ok-write_to-clause-ok : goal.returns-in-Ok-write_to-clause-ok
returns-in-Ok-write_to-clause-ok g c = λ old_parts new_parts told told_too.
    let made = (c.in-Ok-write_to.ensures.ok refl).1 new_parts told_too in
    let report = made.1 in (
      made.0,
      record {
        old = totals_in c.in-Ok.old;
        are_old = c.in-Ok.ensures.totals old_parts told;
        new = report.is.new;
        are_new = record { heap = report.heap; agree = report.agree; are_totals = report.is.are_totals };
        is = report.is.is;
      },
      made.2,
    )
