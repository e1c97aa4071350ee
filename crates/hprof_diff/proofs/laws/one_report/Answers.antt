use Rattle.std.proofs.Common.{refl}
use Rattle.hprof_diff.specs.DifferenceText.{changes_text}
use Rattle.hprof_diff.specs.OneDifference.{one_report}
use Rattle.hprof_diff.specs.OneChanges.{difference_exists}
use Rattle.hprof_diff.specs.OneTotal.{totals_exist}
use Rattle.hprof_diff.proofs.laws.one_report.Goals as goal

pub returns-clause-some : goal.returns-clause-some
returns-clause-some c = λ olds news old new agree agree_too.
    let of_old = totals_exist old.ids old.facts in
    let of_new = totals_exist new.ids new.facts in
    let changes = difference_exists of_old.0 of_new.0 old.ids new.ids old.facts new.facts of_old.1 of_new.1 in (
      changes_text changes.0,
      record {
        old = of_old.0;
        are_old = record { heap = old; agree = agree; are_totals = of_old.1 };
        new = of_new.0;
        are_new = record { heap = new; agree = agree_too; are_totals = of_new.1 };
        is = record { changes = changes.0; is_difference = changes.1; is = refl };
      },
    )

pub returns-clause-one : goal.returns-clause-one
returns-clause-one c = one_report
