use Rattle.hprof_values.proofs.FieldStops.{ends_within, within_ends, first_stop, stops_first}
use Rattle.hprof_values.proofs.laws.fields_end_or_stop.Goals as goal

pub returns-clause-end : goal.returns-clause-end
returns-clause-end c = λ bounds at end widths some. (ends_within bounds at end widths some, within_ends bounds at end widths)

pub returns-clause-stop : goal.returns-clause-stop
returns-clause-stop c = λ bounds at widths stop. (first_stop bounds at widths stop, stops_first bounds at widths stop)
