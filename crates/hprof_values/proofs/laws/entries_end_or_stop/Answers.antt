use Rattle.hprof_values.proofs.EntryPlaces.{end_lies, lies_to_end, stop_found, stops_behind}
use Rattle.hprof_values.proofs.laws.entries_end_or_stop.Goals as goal

pub returns-clause-end : goal.returns-clause-end
returns-clause-end c = λ ids kind bounds bytes count at end are there within. (
  end_lies ids kind bounds bytes count at end are there within,
  lies_to_end ids kind bounds bytes count at end,
)

pub returns-clause-stop : goal.returns-clause-stop
returns-clause-stop c = λ ids kind bounds bytes count at stop. (
  stop_found ids kind bounds bytes count at stop,
  stops_behind ids kind bounds bytes count at stop,
)
