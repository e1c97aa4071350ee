-- The facts that records state, and those that sub-records state.
use Rattle.std.specs.Prelude.{Bool, not, List, is_some}
use Rattle.std.specs.List.{filter}
use Rattle.hprof_items.specs.FactValue.{FactValue}
use Rattle.hprof_items.specs.RecordBody.{record_of}

-- whether a record states the fact; sub-records state the others
abbrev pub is_record_fact : FactValue → Bool
is_record_fact fact = is_some (record_of fact)

abbrev pub is_sub_fact : FactValue → Bool
is_sub_fact fact = not (is_record_fact fact)

-- those that sub-records state
abbrev pub sub_facts : List FactValue → List FactValue
sub_facts rows = filter is_sub_fact rows
