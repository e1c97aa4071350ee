use Rattle.std.proofs.Common.{◌≡◌, ◌-◌, ◌++◌, take}
use Rattle.hprof_naming.specs.Units.{units_of}
use Rattle.hprof_lines.specs.Printed.{printed_units}
use Rattle.hprof_threads.specs.ThreadNames.{units_value}
use Rattle.hprof_describe.proofs.quotes.push_first.Given as goal

abbrev pub invariant-loop : goal.invariant-loop
invariant-loop l = l.text.items ++ printed_units (take (100 - l.counter) (units_of l.units.coding l.rest))
    ≡ l.fn.text.items ++ printed_units (take 100 (units_value l.units))
