-- The line of a place, before the first of its objects.
use Rattle.std.specs.Prelude.{ℕ, List, [], Option, Some, None, if◌then◌else◌}
use Rattle.hprof_threads.specs.declared.held.Place.{Place}
use Rattle.hprof_holders.specs.ThreadsText.{place_line, same_place}

-- the line of a place, unless the object before is held there too
abbrev pub new_place_line : Option Place → Place → List ℕ
new_place_line (Some before) place = if same_place before place then [] else place_line place
new_place_line None place = place_line place
