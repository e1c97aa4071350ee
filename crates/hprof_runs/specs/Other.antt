-- The next of the others.
use Rattle.std.specs.Prelude.{ℕ, List, [], ◌∷◌, Option, Some, None}
use Rattle.std.specs.Option.{option_map}
use Rattle.hprof_merge.specs.Rows.{ByteRow}
use Rattle.hprof_runs.specs.declared.place.Place.{Place}
use Rattle.hprof_runs.specs.Picked.{others_behind}
use Rattle.hprof_runs.specs.Places.{content_at, row_at, rows_lying}

-- the row that lies at a place, if there is one, and the others behind it
abbrev pub others_from : List ℕ → Option Place → List Place → List ByteRow
others_from bytes None rest = []
others_from bytes (Some place) rest = row_at bytes place ∷ others_behind place.key None (rows_lying bytes rest)

-- the bytes of the row that lies at a place, if there is one
abbrev pub some_content : List ℕ → Option Place → Option (List ℕ)
some_content bytes place = option_map (content_at bytes) place
