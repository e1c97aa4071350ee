-- A stretch that goes on.
use Rattle.std.specs.Prelude.{ℕ, ◌+◌, ◌-◌, ◌^◌, min, List, [], ◌∷◌, Option, Some, None}
use Rattle.hprof_stream.specs.declared.part_place.PartPlace.{PartPlace}
use Rattle.hprof_objects.specs.declared.growing.Growing.{Growing}
use Rattle.hprof_objects.specs.declared.growing.Piece.{Piece}
use Rattle.hprof_objects.specs.declared.growing.Stands.{Stands}
use Rattle.hprof_objects.specs.declared.growing.Stands.TheVariants.{InMemory, InPart}
use Rattle.hprof_objects.specs.declared.stretch.Stretch.{Stretch}

-- the stretch with one object more
abbrev pub longer : Stretch → Stretch
longer stretch = record { part = stretch.part; place = stretch.place; passed = stretch.passed; count = stretch.count + 1 }

-- a growing one with one object more, of that identifier and so many bytes
abbrev pub extended : Growing → ℕ → ℕ → Growing
extended growing id len = record {
  stretch = longer growing.stretch;
  first = growing.first;
  last = id;
  size = min (growing.size + len) (2 ^ 64 - 1);
  stands = growing.stands;
}

-- the stretch of one object, the next one behind what came of a piece of a part, and the row in memory at that place
abbrev pub grown_first : (part : ℕ) (piece : Piece) (id len from : ℕ) → Growing
grown_first part piece id len from = record {
  stretch = record { part = part; place = piece.place; passed = piece.passed; count = 1 };
  first = id;
  last = id;
  size = len;
  stands = InMemory from;
}

-- a stretch as one that stays in its part
abbrev pub grown_in_part : Growing → Growing
grown_in_part growing = record {
  stretch = growing.stretch;
  first = growing.first;
  last = growing.last;
  size = growing.size;
  stands = InPart;
}

-- the stretch alone, if it stays in its part
abbrev pub staying_at : Stands → Stretch → List Stretch
staying_at (InMemory from) stretch = []
staying_at InPart stretch = stretch ∷ []

abbrev pub staying : Option Growing → List Stretch
staying None = []
staying (Some growing) = staying_at growing.stands growing.stretch

-- the piece that begins at a place, if there is one
abbrev pub piece_begun : Option PartPlace → Option Piece
piece_begun None = None
piece_begun (Some place) = Some (record { place = place; passed = 0 })
