-- Parts that are read, the last of them up to some item: the bytes that came, the facts that they state, and all objects among them.
use Rattle.std.specs.Prelude.{ℕ, List, [], ◌∷◌, ◌++◌}
use Rattle.std.specs.List.{flat_map}
use Rattle.hprof_values.specs.declared.ids.IdSize.{IdSize}
use Rattle.hprof_items.specs.FactValue.{FactValue}
use Rattle.hprof_merge.specs.Rows.{ByteRow}
use Rattle.hprof_objects.specs.ObjectRows.{object_rows}

-- the size of the identifiers of a part, the bytes of it that came, and the facts that were taken of it
pub record PartRead : Type 0 where
  pub ids : IdSize
  pub bytes : List ℕ
  pub facts : List FactValue

-- the rows of the objects of a part
abbrev pub rows_of_part : PartRead → List ByteRow
rows_of_part part = object_rows part.ids part.facts

-- the rows of the objects of all parts
abbrev pub rows_of_parts : List PartRead → List ByteRow
rows_of_parts parts = flat_map rows_of_part parts

-- one fact more was taken of a part
abbrev pub with_fact : PartRead → FactValue → PartRead
with_fact part fact = record { ids = part.ids; bytes = part.bytes; facts = part.facts ++ fact ∷ [] }

-- bytes of a part came
abbrev pub with_bytes : PartRead → List ℕ → PartRead
with_bytes part more = record { ids = part.ids; bytes = part.bytes ++ more; facts = part.facts }

-- a part of which nothing came yet
abbrev pub part_begun : IdSize → PartRead
part_begun ids = record { ids = ids; bytes = []; facts = [] }
