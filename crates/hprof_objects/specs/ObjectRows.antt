-- Objects as rows: the identifier of each is its key, and its bytes are those of the sub-record that states it.
use Rattle.std.specs.Prelude.{List, Option, Some, None}
use Rattle.std.specs.List.{flat_map}
use Rattle.hprof_values.specs.declared.ids.IdSize.{IdSize}
use Rattle.hprof_items.specs.FactValue.{FactValue, Instance, ObjArray, PrimArray}
use Rattle.hprof_items.specs.SubRecord.{dump_bytes}
use Rattle.hprof_merge.specs.Rows.{ByteRow}
use Rattle.hprof_merge.specs.Showing.{only}

-- the row of an object
abbrev pub object_row : IdSize → FactValue → Option ByteRow
object_row ids (Instance id trace class bytes) = Some (id, dump_bytes ids (Instance id trace class bytes))
object_row ids (ObjArray id trace class elements) = Some (id, dump_bytes ids (ObjArray id trace class elements))
object_row ids (PrimArray id trace elem bytes) = Some (id, dump_bytes ids (PrimArray id trace elem bytes))
object_row ids fact = None

-- the rows of the objects among facts, in the order of the facts
abbrev pub object_rows : IdSize → List FactValue → List ByteRow
object_rows ids facts = flat_map (λ fact. only (object_row ids fact)) facts
