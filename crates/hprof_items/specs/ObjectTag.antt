-- The tag of the sub-record that states a class, an instance or an array.
use Rattle.std.specs.Prelude.{Option, Some, None}
use Rattle.hprof_values.specs.declared.sub_tag.SubTag.{SubTag}
use Rattle.hprof_values.specs.declared.sub_tag.SubTag.TheVariants as tags
use Rattle.hprof_items.specs.FactValue.{FactValue, Class, Instance, ObjArray, PrimArray}

abbrev pub object_of : FactValue → Option SubTag
object_of (Class id trace parent loader signers domain reserved1 reserved2 size constants statics fields) = Some tags.ClassDump
object_of (Instance id trace class bytes) = Some tags.InstanceDump
object_of (ObjArray id trace class elements) = Some tags.ObjArrayDump
object_of (PrimArray id trace elem bytes) = Some tags.PrimArrayDump
object_of _ = None
