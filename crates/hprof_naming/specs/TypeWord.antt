-- The words for types, as reports print them.
use Rattle.std.specs.Prelude.{ℕ, List, ◌++◌, codes}
use Rattle.hprof_values.specs.declared.basic.Basic.{Basic}
use Rattle.hprof_values.specs.declared.basic.Basic.TheVariants as basics

-- the word for a type: heapDumper.cpp, "HPROF binary format", the basic types
abbrev pub type_word : Basic → List ℕ
type_word basics.Array = codes "array"
type_word basics.Object = codes "object"
type_word basics.Boolean = codes "boolean"
type_word basics.Char = codes "char"
type_word basics.Float = codes "float"
type_word basics.Double = codes "double"
type_word basics.Byte = codes "byte"
type_word basics.Short = codes "short"
type_word basics.Int = codes "int"
type_word basics.Long = codes "long"
