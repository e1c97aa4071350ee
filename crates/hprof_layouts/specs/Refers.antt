-- Which types of values refer to something: heapDumper.cpp, "HPROF binary format", the basic types. The values of arrays and
-- objects are identifiers.
use Rattle.std.specs.Prelude.{◌≡◌, Bool, true, false, List}
use Rattle.std.specs.List.{AllByRecursion}
use Rattle.hprof_values.specs.declared.basic.Basic.{Basic}
use Rattle.hprof_values.specs.declared.basic.Basic.TheVariants as basics
use Rattle.hprof_layouts.specs.declared.slot.Slot.{Slot}

-- whether the values of the type are identifiers
abbrev pub refers : Basic → Bool
refers basics.Array = true
refers basics.Object = true
refers basics.Boolean = false
refers basics.Char = false
refers basics.Float = false
refers basics.Double = false
refers basics.Byte = false
refers basics.Short = false
refers basics.Int = false
refers basics.Long = false

-- none of the fields refers to anything
abbrev pub NoneRefers : List Slot → Type 0
NoneRefers slots = AllByRecursion (λ slot. refers slot.basic ≡ false) slots
