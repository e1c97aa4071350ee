-- The types of values: heapDumper.cpp, "HPROF binary format", the basic types.
use Rattle.std.specs.Prelude.{◌==◌, ℕ, List, [], ◌∷◌, Option, find}
use Rattle.hprof_values.specs.declared.ids.IdSize.{IdSize}
use Rattle.hprof_values.specs.declared.basic.Basic.{Basic}
use Rattle.hprof_values.specs.declared.basic.Basic.TheVariants as basics
use Rattle.hprof_values.specs.Ids.{width_of}

-- the code that stands for the type
abbrev pub code_of_basic : Basic → ℕ
code_of_basic basics.Array = 1
code_of_basic basics.Object = 2
code_of_basic basics.Boolean = 4
code_of_basic basics.Char = 5
code_of_basic basics.Float = 6
code_of_basic basics.Double = 7
code_of_basic basics.Byte = 8
code_of_basic basics.Short = 9
code_of_basic basics.Int = 10
code_of_basic basics.Long = 11

-- all types, by their codes
abbrev pub all_basics : List Basic
all_basics = basics.Array ∷ basics.Object ∷ basics.Boolean ∷ basics.Char ∷ basics.Float ∷ basics.Double ∷ basics.Byte ∷ basics.Short
    ∷ basics.Int ∷ basics.Long ∷ []

-- the type that a code stands for
abbrev pub basic_of_code : ℕ → Option Basic
basic_of_code code = find (λ basic. code_of_basic basic == code) all_basics

-- how many bytes a value of the type has; arrays and objects are identifiers
abbrev pub width_of_basic : IdSize → Basic → ℕ
width_of_basic ids basics.Array = width_of ids
width_of_basic ids basics.Object = width_of ids
width_of_basic ids basics.Boolean = 1
width_of_basic ids basics.Char = 2
width_of_basic ids basics.Float = 4
width_of_basic ids basics.Double = 8
width_of_basic ids basics.Byte = 1
width_of_basic ids basics.Short = 2
width_of_basic ids basics.Int = 4
width_of_basic ids basics.Long = 8
