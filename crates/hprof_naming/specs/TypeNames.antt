-- The words and the letters that name primitive types, and arrays of these.
use Rattle.std.specs.Prelude.{ℕ, Bool, ◌||◌, List, [], ◌∷◌, ◌++◌, Option, bytes_eq, codes, find}
use Rattle.hprof_values.specs.declared.basic.Basic.{Basic}
use Rattle.hprof_values.specs.declared.basic.Basic.TheVariants as basics
use Rattle.hprof_naming.specs.TypeWord.{type_word}

-- the letter with which descriptors of the type begin: Java Virtual Machine Specification, section 4.3.2
abbrev pub type_letter : Basic → List ℕ
type_letter basics.Array = codes "["
type_letter basics.Object = codes "L"
type_letter basics.Boolean = codes "Z"
type_letter basics.Char = codes "C"
type_letter basics.Float = codes "F"
type_letter basics.Double = codes "D"
type_letter basics.Byte = codes "B"
type_letter basics.Short = codes "S"
type_letter basics.Int = codes "I"
type_letter basics.Long = codes "J"

-- the types of values that refer to nothing: Java Virtual Machine Specification, section 2.3
abbrev pub primitive_types : List Basic
primitive_types =
    basics.Boolean ∷ basics.Char ∷ basics.Float ∷ basics.Double ∷ basics.Byte ∷ basics.Short ∷ basics.Int ∷ basics.Long ∷ []

-- the primitive type that has this word
abbrev pub type_named : List ℕ → Option Basic
type_named text = find (λ elem. bytes_eq (type_word elem) text) primitive_types

-- whether the word is for arrays of the type: the type's word and a pair of brackets, or the descriptor of these arrays
abbrev pub is_array_word : Basic → List ℕ → Bool
is_array_word elem word = bytes_eq word (type_word elem ++ codes "[]") || bytes_eq word (codes "[" ++ type_letter elem)

-- the primitive type whose arrays a word names
abbrev pub arrays_named : List ℕ → Option Basic
arrays_named word = find (λ elem. is_array_word elem word) primitive_types
