-- The label that a word means, this project's own. A class is named as in Java source, by its label, or by its descriptor; arrays as in
-- Java source, or by their label.
use Rattle.std.specs.Prelude.{◌≡◌, ℕ, ◌-◌, ◌/◌, nat_eq, nat_lt, ◌==◌, ◌&&◌, Bool, true, false, if◌then◌else◌, Option, Some, None}
use Rattle.std.specs.Prelude.{List, [], ◌∷◌, ◌++◌, length, map, take, drop, replicate, codes}
use Rattle.std.specs.List.{starts_with, ends_with}
use Rattle.hprof_values.specs.declared.basic.Basic.{Basic}
use Rattle.hprof_naming.specs.declared.meant_label.MeantLabel.{MeantLabel}
use Rattle.hprof_naming.specs.TypeNames.{type_letter, type_named}

-- ---- dots and slashes

-- a byte, but a slash in the place of a dot
abbrev pub slashed_byte : ℕ → ℕ
slashed_byte byte = if byte == 46 then 47 else byte

-- Java source has dots between the parts of a name, and a heap dump slashes
abbrev pub slashed : List ℕ → List ℕ
slashed text = map slashed_byte text

-- ---- the pairs `[]` at the end of a word

-- whether bytes are pairs, one behind the other
abbrev pub are_pairs : List ℕ → Bool
are_pairs [] = true
are_pairs (byte ∷ []) = false
are_pairs (one ∷ other ∷ bytes) = one == 91 && other == 93 && are_pairs bytes

-- the bytes before the pairs at the end: the fewest behind which there are only pairs
abbrev pub before_pairs : List ℕ → List ℕ
before_pairs [] = []
before_pairs (byte ∷ bytes) = if are_pairs (byte ∷ bytes) then [] else byte ∷ before_pairs bytes

-- the number of the pairs
abbrev pub count_of_pairs : List ℕ → ℕ
count_of_pairs word = (length word - length (before_pairs word)) / 2

-- ---- what stands before the pairs

-- whether a text is `L`, at least one byte, and `;`, as the descriptor of a class: Java Virtual Machine Specification, section 4.3.2
abbrev pub is_class_descriptor : List ℕ → Bool
is_class_descriptor text = nat_lt 2 (length text) && starts_with nat_eq text (codes "L") && ends_with nat_eq text (codes ";")

-- the name of the class: what stands between them, or else the text
abbrev pub bare_name : List ℕ → List ℕ
bare_name text = if is_class_descriptor text then take (length text - 2) (drop 1 text) else text

-- the descriptor of a primitive type, or of the class of that name
abbrev pub descriptor_of : Option Basic → List ℕ → List ℕ
descriptor_of (Some elem) name = type_letter elem
descriptor_of None name = codes "L" ++ name ++ codes ";"

-- ---- the label

-- the label of a class; of arrays, as many `[` as they have dimensions and the descriptor of what they hold in the end
abbrev pub label_with : (dimensions : ℕ) → Option Basic → (name : List ℕ) → List ℕ
label_with dimensions elem name = if dimensions == 0 then name else replicate dimensions 91 ++ descriptor_of elem name

-- the label that a word means
abbrev pub meant_label : List ℕ → List ℕ
meant_label word = label_with (count_of_pairs word) (type_named (before_pairs word)) (bare_name (before_pairs word))

-- the word means the label, dots as slashes
abbrev pub Means : (word label : List ℕ) → Type 0
Means word label = slashed label ≡ slashed (meant_label word)

-- ---- a word that was read

-- the label that it means
abbrev pub label_value : MeantLabel → List ℕ
label_value meant = label_with meant.dimensions meant.elem meant.name.now

-- this was read from the word
abbrev pub IsMeantBy : List ℕ → MeantLabel → Type 0
IsMeantBy word meant = label_value meant ≡ meant_label word
