-- The report `object`: the class dump of an identifier, and then the object dump of it.
use Rattle.std.specs.Prelude.{◌≡◌, ℕ, ◌/◌, List, [], ◌∷◌, ◌++◌, length, map, Option, Some, None, codes}
use Rattle.std.specs.Fmt.{decimal}
use Rattle.hex.specs.Hex.{encode_lower}
use Rattle.hprof_text.specs.Identifier.{id_digits}
use Rattle.hprof_values.specs.declared.ids.IdSize.{IdSize}
use Rattle.hprof_values.specs.declared.basic.Basic.{Basic}
use Rattle.hprof_values.specs.Basic.{width_of_basic}
use Rattle.hprof_values.specs.declared.value.Constant.{Constant}
use Rattle.hprof_values.specs.declared.value.Static.{Static}
use Rattle.hprof_values.specs.declared.value.Field.{Field}
use Rattle.hprof_values.specs.Value.{constant_of, static_of, field_of}
use Rattle.hprof_items.specs.FactValue.{FactValue, Instance, ObjArray, PrimArray}
use Rattle.hprof_rows.specs.Conflict.{IsConsistent}
use Rattle.hprof_heap.specs.Classes.{ClassValue}
use Rattle.hprof_heap.specs.Found.{IsClassFound, IsObjectFound}
use Rattle.hprof_layouts.specs.declared.field_value.FieldValue.{FieldValue}
use Rattle.hprof_layouts.specs.Fields.{FieldsValue, Values, Missing, Cyclic, WidthDiffers, AreFields}
use Rattle.hprof_naming.specs.Naming.{Naming, IsNaming}
use Rattle.hprof_naming.specs.TypeWord.{type_word}
use Rattle.hprof_lines.specs.Line.{line_of, each_line, nothing_line, text_of_lines}
use Rattle.hprof_reports.specs.Shown.{bits_text}

-- ---- a class dump

-- the line of a class, in two halves
abbrev pub line_from_signers : ClassValue → List ℕ → List ℕ
line_from_signers dump label = line_of (codes "signers" ∷ id_digits dump.signers ∷ codes "domain" ∷ id_digits dump.domain
    ∷ codes "size" ∷ decimal dump.size ∷ label ∷ [])

abbrev pub line_to_loader : ClassValue → List ℕ → List ℕ
line_to_loader dump end = codes "class " ++ (id_digits dump.id ++ (codes " super " ++ (id_digits dump.parent
    ++ (codes " loader " ++ (id_digits dump.loader ++ (codes " " ++ end))))))

abbrev pub class_line : Naming → ClassValue → List ℕ
class_line naming dump = line_of (codes "class" ∷ id_digits dump.id ∷ codes "super" ∷ id_digits dump.parent
    ∷ codes "loader" ∷ id_digits dump.loader ∷ codes "signers" ∷ id_digits dump.signers ∷ codes "domain" ∷ id_digits dump.domain
    ∷ codes "size" ∷ decimal dump.size ∷ naming.label dump.id ∷ [])

abbrev pub constant_line : IdSize → ℕ → Constant → List ℕ
constant_line ids place constant = line_of (codes "constant" ∷ decimal place ∷ decimal constant.index
    ∷ type_word constant.value.basic ∷ bits_text ids constant.value.basic constant.value.bits ∷ [])

abbrev pub static_line : Naming → IdSize → ℕ → Static → List ℕ
static_line naming ids place field = line_of (codes "static" ∷ decimal place ∷ type_word field.value.basic
    ∷ bits_text ids field.value.basic field.value.bits ∷ naming.name_text field.name ∷ [])

abbrev pub own_line : Naming → ℕ → Field → List ℕ
own_line naming place field = line_of (codes "own" ∷ decimal place ∷ type_word field.basic ∷ naming.name_text field.name ∷ [])

-- a line for each constant, each static field, each own field
abbrev pub constants_text : IdSize → ClassValue → List ℕ
constants_text ids dump = text_of_lines (each_line (constant_line ids) 0 (map constant_of dump.constants))

abbrev pub statics_text : Naming → IdSize → ClassValue → List ℕ
statics_text naming ids dump = text_of_lines (each_line (static_line naming ids) 0 (map static_of dump.statics))

abbrev pub own_fields_text : Naming → ClassValue → List ℕ
own_fields_text naming dump = text_of_lines (each_line (own_line naming) 0 (map field_of dump.fields))

-- all that is said of the class
abbrev pub class_text : Naming → IdSize → ClassValue → List ℕ
class_text naming ids dump =
    class_line naming dump ++ (constants_text ids dump ++ (statics_text naming ids dump ++ own_fields_text naming dump))

-- ---- an object dump

abbrev pub instance_line : Naming → (id class : ℕ) → List ℕ → List ℕ
instance_line naming id class bytes = line_of (codes "instance" ∷ id_digits id ∷ codes "class" ∷ id_digits class
    ∷ codes "bytes" ∷ decimal (length bytes) ∷ naming.label class ∷ [])

abbrev pub field_line : Naming → IdSize → ℕ → FieldValue → List ℕ
field_line naming ids place value = line_of (codes "field" ∷ decimal place ∷ id_digits value.class ∷ type_word value.basic
    ∷ bits_text ids value.basic value.bits ∷ naming.name_text value.name ∷ [])

-- why there are no fields; nothing is said of an array
abbrev pub why_no_fields : FieldsValue → List ℕ
why_no_fields (Missing class) = line_of (codes "no layout: class" ∷ id_digits class ∷ codes "is missing" ∷ [])
why_no_fields Cyclic = codes "no layout: the superclasses run in a circle\n"
why_no_fields (WidthDiffers width) = line_of (codes "no fields: the layout has" ∷ decimal width ∷ codes "bytes" ∷ [])
why_no_fields other = []

-- a line for each field, or why there are none
abbrev pub fields_text : Naming → IdSize → FieldsValue → List ℕ
fields_text naming ids (Values values) = text_of_lines (each_line (field_line naming ids) 0 values)
fields_text naming ids other = why_no_fields other

-- the line of an array of so many objects, of a class that has this label
abbrev pub counted_line : (id class count : ℕ) → List ℕ → List ℕ
counted_line id class count label = line_of (codes "objects" ∷ id_digits id ∷ codes "class" ∷ id_digits class
    ∷ codes "elements" ∷ decimal count ∷ label ∷ [])

abbrev pub elements_line : Naming → (id class : ℕ) → List ℕ → List ℕ
elements_line naming id class elements = counted_line id class (length elements) (naming.label class)

abbrev pub element_line : ℕ → ℕ → List ℕ
element_line place element = line_of (codes "element" ∷ decimal place ∷ id_digits element ∷ [])

abbrev pub elements_text : List ℕ → List ℕ
elements_text elements = text_of_lines (each_line element_line 0 elements)

abbrev pub values_line : IdSize → ℕ → Basic → List ℕ → List ℕ
values_line ids id elem bytes = line_of (codes "values" ∷ id_digits id ∷ type_word elem
    ∷ codes "elements" ∷ decimal (length bytes / width_of_basic ids elem) ∷ [])

-- the contents of an array, where it has any
abbrev pub contents_text : List ℕ → List ℕ
contents_text [] = []
contents_text (byte ∷ bytes) = line_of (codes "bytes" ∷ encode_lower (byte ∷ bytes) ∷ [])

-- a line for the object, then what it holds
abbrev pub object_text : Naming → IdSize → FieldsValue → FactValue → List ℕ
object_text naming ids fields (Instance id trace class bytes) = instance_line naming id class bytes ++ fields_text naming ids fields
object_text naming ids fields (ObjArray id trace class elements) =
    elements_line naming id class elements ++ elements_text elements
object_text naming ids fields (PrimArray id trace elem bytes) = values_line ids id elem bytes ++ contents_text bytes
object_text naming ids fields other = []

-- ---- the whole

abbrev pub found_text : Naming → IdSize → ℕ → FieldsValue → Option ClassValue → Option FactValue → List ℕ
found_text naming ids id fields None None = nothing_line id
found_text naming ids id fields (Some dump) None = class_text naming ids dump
found_text naming ids id fields None (Some fact) = object_text naming ids fields fact
found_text naming ids id fields (Some dump) (Some fact) = class_text naming ids dump ++ object_text naming ids fields fact

-- the text is the report of these facts, which agree, on the identifier
pub record IsObjectText (ids : IdSize) (facts : List FactValue) (id : ℕ) (text : List ℕ) : Type 0 where
  pub agree : IsConsistent facts
  pub naming : Naming
  pub is_naming : IsNaming facts naming
  pub class : Option ClassValue
  pub class_found : IsClassFound facts id class
  pub object : Option FactValue
  pub object_found : IsObjectFound facts id object
  pub fields : FieldsValue
  pub are_fields : AreFields ids facts id fields
  pub is : text ≡ found_text naming ids id fields class object
