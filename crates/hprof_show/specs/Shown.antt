-- The identifiers of which the report `show` says what they are: its own, and what the class and the object refer to.
use Rattle.std.specs.Prelude.{ℕ, ◌==◌, Bool, not, List, [], ◌∷◌, ◌++◌, map, take, Option, Some, None, if◌then◌else◌}
use Rattle.std.specs.List.{filter}
use Rattle.hprof_values.specs.declared.basic.Basic.{Basic}
use Rattle.hprof_values.specs.declared.entry.Entry.{Entry}
use Rattle.hprof_values.specs.Value.{constant_of, static_of}
use Rattle.hprof_items.specs.FactValue.{FactValue, Instance, ObjArray}
use Rattle.hprof_heap.specs.Classes.{ClassValue}
use Rattle.hprof_layouts.specs.declared.field_value.FieldValue.{FieldValue}
use Rattle.hprof_layouts.specs.Fields.{FieldsValue}
use Rattle.hprof_layouts.specs.Refers.{refers}
use Rattle.hprof_threads.specs.ThreadNames.{values_of}

-- what a value of the type that has these bits refers to; 0 if it refers to nothing
abbrev pub referent : Basic → ℕ → ℕ
referent basic bits = if refers basic then bits else 0

abbrev pub constant_referents : List Entry → List ℕ
constant_referents entries = map (λ constant. referent constant.value.basic constant.value.bits) (map constant_of entries)

abbrev pub static_referents : List Entry → List ℕ
static_referents entries = map (λ field. referent field.value.basic field.value.bits) (map static_of entries)

abbrev pub field_referents : List FieldValue → List ℕ
field_referents values = map (λ value. referent value.basic value.bits) values

-- the first 100 elements that are not 0
abbrev pub is_some_id : ℕ → Bool
is_some_id id = not (id == 0)

abbrev pub element_referents : List ℕ → List ℕ
element_referents elements = take 100 (filter is_some_id elements)

abbrev pub class_referents : ClassValue → List ℕ
class_referents dump =
    dump.parent ∷ dump.loader ∷ dump.signers ∷ dump.domain ∷ (constant_referents dump.constants ++ static_referents dump.statics)

abbrev pub object_referents : FieldsValue → FactValue → List ℕ
object_referents fields (Instance id trace class bytes) = field_referents (values_of fields)
object_referents fields (ObjArray id trace class elements) = element_referents elements
object_referents fields other = []

-- of what is found
abbrev pub found_class_referents : Option ClassValue → List ℕ
found_class_referents (Some dump) = class_referents dump
found_class_referents None = []

abbrev pub found_object_referents : FieldsValue → Option FactValue → List ℕ
found_object_referents fields (Some fact) = object_referents fields fact
found_object_referents fields None = []

abbrev pub shown_ids : ℕ → FieldsValue → Option ClassValue → Option FactValue → List ℕ
shown_ids id fields class object = id ∷ (found_class_referents class ++ found_object_referents fields object)
