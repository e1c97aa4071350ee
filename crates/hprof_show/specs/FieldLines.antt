-- The fields of an instance, told for people.
use Rattle.std.specs.Prelude.{ℕ, ◌+◌, ◌==◌, List, [], ◌∷◌, ◌++◌, codes, if◌then◌else◌}
use Rattle.std.specs.Fmt.{decimal}
use Rattle.hprof_layouts.specs.declared.field_value.FieldValue.{FieldValue}
use Rattle.hprof_layouts.specs.Fields.{FieldsValue, Values}
use Rattle.hprof_reports.specs.ObjectText.{why_no_fields}
use Rattle.hprof_describe.specs.Findings.{Findings}
use Rattle.hprof_describe.specs.Values.{value_text}
use Rattle.hprof_show.specs.ClassLines.{equal_line}

abbrev pub field_line : Findings → ℕ → FieldValue → List ℕ
field_line found place value =
    equal_line (codes "field " ++ decimal place ++ codes " " ++ found.naming.name_text value.name) (value_text found value.basic value.bits)

-- the class that the layout takes the fields behind it from, if that is another one than before
abbrev pub from_line : Findings → (before class : ℕ) → List ℕ
from_line found before class = if class == before then [] else codes "  from " ++ found.naming.label class ++ codes "\n"

-- the fields from that place on, where those before were of that class
unfoldable pub fields_from : Findings → (before place : ℕ) → List FieldValue → List ℕ
fields_from found before place [] = []
fields_from found before place (value ∷ values) =
    from_line found before value.class ++ field_line found place value ++ fields_from found value.class (place + 1) values

-- the fields of an instance of that class, or behind two spaces why there are none
abbrev pub fields_text : Findings → ℕ → FieldsValue → List ℕ
fields_text found class (Values values) = fields_from found class 0 values
fields_text found class other = codes "  " ++ why_no_fields other
