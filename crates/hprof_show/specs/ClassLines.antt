-- A class, told for people: heapDumper.cpp, "HPROF binary format", HPROF_GC_CLASS_DUMP. The words are this project's own.
use Rattle.std.specs.Prelude.{ℕ, ◌==◌, List, [], ◌++◌, map, codes, if◌then◌else◌}
use Rattle.std.specs.Fmt.{decimal}
use Rattle.hprof_values.specs.declared.value.Constant.{Constant}
use Rattle.hprof_values.specs.declared.value.Static.{Static}
use Rattle.hprof_values.specs.declared.value.Field.{Field}
use Rattle.hprof_values.specs.Value.{constant_of, static_of, field_of}
use Rattle.hprof_heap.specs.Classes.{ClassValue}
use Rattle.hprof_naming.specs.TypeWord.{type_word}
use Rattle.hprof_lines.specs.Line.{each_line, text_of_lines}
use Rattle.hprof_describe.specs.Findings.{Findings}
use Rattle.hprof_describe.specs.Nodes.{node_text}
use Rattle.hprof_describe.specs.References.{reference_text}
use Rattle.hprof_describe.specs.Values.{value_text}

-- behind two spaces, what it is and what it is equal to
abbrev pub equal_line : List ℕ → List ℕ → List ℕ
equal_line what value = codes "  " ++ what ++ codes " = " ++ value ++ codes "\n"

-- what the class refers to by that word, if it is not 0
abbrev pub named_line : Findings → List ℕ → ℕ → List ℕ
named_line found word id = if id == 0 then [] else equal_line word (reference_text found id)

abbrev pub constant_line : Findings → ℕ → Constant → List ℕ
constant_line found place constant =
    equal_line (codes "constant " ++ decimal place) (value_text found constant.value.basic constant.value.bits)

abbrev pub static_line : Findings → ℕ → Static → List ℕ
static_line found place field =
    equal_line (codes "static " ++ decimal place ++ codes " " ++ found.naming.name_text field.name)
    (value_text found field.value.basic field.value.bits)

abbrev pub own_line : Findings → ℕ → Field → List ℕ
own_line found place field =
    codes "  own " ++ decimal place ++ codes " " ++ type_word field.basic ++ codes " " ++ found.naming.name_text field.name ++ codes "\n"

-- what the class itself refers to, but for its constants and static fields
unfoldable pub referred_text : Findings → ClassValue → List ℕ
referred_text found dump = named_line found (codes "super") dump.parent ++ named_line found (codes "loader") dump.loader
    ++ named_line found (codes "signers") dump.signers ++ named_line found (codes "domain") dump.domain

unfoldable pub constants_text : Findings → ClassValue → List ℕ
constants_text found dump = text_of_lines (each_line (constant_line found) 0 (map constant_of dump.constants))

unfoldable pub statics_text : Findings → ClassValue → List ℕ
statics_text found dump = text_of_lines (each_line (static_line found) 0 (map static_of dump.statics))

unfoldable pub own_fields_text : Findings → ClassValue → List ℕ
own_fields_text found dump = text_of_lines (each_line (own_line found) 0 (map field_of dump.fields))

-- the class, and a line for each of its parts
unfoldable pub class_text : Findings → ClassValue → List ℕ
class_text found dump = node_text found dump.id ++ codes "\n" ++ referred_text found dump ++ constants_text found dump
    ++ statics_text found dump ++ own_fields_text found dump
