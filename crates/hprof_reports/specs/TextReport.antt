-- The report `text`: the text of an identifier.
use Rattle.std.specs.Prelude.{◌≡◌, ℕ, List, [], ◌∷◌, ◌++◌, length, codes}
use Rattle.std.specs.Fmt.{decimal}
use Rattle.hprof_text.specs.Identifier.{id_digits}
use Rattle.hprof_values.specs.declared.ids.IdSize.{IdSize}
use Rattle.hprof_items.specs.FactValue.{FactValue}
use Rattle.hprof_rows.specs.Conflict.{IsConsistent}
use Rattle.hprof_naming.specs.Texts.{TextValue, Units, NoText, Nothing, IsText}
use Rattle.hprof_lines.specs.Line.{line_of, nothing_line}
use Rattle.hprof_lines.specs.Printed.{printed_units}

-- the number of units, and the units
abbrev pub text_start : ℕ → List ℕ
text_start count = codes "text " ++ (decimal count ++ codes " ")

abbrev pub units_line : List ℕ → List ℕ
units_line units = text_start (length units) ++ (printed_units units ++ codes "\n")

abbrev pub no_text_line : ℕ → List ℕ
no_text_line id = line_of (codes "no text at" ∷ id_digits id ∷ [])

-- the text, or that there is none
abbrev pub text_line : ℕ → TextValue → List ℕ
text_line id (Units units) = units_line units
text_line id NoText = no_text_line id
text_line id Nothing = nothing_line id

-- the line is the report of these facts, which agree, on the identifier
pub record IsTextLine (ids : IdSize) (facts : List FactValue) (id : ℕ) (line : List ℕ) : Type 0 where
  pub agree : IsConsistent facts
  pub text : TextValue
  pub is_text : IsText ids facts id text
  pub is : line ≡ text_line id text
