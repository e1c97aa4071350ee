-- The report `retained`: which classes and types keep most alive. Its form is this project's own.
use Rattle.std.specs.Prelude.{◌≡◌, ℕ, List, ◌++◌, codes}
use Rattle.std.specs.Fmt.{decimal}
use Rattle.std.specs.List.{flat_map}
use Rattle.hprof_values.specs.declared.ids.IdSize.{IdSize}
use Rattle.hprof_items.specs.FactValue.{FactValue}
use Rattle.hprof_rows.specs.Conflict.{IsConsistent}
use Rattle.hprof_by_label.specs.LabelRows.{AreRows, RowValue}

-- a label with its sums
abbrev pub row_line : RowValue → List ℕ
row_line row = decimal row.retained ++ codes " " ++ decimal row.bytes ++ codes " " ++ decimal row.count ++ codes " " ++ row.label
    ++ codes "\n"

-- the text is the report of these facts, which agree
pub record IsRetainedText (ids : IdSize) (facts : List FactValue) (text : List ℕ) : Type 0 where
  pub agree : IsConsistent facts
  pub rows : List RowValue
  pub are_rows : AreRows ids facts rows
  pub is : text ≡ flat_map row_line rows
