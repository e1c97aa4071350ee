-- The labels under which objects are counted where identifiers do not matter, as in a comparison of two dumps. They are this project's
-- own.
use Rattle.std.specs.Prelude.{ℕ, List, ◌++◌, codes, sum_by, bytes_eq}
use Rattle.std.specs.List.{filter}
use Rattle.hprof_histogram.specs.declared.row.Kind.{Kind}
use Rattle.hprof_histogram.specs.declared.row.Kind.TheVariants.{Class, Prim}
use Rattle.hprof_histogram.specs.declared.row.Row.{Row}
use Rattle.hprof_naming.specs.TypeWord.{type_word}

-- the label of a kind: of arrays of numbers or truth values their type and brackets
abbrev pub kind_label : (ℕ → List ℕ) → Kind → List ℕ
kind_label label (Class class) = label class
kind_label label (Prim elem) = type_word elem ++ codes "[]"

-- the rows with that label
abbrev pub labelled : (ℕ → List ℕ) → List ℕ → List Row → List Row
labelled label text rows = filter (λ row. bytes_eq (kind_label label row.kind) text) rows

-- how many objects these rows have together, and how many bytes
abbrev pub count_of_rows : List Row → ℕ
count_of_rows rows = sum_by (λ row. row.count) rows

abbrev pub bytes_of_rows : List Row → ℕ
bytes_of_rows rows = sum_by (λ row. row.bytes) rows
