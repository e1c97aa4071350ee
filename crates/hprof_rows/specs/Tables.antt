-- The tables of a heap as lists of facts, one behind the other.
use Rattle.std.specs.Prelude.{◌==◌, ℕ, Bool, List, [], ◌∷◌, ◌++◌, slice_index}
use Rattle.std.specs.List.{filter}
use Rattle.hprof_items.specs.FactValue.{FactValue}
use Rattle.hprof_rows.specs.declared.table.Table.{Table}
use Rattle.hprof_rows.specs.declared.table.Table.TheVariants as tables
use Rattle.hprof_rows.specs.Order.{order_of}

-- the facts of all tables, in order
abbrev pub joined : List (List FactValue) → List FactValue
joined [] = []
joined (facts ∷ tables) = facts ++ joined tables

-- the place of a table among the tables
abbrev pub number_of_table : Table → ℕ
number_of_table tables.Names = 0
number_of_table tables.Loads = 1
number_of_table tables.Unloads = 2
number_of_table tables.Frames = 3
number_of_table tables.Traces = 4
number_of_table tables.Starts = 5
number_of_table tables.Ends = 6
number_of_table tables.Roots = 7
number_of_table tables.Classes = 8
number_of_table tables.Objects = 9

-- whether the fact stands in the table of that number
abbrev pub stands_in : ℕ → FactValue → Bool
stands_in table fact = slice_index (order_of fact) 0 == table

-- the facts of a table, in canonical order: those whose place begins with the table's number
abbrev pub facts_of_table : Table → List FactValue → List FactValue
facts_of_table table facts = filter (stands_in (number_of_table table)) facts
