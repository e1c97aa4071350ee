-- All facts but objects.
use Rattle.std.specs.Prelude.{List, [], ◌∷◌, map}
use Rattle.hprof_items.specs.FactValue.{FactValue}
use Rattle.hprof_rows.specs.declared.table.Table.{Table}
use Rattle.hprof_rows.specs.declared.table.Table.TheVariants as tables
use Rattle.hprof_rows.specs.Tables.{facts_of_table, joined}

-- all tables but that of objects, in order
abbrev pub other_tables : List Table
other_tables =
    tables.Names ∷ tables.Loads ∷ tables.Unloads ∷ tables.Frames ∷ tables.Traces ∷ tables.Starts ∷ tables.Ends ∷ tables.Roots
    ∷ tables.Classes ∷ []

-- the facts of these tables, one table behind the other
abbrev pub tables_facts : List Table → List FactValue → List FactValue
tables_facts list facts = joined (map (λ table. facts_of_table table facts) list)

abbrev pub other_facts : List FactValue → List FactValue
other_facts facts = tables_facts other_tables facts
