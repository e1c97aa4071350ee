-- The report `check`: a line for each part, how many facts each table of their heap has, how many names are bad.
use Rattle.std.specs.Prelude.{◌≡◌, ℕ, suc, Bool, true, false, List, [], ◌∷◌, ◌++◌, length, codes}
use Rattle.std.specs.Fmt.{decimal}
use Rattle.std.specs.List.{flat_map}
use Rattle.hprof_text.specs.ModifiedUtf8.{HasUnits}
use Rattle.hprof_values.specs.Ids.{width_of}
use Rattle.hprof_items.specs.declared.header.Version.{Version}
use Rattle.hprof_items.specs.declared.header.Version.TheVariants.{V101, V102}
use Rattle.hprof_items.specs.FactValue.{FactValue, Name}
use Rattle.hprof_stream.specs.declared.summary.PartSummary.{PartSummary}
use Rattle.hprof_rows.specs.declared.table.Table.{Table}
use Rattle.hprof_rows.specs.declared.table.Table.TheVariants as tables
use Rattle.hprof_rows.specs.Tables.{facts_of_table}
use Rattle.hprof_reports.specs.Counts.{IsCountOf}
use Rattle.hprof_lines.specs.Line.{count_line}

-- ---- parts

abbrev pub version_text : Version → List ℕ
version_text V101 = codes "1.0.1"
version_text V102 = codes "1.0.2"

abbrev pub yes_or_no : Bool → List ℕ
yes_or_no true = codes "yes"
yes_or_no false = codes "no"

-- what was read of the part of that number
abbrev pub part_line : ℕ → PartSummary → List ℕ
part_line number part =
    codes "part " ++ decimal number
    ++ codes ": version " ++ version_text part.header.version
    ++ codes " ids " ++ decimal (width_of part.header.ids)
    ++ codes " time " ++ decimal part.header.millis
    ++ codes " records " ++ decimal part.records
    ++ codes " facts " ++ decimal part.facts
    ++ codes " end " ++ yes_or_no part.ended
    ++ codes "\n"

-- a line for each part, the first of which has that number
abbrev pub part_lines : ℕ → List PartSummary → List ℕ
part_lines number [] = []
part_lines number (part ∷ parts) = part_line number part ++ part_lines (suc number) parts

-- ---- tables

-- the word for the facts of a table
abbrev pub table_word : Table → List ℕ
table_word tables.Names = codes "names"
table_word tables.Loads = codes "loads"
table_word tables.Unloads = codes "unloads"
table_word tables.Frames = codes "frames"
table_word tables.Traces = codes "traces"
table_word tables.Starts = codes "starts"
table_word tables.Ends = codes "ends"
table_word tables.Roots = codes "roots"
table_word tables.Classes = codes "classes"
table_word tables.Objects = codes "objects"

-- the tables in their order
abbrev pub all_tables : List Table
all_tables =
    tables.Names ∷ tables.Loads ∷ tables.Unloads ∷ tables.Frames ∷ tables.Traces ∷ tables.Starts ∷ tables.Ends ∷ tables.Roots
    ∷ tables.Classes ∷ tables.Objects ∷ []

-- how many of the facts the table has
abbrev pub table_line : List FactValue → Table → List ℕ
table_line facts table = count_line (table_word table) (length (facts_of_table table facts))

-- ---- names

-- a name whose bytes are not modified UTF-8
abbrev pub IsBadName : FactValue → Type 0
IsBadName (Name id text) = ¬ (HasUnits text)
IsBadName _ = ⊥

-- so many of the names are bad
abbrev pub AreBadNames : List FactValue → ℕ → Type 0
AreBadNames facts bad = IsCountOf IsBadName (facts_of_table tables.Names facts) bad

-- ---- the whole

-- the report of these parts, and of facts of which so many are bad names
abbrev pub check_text : List PartSummary → List FactValue → ℕ → List ℕ
check_text parts facts bad = part_lines 0 parts ++ flat_map (table_line facts) all_tables ++ count_line (codes "bad names") bad

-- the text is the report of these parts and facts
abbrev pub IsCheck : List PartSummary → List FactValue → List ℕ → Type 0
IsCheck parts facts text = (bad : ℕ) × AreBadNames facts bad × (text ≡ check_text parts facts bad)
