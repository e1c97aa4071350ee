-- What the lines of the report `check` are made of, and how far it was written.
use Rattle.std.proofs.Common.{◌≡◌, ℕ, zero, ◌+◌, ◌<◌, false, List, [], ◌++◌, Option, Result, Err, length, get_or, drop, refl, sym, ap}
use Rattle.std.proofs.Common.{subst, ◌∙◌, add-one, append_assoc, append-nil, codes, drop-cons}
use Rattle.std.specs.Fmt.{decimal}
use Rattle.std.specs.Io.KnownBytes.{Appends}
use Rattle.std.specs.List.{flat_map}
use Rattle.hprof_values.specs.declared.ids.IdSize.TheVariants.{Four}
use Rattle.hprof_values.specs.Ids.{width_of}
use Rattle.hprof_items.specs.declared.header.Version.TheVariants.{V101}
use Rattle.hprof_devices.specs.declared.health.WriteFault.{WriteFault}
use Rattle.hprof_devices.specs.Device.{Writes}
use Rattle.hprof_items.specs.FactValue.{FactValue}
use Rattle.hprof_devices.proofs.Writes.{WritesFront, Writes-then, Writes-stops, Pushed}
use Rattle.hprof_stream.specs.declared.summary.PartSummary.{PartSummary}
use Rattle.hprof_rows.specs.declared.table.Table.{Table}
use Rattle.hprof_rows.specs.Tables.{facts_of_table}
use Rattle.hprof_reports.specs.Check.{all_tables, check_text, part_line, part_lines, table_word, table_line, version_text, yes_or_no}
use Rattle.hprof_lines.specs.Line.{count_line}

-- ---- the line of a part

fifteen : (a b c d e f g h i j k l m n o : List ℕ)
    → a ++ (b ++ (c ++ (d ++ (e ++ (f ++ (g ++ (h ++ (i ++ (j ++ (k ++ (l ++ (m ++ (n ++ (o ++ []))))))))))))))
    ≡ a ++ b ++ c ++ d ++ e ++ f ++ g ++ h ++ i ++ j ++ k ++ l ++ m ++ n ++ o
fifteen a b c d e f g h i j k l m n o = simp (append_assoc, append-nil)

-- it is the pieces, one behind the other
pub part_line_of : (number : ℕ) (part : PartSummary) (digits version width millis records facts ended : List ℕ) → digits ≡ decimal number
    → version ≡ version_text part.header.version
    → width ≡ decimal (width_of part.header.ids)
    → millis ≡ decimal part.header.millis
    → records ≡ decimal part.records
    → facts ≡ decimal part.facts
    → ended ≡ yes_or_no part.ended
    → codes "part " ++ (digits ++ (codes ": version " ++ (version ++ (codes " ids " ++ (width ++ (codes " time " ++ (millis
    ++ (codes " records " ++ (records ++ (codes " facts " ++ (facts ++ (codes " end " ++ (ended ++ (codes "\n" ++ []))))))))))))))
    ≡ part_line number part
part_line_of number part digits version width millis records facts ended e1 e2 e3 e4 e5 e6 e7 =
    rw (e1, e2, e3, e4, e5, e6, e7)
    (fifteen (codes "part ") (decimal number) (codes ": version ") (version_text part.header.version) (codes " ids ")
    (decimal (width_of part.header.ids)) (codes " time ") (decimal part.header.millis) (codes " records ") (decimal part.records)
    (codes " facts ") (decimal part.facts) (codes " end ") (yes_or_no part.ended) (codes "\n"))

-- ---- the lines of tables and of parts

-- the line of a table, from its word and its number
pub table_line_of : (facts : List FactValue) (table : Table) (word : List ℕ) (number : ℕ) → word ≡ table_word table
    → number ≡ length (facts_of_table table facts)
    → count_line word number ≡ table_line facts table
table_line_of facts table word number e f = ap (λ (w : List ℕ). count_line w number) e ∙ ap (count_line (table_word table)) f

-- some part
abbrev pub no_part : PartSummary
no_part = record { header = record { version = V101; ids = Four; millis = 0 }; records = 0; facts = 0; ended = false }

-- the line of the part at the place comes next
pub part_lines_from : (parts : List PartSummary) (place : ℕ) → place < length parts
    → part_lines place (drop place parts) ≡ part_line place (get_or parts place no_part) ++ part_lines (place + 1) (drop (place + 1) parts)
part_lines_from parts place within = rw (add-one, drop-cons parts place no_part) refl

-- a piece that comes next stopped the writing
pub Pushed-stops : {B : Type 0} (old mid new : Option (List ℕ)) (r : Result B WriteFault) (f : WriteFault) (all rest piece others : List ℕ)
    → r ≡ Err f → Pushed old mid all rest → rest ≡ piece ++ others → WritesFront mid new piece → Writes old new r all
Pushed-stops old mid new r f all rest piece others stop p split writes =
    subst (Writes old new r) (sym p.parts)
    (Writes-then old mid new zero r p.front rest p.appended
    (subst (Writes mid new r) (sym split) (Writes-stops mid new r f piece others stop writes)))

-- ---- the whole

-- the lines of the parts were written, and then the rest as far as it went
pub check_after_parts : {B : Type 0} (parts : List PartSummary) (facts : List FactValue) (bad : ℕ) (old mid new : Option (List ℕ))
    (r : Result B WriteFault) → Appends old mid (part_lines 0 parts)
    → Writes mid new r (flat_map (table_line facts) all_tables ++ count_line (codes "bad names") bad)
    → Writes old new r (check_text parts facts bad)
check_after_parts parts facts bad old mid new r appends rest =
    subst (Writes old new r) (sym (append_assoc (part_lines 0 parts) (flat_map (table_line facts) all_tables)
    (count_line (codes "bad names") bad)))
    (Writes-then old mid new zero r (part_lines 0 parts) (flat_map (table_line facts) all_tables ++ count_line (codes "bad names") bad)
    appends rest)

-- the lines of the parts stopped the writing
pub check_stops_at_parts : {B : Type 0} (parts : List PartSummary) (facts : List FactValue) (bad : ℕ) (old new : Option (List ℕ))
    (r : Result B WriteFault) (f : WriteFault) → r ≡ Err f → WritesFront old new (part_lines 0 parts)
    → Writes old new r (check_text parts facts bad)
check_stops_at_parts parts facts bad old new r f stop writes =
    subst (Writes old new r) (sym (append_assoc (part_lines 0 parts) (flat_map (table_line facts) all_tables)
    (count_line (codes "bad names") bad)))
    (Writes-stops old new r f (part_lines 0 parts) (flat_map (table_line facts) all_tables ++ count_line (codes "bad names") bad) stop
    writes)
