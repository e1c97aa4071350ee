-- The 1.0.1 dump.
use Rattle.std.specs.Prelude.{◌≡◌, ℕ, ◌<◌, List, [], ◌∷◌, ◌++◌, length, sum_by, take, Option, Result, Ok, Err}
use Rattle.std.specs.List.{flat_map}
use Rattle.std.specs.Io.KnownBytes.{Appends}
use Rattle.hprof_values.specs.declared.ids.IdSize.{IdSize}
use Rattle.hprof_devices.specs.declared.health.Health.{Health}
use Rattle.hprof_devices.specs.declared.health.Health.TheVariants.{Well}
use Rattle.hprof_devices.specs.Device.{health_after}
use Rattle.hprof_items.specs.declared.header.Version.TheVariants.{V101}
use Rattle.hprof_items.specs.FactValue.{FactValue}
use Rattle.hprof_items.specs.Header.{header_bytes}
use Rattle.hprof_items.specs.Head.{record_bytes}
use Rattle.hprof_items.specs.SubRecord.{dump_bytes}
use Rattle.hprof_rows.specs.SubFacts.{sub_facts}
use Rattle.hprof_dump.specs.Dump.{record_facts_bytes}
use Rattle.hprof_dump.specs.declared.fault.DumpFault.{DumpFault}
use Rattle.hprof_dump.specs.declared.fault.DumpFault.TheVariants as faults

-- how many bytes the sub-records have together
abbrev pub sub_len : IdSize → List FactValue → ℕ
sub_len ids rows = sum_by (λ fact. length (dump_bytes ids fact)) (sub_facts rows)

-- they have more than may be
abbrev pub IsTooLong : ℕ → IdSize → List FactValue → Type 0
IsTooLong most ids rows = most < sub_len ids rows

-- sub-records in one HEAP_DUMP; none where there are none
abbrev pub heap_dump : IdSize → List FactValue → List ℕ
heap_dump ids [] = []
heap_dump ids (first ∷ others) = record_bytes 0x0c 0 (flat_map (dump_bytes ids) (first ∷ others))

-- the header of version 1.0.1, the spelling of each fact that a record states, the others in one HEAP_DUMP, and no
-- HEAP_DUMP_END; rows are the facts in canonical order
abbrev pub dump101 : IdSize → ℕ → List FactValue → List ℕ
dump101 ids millis rows =
    header_bytes (record { version = V101; ids = ids; millis = millis }) ++ (record_facts_bytes ids rows ++ heap_dump ids (sub_facts rows))

-- how writing a dump ends
--   written, well: what a writer holds, where it tells, and how it is doing;  before, after: the writer
abbrev pub EndsDump : {W : Type 0} → (W → Option (List ℕ)) → (W → Health) → (dump : List ℕ) → (before after : W)
    → Result (Unit {0}) DumpFault → Type 0
EndsDump written well dump before after (Ok done) = (well after ≡ Well) × Appends (written before) (written after) dump
EndsDump written well dump before after (Err (faults.Write fault)) =
    (well after ≡ health_after fault) × ((count : ℕ) × Appends (written before) (written after) (take count dump))
EndsDump written well dump before after (Err faults.TooLong) = after ≡ before
