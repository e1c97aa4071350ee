-- Writing the dump.
use Rattle.std.proofs.Common.{◌≡◌, ℕ, zero, List, ◌++◌, Option, Result, subst}
use Rattle.std.specs.Io.KnownBytes.{Appends}
use Rattle.hprof_values.specs.declared.ids.IdSize.{IdSize}
use Rattle.hprof_items.specs.declared.header.Header.{Header}
use Rattle.hprof_devices.specs.declared.health.WriteFault.{WriteFault}
use Rattle.hprof_devices.specs.Device.{Writes}
use Rattle.hprof_items.specs.FactValue.{FactValue}
use Rattle.hprof_items.specs.Header.{header_bytes}
use Rattle.hprof_devices.proofs.Writes.{Writes-then}
use Rattle.hprof_dump.specs.Dump.{record_facts_bytes}
use Rattle.hprof_rows.specs.SubFacts.{sub_facts}
use Rattle.hprof_dump.specs.Dump101.{dump101, heap_dump}
use Rattle.hprof_dump.proofs.ReadsBack.{dump_header}

-- the header was written, and then the rest as far as it went
pub dump_after_header : {B : Type 0} (ids : IdSize) (millis : ℕ) (rows : List FactValue) (header : Header) (old mid new : Option (List ℕ))
    (r : Result B WriteFault) → header ≡ dump_header ids millis → Appends old mid (header_bytes header)
    → Writes mid new r (record_facts_bytes ids rows ++ heap_dump ids (sub_facts rows))
    → Writes old new r (dump101 ids millis rows)
dump_after_header ids millis rows header old mid new r e appends rest =
    Writes-then old mid new zero r (header_bytes (dump_header ids millis))
    (record_facts_bytes ids rows ++ heap_dump ids (sub_facts rows))
    (subst (λ (h : Header). Appends old mid (header_bytes h)) e appends) rest
