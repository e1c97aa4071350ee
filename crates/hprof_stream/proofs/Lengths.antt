-- How many bytes a record and a header have, and how a header begins.
use Rattle.std.proofs.Common.{◌≡◌, ℕ, ◌+◌, false, List, length, refl, arith}
use Rattle.std.specs.Prelude.{◌==◌, slice_index}
use Rattle.hprof_values.specs.declared.ids.IdSize.{IdSize}
use Rattle.hprof_items.specs.declared.header.Header.{Header}
use Rattle.hprof_items.specs.declared.header.Version.{Version}
use Rattle.hprof_items.specs.declared.header.Version.TheVariants.{V101, V102}
use Rattle.hprof_items.specs.Header.{header_bytes}
use Rattle.hprof_items.specs.Head.{record_bytes}

-- a record has nine bytes of head, and then its body
pub length-record : (tag time : ℕ) (body : List ℕ) → length (record_bytes tag time body) ≡ 9 + length body
length-record tag time body = omega arith

-- a header of either version has 31 bytes
length_of_version : (version : Version) (ids : IdSize) (millis : ℕ)
    → length (header_bytes (record { version = version; ids = ids; millis = millis })) ≡ 31
length_of_version V101 ids millis = refl
length_of_version V102 ids millis = refl

-- a header has 31 bytes
pub length-header : (header : Header) → length (header_bytes header) ≡ 31
length-header header = length_of_version header.version header.ids header.millis

-- a header begins otherwise than a HEAP_DUMP_END
version_no_end : (version : Version) (ids : IdSize) (millis : ℕ)
    → (slice_index (header_bytes (record { version = version; ids = ids; millis = millis })) 0 == 0x2c) ≡ false
version_no_end V101 ids millis = refl
version_no_end V102 ids millis = refl

pub header_no_end : (header : Header) → (slice_index (header_bytes header) 0 == 0x2c) ≡ false
header_no_end header = version_no_end header.version header.ids header.millis
