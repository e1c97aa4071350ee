-- Reading at the front of some bytes: what stands there, or else the first test that fails, from the left.
use Rattle.std.specs.Prelude.{◌≡◌, ◌==◌, ◌&&◌, ℕ, ◌^◌, ◌<◌, Bool, true, false, nat_lt, List, length, take, drop, slice_index, Result, Err}
use Rattle.std.specs.Prelude.{Option, Some, None, bytes_eq, if◌then◌else◌, Ok}
use Rattle.byteorder.specs.Endian.{big_number}
use Rattle.hprof_values.specs.declared.ids.IdSize.{IdSize}
use Rattle.hprof_values.specs.declared.ids.IdSize.TheVariants.{Four, Eight}
use Rattle.hprof_items.specs.declared.header.Header.{Header}
use Rattle.hprof_items.specs.declared.header.Version.{Version}
use Rattle.hprof_items.specs.declared.header.Version.TheVariants.{V101, V102}
use Rattle.hprof_items.specs.declared.head.Head.{Head}
use Rattle.hprof_values.specs.declared.reason.Reason.{Reason}
use Rattle.hprof_values.specs.declared.reason.Reason.TheVariants.{BadMagic, BadIdSize, BadLength}
use Rattle.hprof_values.specs.declared.parse_stop.ParseStop.{ParseStop}
use Rattle.hprof_values.specs.declared.parse_stop.ParseStop.TheVariants.{Short, TooLong, Fault}
use Rattle.hprof_items.specs.Header.{text_of}
use Rattle.hprof_items.specs.Head.{is_fact_tag, is_end_tag}
use Rattle.hprof_items.specs.RecordBody.{is_legal_body, record_at}
use Rattle.hprof_values.specs.declared.record_tag.RecordTag.{RecordTag}
use Rattle.hprof_values.specs.RecordTag.{record_of_code}
use Rattle.hprof_items.specs.FactValue.{FactValue}

-- ---- the header: the text, the size of identifiers, the time

-- the version whose text this is
abbrev pub version_of : List ℕ → Option Version
version_of text = if bytes_eq text (text_of V101) then Some V101 else (if bytes_eq text (text_of V102) then Some V102 else None)

-- the size of identifiers that the number says
abbrev pub ids_of : ℕ → Option IdSize
ids_of size = if size == 4 then Some Four else (if size == 8 then Some Eight else None)

-- a header whose text and size were right so far
abbrev pub timed_header : Version → Option IdSize → List ℕ → Result (Header × ℕ) ParseStop
timed_header version None bytes = Err (Fault BadIdSize)
timed_header version (Some ids) bytes =
    if nat_lt (length bytes) 31 then Err Short else Ok (record { version = version; ids = ids; millis = big_number 8 (drop 23 bytes) }, 31)

-- a header whose text was right so far
abbrev pub sized_header : Option Version → List ℕ → Result (Header × ℕ) ParseStop
sized_header None bytes = Err (Fault BadMagic)
sized_header (Some version) bytes =
    if nat_lt (length bytes) 23 then Err Short else timed_header version (ids_of (big_number 4 (drop 19 bytes))) bytes

unfoldable pub header_at : List ℕ → Result (Header × ℕ) ParseStop
header_at bytes = if nat_lt (length bytes) 19 then Err Short else sized_header (version_of (take 19 bytes)) bytes

-- ---- the head of a record

-- a record that states a fact and is longer than the longest that is taken
abbrev pub is_too_long : ℕ → Head → Bool
is_too_long longest head = is_fact_tag head.tag && nat_lt longest head.length

-- a length that the record may have: of one that states a fact that of its body, of HEAP_DUMP_END none, of others any
abbrev pub is_legal_as : IdSize → Option RecordTag → ℕ → ℕ → Bool
is_legal_as ids (Some known) tag len = is_legal_body ids known len
is_legal_as ids None tag len = if is_end_tag tag then len == 0 else true

abbrev pub is_legal : IdSize → ℕ → ℕ → Bool
is_legal ids tag len = is_legal_as ids (record_of_code tag) tag len

-- the tests of a head that is there
abbrev pub judged_head : IdSize → ℕ → Head → Result (Head × ℕ) ParseStop
judged_head ids longest head =
    if is_legal ids head.tag head.length then (if is_too_long longest head then Err TooLong else Ok (head, 9)) else Err (Fault BadLength)

unfoldable pub head_at : IdSize → ℕ → List ℕ → Result (Head × ℕ) ParseStop
head_at ids longest bytes =
    if nat_lt (length bytes) 9 then Err Short
    else judged_head ids longest (record {
      tag = slice_index bytes 0;
      time = big_number 4 (drop 1 bytes);
      length =
          big_number 4 (drop 5 bytes);
    })

-- a head that is read: its fields lie in their ranges, and no test fails
pub record IsRightHead (ids : IdSize) (longest : ℕ) (head : Head) : Type 0 where
  pub tag : head.tag < 256
  pub time : head.time < 256 ^ 4
  pub length : head.length < 256 ^ 4
  pub legal : is_legal ids head.tag head.length ≡ true
  pub taken : is_too_long longest head ≡ false

-- ---- the body of a record that states a fact, of which the head is right

abbrev pub body_as : IdSize → Option RecordTag → List ℕ → Result FactValue Reason
body_as ids (Some known) body = record_at ids known body
body_as ids None body = Err BadLength

abbrev pub body_at : IdSize → ℕ → List ℕ → Result FactValue Reason
body_at ids tag body = body_as ids (record_of_code tag) body
