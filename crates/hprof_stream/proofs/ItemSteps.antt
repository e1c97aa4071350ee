-- What was read of an item.
use Rattle.std.proofs.Common.{◌≡◌, ℕ, Bool, true, false, cond, ltb, List, ◌++◌, drop, Ok, refl, sym, ap, subst, ◌∙◌, arith, Result, Err}
use Rattle.std.proofs.lemmas.Bool.{le-ltb, and_right, eqb-true}
use Rattle.std.specs.Prelude.{◌==◌, slice_index}
use Rattle.hprof_items.specs.declared.header.Header.{Header}
use Rattle.hprof_items.specs.declared.header.Version.{Version}
use Rattle.hprof_items.specs.declared.header.Version.TheVariants.{V101, V102}
use Rattle.hprof_items.specs.declared.head.Head.{Head}
use Rattle.hprof_items.specs.declared.head.HeadKind.{HeadKind}
use Rattle.hprof_items.specs.declared.head.HeadKind.TheVariants.{FactRecord, HeapDump, DumpEnd, Skipped}
use Rattle.hprof_values.specs.declared.ids.IdSize.{IdSize}
use Rattle.hprof_values.specs.declared.sub_tag.SubTag.{SubTag}
use Rattle.hprof_values.specs.declared.sub_tag.SubTag.TheVariants as tags
use Rattle.hprof_values.specs.Ids.{IsBytes}
use Rattle.hprof_values.specs.SubTag.{code_of_tag}
use Rattle.hprof_items.specs.Header.{header_bytes}
use Rattle.hprof_items.specs.Head.{head_bytes, is_fact_tag, is_dump_tag, kind_of}
use Rattle.hprof_items.specs.FactValue.{FactValue}
use Rattle.hprof_items.specs.Reading.{IsRightHead}
use Rattle.hprof_items.specs.Spelling.{longest_body}
use Rattle.hprof_items.specs.SubRecord.{sub_at, tag_of_dump}
use Rattle.hprof_items.specs.SubReading.{bounds_within}
use Rattle.hprof_items.proofs.Dumps.{tag_first, sub_found}
use Rattle.hprof_values.specs.declared.parse_stop.ParseStop.{ParseStop}
use Rattle.hprof_values.specs.declared.parse_stop.ParseStop.TheVariants as stops
use Rattle.hprof_stream.specs.ItemValue.{ItemValue}
use Rattle.hprof_stream.specs.ItemValue as items
use Rattle.hprof_stream.specs.Item.{Between}
use Rattle.hprof_stream.specs.ItemStep.{IfRead, IsFact, IsOfPlace}

-- a head that is right is right where no length is too long
pub right_at_all : (ids : IdSize) (longest : ℕ) (head : Head) → IsRightHead ids longest head → IsRightHead ids longest_body head
right_at_all ids longest head right = record {
  tag = right.tag;
  time = right.time;
  length = right.length;
  legal = right.legal;
  taken = let below = right.length in and_right (is_fact_tag head.tag) (ltb longest_body head.length)
      (le-ltb longest_body head.length (omega arith));
}

-- ---- first bytes, and which of them end a heap dump

-- that of a header does not
version_no_end : (version : Version) (ids : IdSize) (millis : ℕ) (rest : List ℕ)
    → false ≡ (slice_index (header_bytes (record { version = version; ids = ids; millis = millis }) ++ rest) 0 == 0x2c)
version_no_end V101 ids millis rest = refl
version_no_end V102 ids millis rest = refl

pub header_no_end : (header : Header) (bytes rest : List ℕ) → bytes ≡ header_bytes header ++ rest → false ≡ (slice_index bytes 0 == 0x2c)
header_no_end header bytes rest e = version_no_end header.version header.ids header.millis rest
    ∙ ap (λ (b : List ℕ). slice_index b 0 == 0x2c) (sym e)

-- that of a record does where its kind says so
abbrev pub ends_dump : HeadKind → Bool
ends_dump DumpEnd = true
ends_dump _ = false

other_kind : (fact dump : Bool) → ends_dump (cond fact FactRecord (cond dump HeapDump Skipped)) ≡ false
other_kind true dump = refl
other_kind false true = refl
other_kind false false = refl

kind_by : (tag : ℕ) (t : Bool) → (tag == 0x2c) ≡ t → ends_dump (kind_of tag) ≡ t
kind_by tag true e = ap (λ (n : ℕ). ends_dump (kind_of n)) (eqb-true tag 0x2c e)
kind_by tag false e = rw e (other_kind (is_fact_tag tag) (is_dump_tag tag))

pub record_ends : (head : Head) (bytes rest : List ℕ) (kind : HeadKind) → bytes ≡ head_bytes head.tag head.time head.length ++ rest
    → kind ≡ kind_of head.tag → ends_dump kind ≡ (slice_index bytes 0 == 0x2c)
record_ends head bytes rest kind e is =
    ap ends_dump is ∙ kind_by head.tag (head.tag == 0x2c) refl ∙ ap (λ (b : List ℕ). slice_index b 0 == 0x2c) (sym e)

-- that of a sub-record does not
tag_no_end : (tag : SubTag) → false ≡ (code_of_tag tag == 0x2c)
tag_no_end tags.RootJniGlobal = refl
tag_no_end tags.RootJniLocal = refl
tag_no_end tags.RootJavaFrame = refl
tag_no_end tags.RootNativeStack = refl
tag_no_end tags.RootSticky = refl
tag_no_end tags.RootBlock = refl
tag_no_end tags.RootMonitor = refl
tag_no_end tags.RootThreadObject = refl
tag_no_end tags.ClassDump = refl
tag_no_end tags.InstanceDump = refl
tag_no_end tags.ObjArrayDump = refl
tag_no_end tags.PrimArrayDump = refl
tag_no_end tags.RootUnknown = refl

pub sub_no_end : (ids : IdSize) (room longest : ℕ) (bytes : List ℕ) (fact : FactValue) (n : ℕ) → IsBytes bytes
    → sub_at ids (bounds_within room longest bytes) bytes ≡ Ok (fact, n)
    → false ≡ (slice_index bytes 0 == 0x2c)
sub_no_end ids room longest bytes fact n are e =
    let found = sub_found ids (bounds_within room longest bytes) bytes fact n are (omega arith) e in
    let first : slice_index bytes 0 ≡ code_of_tag (tag_of_dump fact) =
    ap (λ (b : List ℕ). slice_index b 0) (found.spelled ∙ ap (λ (d : List ℕ). d ++ drop n bytes) (tag_first ids fact found.fits)) in
    tag_no_end (tag_of_dump fact) ∙ ap (λ (b : ℕ). b == 0x2c) (sym first)

-- a record with a fact stands between records
pub fact_place : (header : Header) (bytes : List ℕ) (step : Result (ItemValue × ℕ) ParseStop) → IfRead step IsFact
    → false ≡ (slice_index bytes 0 == 0x2c)
    → IfRead step (IsOfPlace (Between header) bytes)
fact_place header bytes (Ok (items.Header h, n)) is e = absurd is
fact_place header bytes (Ok (items.Fact fact, n)) is e = (tt, e)
fact_place header bytes (Ok (items.Dump len, n)) is e = absurd is
fact_place header bytes (Ok (items.End, n)) is e = absurd is
fact_place header bytes (Ok (items.Skipped, n)) is e = absurd is
fact_place header bytes (Ok (items.Sub fact, n)) is e = absurd is
fact_place header bytes (Err stop) is e = tt

-- so does one that is passed over
pub skipped_place : (header : Header) (bytes : List ℕ) (step : Result (ItemValue × ℕ) ParseStop)
    → IfRead step (λ item. item ≡ items.Skipped)
    → false ≡ (slice_index bytes 0 == 0x2c) → IfRead step (IsOfPlace (Between header) bytes)
skipped_place header bytes (Ok (item, n)) is e = subst (IsOfPlace (Between header) bytes) (sym is) (tt, e)
skipped_place header bytes (Err stop) is e = tt
