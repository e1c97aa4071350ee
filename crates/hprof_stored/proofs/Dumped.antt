-- The dump of a heap, whose objects are rows.
use Rattle.std.proofs.Common.{◌≡◌, ℕ, Bool, false, not, cond, List, [], ◌∷◌, ◌++◌, map, Some, refl, sym, ap, ◌∙◌, append_assoc, append-nil}
use Rattle.std.specs.Prelude.{is_some}
use Rattle.std.specs.List.{filter, flat_map}
use Rattle.std.proofs.lemmas.List.{map-append}
use Rattle.std.proofs.lemmas.List.Elements.{filter-append}
use Rattle.hprof_values.specs.declared.ids.IdSize.{IdSize}
use Rattle.hprof_items.specs.declared.header.Header.{Header}
use Rattle.hprof_items.specs.declared.header.Version.{Version}
use Rattle.hprof_items.specs.declared.header.Version.TheVariants.{V102}
use Rattle.hprof_items.specs.FactValue.{FactValue}
use Rattle.hprof_items.specs.Header.{header_bytes}
use Rattle.hprof_items.specs.Head.{head_bytes}
use Rattle.hprof_items.specs.Spelling.{spelling}
use Rattle.hprof_items.specs.SubRecord.{dump_bytes}
use Rattle.hprof_rows.specs.HeapValue.{HeapValue}
use Rattle.hprof_rows.specs.SubFacts.{is_record_fact, is_sub_fact, sub_facts}
use Rattle.hprof_dump.specs.Dump.{canonical_dump, record_facts_bytes}
use Rattle.hprof_merge.specs.Rows.{ByteRow}
use Rattle.hprof_segments.specs.ByteSegments.{segment_records}
use Rattle.hprof_segments.proofs.Mapped.{facts_packed}
use Rattle.hprof_objects.specs.ObjectRows.{object_row}
use Rattle.hprof_objects.specs.Whole.{AreObjects}
use Rattle.hprof_objects.proofs.Whole.{row_again, row_of}
use Rattle.std.proofs.Common.{subst}
use Rattle.hprof_segments.specs.ByteSegments.{IsSub}
use Rattle.hprof_segments.proofs.FactSubs.{fact_is_sub}
use Rattle.hprof_stored.specs.Dumping.{AreSubRecords, bytes_of, dump_with, front_bytes, subs_of}

-- the header with a size of identifiers and a time
abbrev pub header_of : Version → IdSize → ℕ → Header
header_of version ids millis = record { version = version; ids = ids; millis = millis }

pub dump_is : (heap : HeapValue) (rows : List ByteRow)
    → dump_with heap rows ≡ front_bytes V102 heap ++ (segment_records (subs_of heap ++ bytes_of rows) ++ head_bytes 0x2c 0 0)
dump_is heap rows =
    sym (append_assoc (header_bytes (record { version = V102; ids = heap.ids; millis = heap.millis }))
    (record_facts_bytes heap.ids heap.facts) (segment_records (subs_of heap ++ bytes_of rows) ++ head_bytes 0x2c 0 0))

-- ---- objects behind a heap

-- an object has no record
no_record_fact : (ids : IdSize) (fact : FactValue) (row : ByteRow) → object_row ids fact ≡ Some row → is_record_fact fact ≡ false
no_record_fact ids fact row is = ap is_some (row_of ids fact row is).no_record

-- objects are sub-records, and their bytes are those of the rows
pub record AreSubs (ids : IdSize) (rows : List ByteRow) (objects : List FactValue) : Type 0 where
  pub none : filter is_record_fact objects ≡ []
  pub all : sub_facts objects ≡ objects
  pub bytes : map (dump_bytes ids) objects ≡ bytes_of rows

pub are_subs : (ids : IdSize) (rows : List ByteRow) (objects : List FactValue) → AreObjects ids rows objects → AreSubs ids rows objects
are_subs ids [] [] are = record { none = refl; all = refl; bytes = refl }
are_subs ids [] (fact ∷ objects) are = absurd are
are_subs ids (row ∷ rows) [] are = absurd are
are_subs ids (row ∷ rows) (fact ∷ objects) are =
    let none = no_record_fact ids fact row are.1 in
    let bytes = sym (row_again ids fact row are.1) in
    let rest = are_subs ids rows objects are.2 in
    record {
      none = ap (λ (b : Bool). cond b (fact ∷ filter is_record_fact objects) (filter is_record_fact objects)) none ∙ rest.none;
      all =
          ap (λ (b : Bool). cond (not b) (fact ∷ sub_facts objects) (sub_facts objects)) none
          ∙ ap (λ (l : List FactValue). fact ∷ l) rest.all;
      bytes = ap (λ (l : List ℕ). l ∷ map (dump_bytes ids) objects) bytes ∙ ap (λ (l : List (List ℕ)). row.1 ∷ l) rest.bytes;
    }

-- facts without records add none
pub same_records : (ids : IdSize) (facts objects : List FactValue) → filter is_record_fact objects ≡ []
    → record_facts_bytes ids facts ≡ record_facts_bytes ids (facts ++ objects)
same_records ids facts objects none =
    ap (flat_map (spelling ids))
    (sym (filter-append is_record_fact facts objects
    ∙ ap (λ (l : List FactValue). filter is_record_fact facts ++ l) none
    ∙ append-nil (filter is_record_fact facts)))

pub dump_of_all : (heap : HeapValue) (rows : List ByteRow) (objects : List FactValue) → AreObjects heap.ids rows objects
    → dump_with heap rows ≡ canonical_dump heap.ids heap.millis (heap.facts ++ objects)
dump_of_all heap rows objects are =
    let ids = heap.ids in
    let subs = are_subs ids rows objects are in
    let header = header_bytes (record { version = V102; ids = ids; millis = heap.millis }) in
    let end : List ℕ = head_bytes 0x2c 0 0 in
    let all : subs_of heap ++ bytes_of rows ≡ map (dump_bytes ids) (sub_facts (heap.facts ++ objects)) =
    ap (λ (l : List (List ℕ)). subs_of heap ++ l) (sym subs.bytes)
    ∙ sym (map-append (dump_bytes ids) (sub_facts heap.facts) objects)
    ∙ ap (λ (l : List FactValue). map (dump_bytes ids) (sub_facts heap.facts ++ l)) (sym subs.all)
    ∙ ap (map (dump_bytes ids)) (sym (filter-append is_sub_fact heap.facts objects)) in
    ap (λ (l : List ℕ). header ++ (l ++ (segment_records (subs_of heap ++ bytes_of rows) ++ end)))
    (same_records ids heap.facts objects subs.none)
    ∙ ap (λ (l : List (List ℕ)). header ++ (record_facts_bytes ids (heap.facts ++ objects) ++ (segment_records l ++ end))) all
    ∙ ap (λ (l : List ℕ). header ++ (record_facts_bytes ids (heap.facts ++ objects) ++ (l ++ end)))
    (facts_packed ids (heap.facts ++ objects))

pub rows_are_subs : (ids : IdSize) (rows : List ByteRow) (objects : List FactValue) → AreObjects ids rows objects → AreSubRecords rows
rows_are_subs ids [] [] are = tt
rows_are_subs ids [] (fact ∷ objects) are = absurd are
rows_are_subs ids (row ∷ rows) [] are = absurd are
rows_are_subs ids (row ∷ rows) (fact ∷ objects) are =
    let none = no_record_fact ids fact row are.1 in (
      subst IsSub (sym (row_again ids fact row are.1)) (fact_is_sub ids fact are.0 (ap not none)),
      rows_are_subs ids rows objects are.2,
    )
