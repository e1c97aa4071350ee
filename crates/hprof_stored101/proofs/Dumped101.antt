-- The 1.0.1 dump of a heap, whose objects are rows.
use Rattle.std.proofs.Common.{◌≡◌, ℕ, List, [], ◌∷◌, ◌++◌, length, Option, Result, Ok, Err, refl, sym, ap, ◌∙◌}
use Rattle.std.proofs.Common.{append_assoc, arith}
use Rattle.std.specs.List.{flat_map}
use Rattle.std.specs.Io.KnownBytes.{Appends}
use Rattle.std.proofs.KnownBytes.{Appends-trans}
use Rattle.std.proofs.lemmas.Grind.{flat_map-append}
use Rattle.std.proofs.lemmas.List.Concat.{length-flat_map}
use Rattle.std.proofs.lemmas.List.Elements.{filter-append}
use Rattle.std.proofs.lemmas.List.Folds.{flat_map-map}
use Rattle.hprof_devices.proofs.Writes.{WritesFront-then}
use Rattle.hprof_values.specs.declared.ids.IdSize.{IdSize}
use Rattle.hprof_items.specs.declared.header.Version.TheVariants.{V101}
use Rattle.hprof_items.specs.FactValue.{FactValue}
use Rattle.hprof_items.specs.Header.{header_bytes}
use Rattle.hprof_items.specs.Head.{head_bytes}
use Rattle.hprof_items.specs.SubRecord.{dump_bytes}
use Rattle.hprof_rows.specs.HeapValue.{HeapValue}
use Rattle.hprof_rows.specs.SubFacts.{is_sub_fact, sub_facts}
use Rattle.hprof_dump.specs.Dump.{record_facts_bytes}
use Rattle.hprof_dump.specs.Dump101.{dump101, heap_dump, sub_len}
use Rattle.hprof_dump.proofs.Counting101.{heap_dump_by, no_heap_dump}
use Rattle.hprof_merge.specs.Rows.{ByteRow}
use Rattle.hprof_objects.specs.Whole.{AreObjects}
use Rattle.hprof_stored.specs.Dumping.{WritesOrStops}
use Rattle.hprof_stored.proofs.Dumped.{are_subs, same_records}
use Rattle.hprof_stored101.specs.Dumping101.{body_with, dump101_with, dump_head, front101, heap_dump_of, own_bytes, rows_bytes}

-- ---- the parts of the dump

-- the head and the body of a HEAP_DUMP
head_and_body : (body : List ℕ) → dump_head (length body) ++ body ≡ heap_dump_of body
head_and_body [] = refl
head_and_body (first ∷ others) = refl

-- the rows stand behind the front
pub front_and_rows : (heap : HeapValue) (rows : List ByteRow) (len : ℕ) → len ≡ length (body_with heap rows)
    → front101 heap len ++ rows_bytes rows ≡ dump101_with heap rows
front_and_rows heap rows len is =
    let header = header_bytes (record { version = V101; ids = heap.ids; millis = heap.millis }) in
    let records = record_facts_bytes heap.ids heap.facts in
    let own = own_bytes heap in
    append_assoc (header ++ records) (dump_head len ++ own) (rows_bytes rows)
    ∙ append_assoc header records ((dump_head len ++ own) ++ rows_bytes rows)
    ∙ ap (λ (l : List ℕ). header ++ (records ++ l))
    (append_assoc (dump_head len) own (rows_bytes rows)
    ∙ ap (λ (n : ℕ). dump_head n ++ body_with heap rows) is
    ∙ head_and_body (body_with heap rows))

-- the front was written, and then the rows as far as it went
pub then_stops : {A E : Type 0} (old mid new : Option (List ℕ)) (r : Result A E) (front rest : List ℕ) → Appends old mid front
    → WritesOrStops mid new r rest → WritesOrStops old new r (front ++ rest)
then_stops old mid new (Ok done) front rest first then = Appends-trans old mid new front rest first then
then_stops old mid new (Err stop) front rest first then = WritesFront-then old mid new front rest first then

-- ---- objects behind a heap

-- the bytes of sub-records in one HEAP_DUMP
dump_of_subs : (ids : IdSize) (facts : List FactValue) (body : List ℕ) → body ≡ flat_map (dump_bytes ids) (sub_facts facts)
    → heap_dump_of body ≡ heap_dump ids (sub_facts facts)
dump_of_subs ids facts [] is =
    sym (no_heap_dump ids facts (sym (length-flat_map (dump_bytes ids) (sub_facts facts)) ∙ ap length (sym is)))
dump_of_subs ids facts (first ∷ others) is =
    ap (λ (l : List ℕ). head_bytes 0x0c 0 (length (first ∷ others)) ++ l) is
    ∙ heap_dump_by ids (sub_facts facts) (length (first ∷ others))
    (ap length is ∙ length-flat_map (dump_bytes ids) (sub_facts facts)) (omega arith)

module _ (heap : HeapValue) (rows : List ByteRow) (objects : List FactValue) (are : AreObjects heap.ids rows objects) where
  -- the bodies are the same
  body_of_all : body_with heap rows ≡ flat_map (dump_bytes heap.ids) (sub_facts (heap.facts ++ objects))
  body_of_all =
      let subs = are_subs heap.ids rows objects are in
      let f = dump_bytes heap.ids in
      sym (ap (flat_map f)
      (filter-append is_sub_fact heap.facts objects ∙ ap (λ (l : List FactValue). sub_facts heap.facts ++ l) subs.all)
      ∙ flat_map-append f (sub_facts heap.facts) objects
      ∙ ap (λ (l : List ℕ). own_bytes heap ++ l)
      (sym (flat_map-map (λ (sub : List ℕ). sub) f objects)
      ∙ ap (flat_map (λ (sub : List ℕ). sub)) subs.bytes
      ∙ flat_map-map (λ (sub : List ℕ). sub) (λ (row : ByteRow). row.1) rows))

  pub length_of_all : length (body_with heap rows) ≡ sub_len heap.ids (heap.facts ++ objects)
  length_of_all =
      ap length body_of_all ∙ length-flat_map (dump_bytes heap.ids) (sub_facts (heap.facts ++ objects))

  pub dump101_of_all : dump101_with heap rows ≡ dump101 heap.ids heap.millis (heap.facts ++ objects)
  dump101_of_all =
      let ids = heap.ids in
      let subs = are_subs ids rows objects are in
      let header = header_bytes (record { version = V101; ids = ids; millis = heap.millis }) in
      ap (λ (l : List ℕ). header ++ (l ++ heap_dump_of (body_with heap rows))) (same_records ids heap.facts objects subs.none)
      ∙ ap (λ (l : List ℕ). header ++ (record_facts_bytes ids (heap.facts ++ objects) ++ l))
      (dump_of_subs ids (heap.facts ++ objects) (body_with heap rows) body_of_all)
