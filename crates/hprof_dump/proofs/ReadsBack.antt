-- The 1.0.1 dump is a part: its records, and what they state.
use Rattle.std.proofs.Common.{◌≡◌, ℕ, ◌≤◌, Bool, true, false, List, [], ◌∷◌, ◌++◌, length, Option, Some, None, map, refl, ap, subst}
use Rattle.std.proofs.Common.{append-nil, arith}
use Rattle.std.specs.Prelude.{not}
use Rattle.std.specs.List.{AllByRecursion, filter, flat_map}
use Rattle.std.specs.Option.{is_some}
use Rattle.std.proofs.lemmas.Grind.{flat_map-append}
use Rattle.std.proofs.lemmas.List.Concat.{length-flat_map}
use Rattle.std.proofs.lemmas.List.Folds.{flat_map-map}
use Rattle.hprof_values.specs.declared.ids.IdSize.{IdSize}
use Rattle.hprof_values.specs.declared.record_tag.RecordTag.{RecordTag}
use Rattle.hprof_items.specs.declared.header.Header.{Header}
use Rattle.hprof_items.specs.declared.header.Version.TheVariants.{V101}
use Rattle.hprof_items.specs.FactValue.{FactValue}
use Rattle.hprof_items.specs.Header.{header_bytes}
use Rattle.hprof_items.specs.RecordBody.{record_of}
use Rattle.hprof_items.specs.Spelling.{Fits, spelling, spelled_as, longest_body}
use Rattle.hprof_items.specs.SubRecord.{dump_bytes}
use Rattle.hprof_stream.specs.Record.{IsRecord, IsSubFact, states, dumps}
use Rattle.hprof_stream.specs.Part.{Stated, all_bytes, all_facts, IsPart}
use Rattle.hprof_stream.proofs.Parts.{states_one}
use Rattle.hprof_dump.specs.Dump.{record_facts_bytes}
use Rattle.hprof_rows.specs.HeapValue.{IsHeap}
use Rattle.hprof_rows.specs.Order.{IsCanonicalOrder}
use Rattle.hprof_rows.specs.SubFacts.{is_record_fact, is_sub_fact}
use Rattle.hprof_rows.proofs.DumpOrder.{parts_in_order}
use Rattle.hprof_rows.proofs.FactSets.{All-from_has}
use Rattle.hprof_dump.specs.Dump101.{dump101, heap_dump, sub_len}
use Rattle.hprof_dump.proofs.Lists.{all_joined, all_map, all_filter}

-- ---- the records of a dump

-- that of a fact, and the heap dump, if any
abbrev fact_record : IdSize → FactValue → Stated
fact_record ids fact = record { bytes = spelling ids fact; facts = fact ∷ [] }

abbrev heap_dumps : IdSize → List FactValue → List Stated
heap_dumps ids [] = []
heap_dumps ids (first ∷ others) = record { bytes = heap_dump ids (first ∷ others); facts = first ∷ others } ∷ []

abbrev dump_records : IdSize → List FactValue → List Stated
dump_records ids rows = map (fact_record ids) (filter is_record_fact rows) ++ heap_dumps ids (filter is_sub_fact rows)

abbrev IsOne : IdSize → Stated → Type 0
IsOne ids one = IsRecord ids one.bytes one.facts

-- ---- each is a record

-- a fact that a record states
states_by : (ids : IdSize) (fact : FactValue) (tag : Option RecordTag) → record_of fact ≡ tag → is_some tag ≡ true → Fits ids fact
    → IsRecord ids (spelling ids fact) (fact ∷ [])
states_by ids fact None is some fits = absurd cc
states_by ids fact (Some tag) is some fits = states (record {
  tag = tag;
  is = is;
  fits = fits;
  time = 0;
  is_time = omega arith;
  spelled = ap (λ (t : Option RecordTag). spelled_as ids t fact) is;
})

-- a fact that a sub-record states
sub_by : (ids : IdSize) (fact : FactValue) (tag : Option RecordTag) → record_of fact ≡ tag → is_some tag ≡ false → Fits ids fact
    → IsSubFact ids fact
sub_by ids fact None is none fits = record { is = is; fits = fits }
sub_by ids fact (Some tag) is none fits = absurd cc

not_true : (b : Bool) → not b ≡ true → b ≡ false
not_true true e = absurd cc
not_true false e = refl

facts_are : (ids : IdSize) (rows : List FactValue) → AllByRecursion (Fits ids) rows
    → AllByRecursion (λ fact. IsOne ids (fact_record ids fact)) (filter is_record_fact rows)
facts_are ids rows fit =
    all_filter (Fits ids) (λ fact. IsOne ids (fact_record ids fact)) is_record_fact rows
    (λ fact fits passed. states_by ids fact (record_of fact) refl passed fits) fit

subs_are : (ids : IdSize) (rows : List FactValue) → AllByRecursion (Fits ids) rows
    → AllByRecursion (IsSubFact ids) (filter is_sub_fact rows)
subs_are ids rows fit =
    all_filter (Fits ids) (IsSubFact ids) is_sub_fact rows
    (λ fact fits passed. sub_by ids fact (record_of fact) refl (not_true (is_record_fact fact) passed) fits) fit

heap_dump_is : (ids : IdSize) (subs : List FactValue) → AllByRecursion (IsSubFact ids) subs
    → length (flat_map (dump_bytes ids) subs) ≤ longest_body → AllByRecursion (IsOne ids) (heap_dumps ids subs)
heap_dump_is ids [] each short = tt
heap_dump_is ids (first ∷ others) each short = (
  dumps (record {
    tag = 0x0c;
    is_dump = refl;
    time = 0;
    is_time = omega arith;
    each = each;
    short = short;
    spelled = refl;
  }),
  tt,
)

dump_each : (ids : IdSize) (rows : List FactValue) → AllByRecursion (Fits ids) rows → sub_len ids rows ≤ longest_body
    → AllByRecursion (IsOne ids) (dump_records ids rows)
dump_each ids rows fit fits =
    let facts = filter is_record_fact rows in
    let subs = filter is_sub_fact rows in
    let short : length (flat_map (dump_bytes ids) subs) ≤ longest_body = omega (arith, length-flat_map (dump_bytes ids) subs, fits) in
    all_joined (IsOne ids) (map (fact_record ids) facts) (heap_dumps ids subs)
    (all_map (IsOne ids) (λ fact. IsOne ids (fact_record ids fact)) (fact_record ids) facts (λ fact is. is) (facts_are ids rows fit))
    (heap_dump_is ids subs (subs_are ids rows fit) short)

-- ---- their bytes and their facts

heap_dump_spelled : (ids : IdSize) (subs : List FactValue) → all_bytes (heap_dumps ids subs) ≡ heap_dump ids subs
heap_dump_spelled ids [] = refl
heap_dump_spelled ids (first ∷ others) = append-nil (heap_dump ids (first ∷ others))

heap_dump_states : (ids : IdSize) (subs : List FactValue) → all_facts (heap_dumps ids subs) ≡ subs
heap_dump_states ids [] = refl
heap_dump_states ids (first ∷ others) = append-nil (first ∷ others)

-- the bytes are those of the dump behind its header
dump_spelled : (ids : IdSize) (rows : List FactValue)
    → record_facts_bytes ids rows ++ heap_dump ids (filter is_sub_fact rows) ≡ all_bytes (dump_records ids rows)
dump_spelled ids rows = simp (flat_map-append, flat_map-map, heap_dump_spelled) refl

-- of facts alone
each_alone : (facts : List FactValue) → flat_map (λ fact. fact ∷ []) facts ≡ facts
each_alone [] = refl
each_alone (fact ∷ facts) = ap (λ (l : List FactValue). fact ∷ l) (each_alone facts)

-- the facts are those of records, and then the others
dump_states : (ids : IdSize) (rows : List FactValue) → IsCanonicalOrder rows → all_facts (dump_records ids rows) ≡ rows
dump_states ids rows ordered = simp (flat_map-append, flat_map-map, each_alone, heap_dump_states) (parts_in_order rows ordered)

-- the header of a dump
abbrev pub dump_header : IdSize → ℕ → Header
dump_header ids millis = record { version = V101; ids = ids; millis = millis }

-- the 1.0.1 dump of a heap is a part, and states the heap's facts
pub dump_is_part : (ids : IdSize) (millis : ℕ) (rows : List FactValue) → IsHeap (record { ids = ids; millis = millis; facts = rows })
    → sub_len ids rows ≤ longest_body → IsPart (dump101 ids millis rows) ids millis rows
dump_is_part ids millis rows heap fits = record {
  header = dump_header ids millis;
  records = dump_records ids rows;
  written = record {
    is_millis = heap.is_millis;
    each = dump_each ids rows (All-from_has (Fits ids) rows heap.fit) fits;
    spelled = ap (λ (l : List ℕ). header_bytes (dump_header ids millis) ++ l) (dump_spelled ids rows);
  };
  has_ids = refl;
  has_millis = refl;
  has_facts = dump_states ids rows heap.ordered;
}

-- equal dumps are of equal heaps
pub same_dumps : (ids other_ids : IdSize) (millis other_millis : ℕ) (rows others : List FactValue)
    → IsHeap (record { ids = ids; millis = millis; facts = rows }) → sub_len ids rows ≤ longest_body
    → IsHeap (record { ids = other_ids; millis = other_millis; facts = others }) → sub_len other_ids others ≤ longest_body
    → dump101 ids millis rows ≡ dump101 other_ids other_millis others
    → (ids ≡ other_ids) × (millis ≡ other_millis) × (rows ≡ others)
same_dumps ids other_ids millis other_millis rows others heap fits other fits_too e =
    states_one (dump101 other_ids other_millis others) ids other_ids millis other_millis rows others
    (subst (λ (b : List ℕ). IsPart b ids millis rows) e (dump_is_part ids millis rows heap fits))
    (dump_is_part other_ids other_millis others other fits_too)
