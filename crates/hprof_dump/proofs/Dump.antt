-- The canonical dump is a part: its records, and what they state.
use Rattle.std.proofs.Common.{◌≡◌, ℕ, ◌≤◌, Bool, true, false, List, [], ◌∷◌, ◌++◌, length, Option, Some, None, map, refl, sym, ap, subst}
use Rattle.std.proofs.Common.{append-nil, arith}
use Rattle.std.specs.Prelude.{not}
use Rattle.std.specs.List.{AllByRecursion, filter, flat_map}
use Rattle.std.specs.Option.{is_some}
use Rattle.std.proofs.lemmas.Grind.{flat_map-append}
use Rattle.std.proofs.lemmas.List.Concat.{length-flat_map}
use Rattle.std.proofs.lemmas.List.Folds.{flat_map-map}
use Rattle.hprof_values.specs.declared.ids.IdSize.{IdSize}
use Rattle.hprof_values.specs.declared.record_tag.RecordTag.{RecordTag}
use Rattle.hprof_items.specs.declared.header.Header.{Header}
use Rattle.hprof_items.specs.declared.header.Version.TheVariants.{V102}
use Rattle.hprof_items.specs.FactValue.{FactValue}
use Rattle.hprof_items.specs.Head.{head_bytes}
use Rattle.hprof_items.specs.Header.{header_bytes}
use Rattle.hprof_items.specs.RecordBody.{record_of}
use Rattle.hprof_items.specs.Spelling.{Fits, FitsAs, spelling, spelled_as, longest_body}
use Rattle.hprof_items.specs.SubRecord.{dump_bytes}
use Rattle.hprof_stream.specs.Record.{IsRecord, IsSubFact, states, ends, dumps}
use Rattle.hprof_stream.specs.Part.{Stated, all_bytes, all_facts, IsPart}
use Rattle.hprof_rows.specs.SubFacts.{is_record_fact, is_sub_fact}
use Rattle.hprof_dump.specs.Dump.{canonical_dump, most_in_segment, segments_of, segment_bytes, record_facts_bytes, sub_facts_bytes}
use Rattle.hprof_rows.specs.HeapValue.{IsHeap}
use Rattle.hprof_rows.specs.Order.{IsCanonicalOrder}
use Rattle.hprof_dump.specs.Segments.{IsSegment}
use Rattle.hprof_rows.proofs.DumpOrder.{parts_in_order}
use Rattle.hprof_rows.proofs.FactSets.{All-from_has}
use Rattle.hprof_dump.proofs.Packing.{packed_is}

-- ---- all elements of lists

all_front : {A : Type 0} (P : A → Type 0) (xs ys : List A) → AllByRecursion P (xs ++ ys) → AllByRecursion P xs
all_front P [] ys all = tt
all_front P (x ∷ xs) ys all = (all.0, all_front P xs ys all.1)

all_back : {A : Type 0} (P : A → Type 0) (xs ys : List A) → AllByRecursion P (xs ++ ys) → AllByRecursion P ys
all_back P [] ys all = all
all_back P (x ∷ xs) ys all = all_back P xs ys all.1

all_joined : {A : Type 0} (P : A → Type 0) (xs ys : List A) → AllByRecursion P xs → AllByRecursion P ys → AllByRecursion P (xs ++ ys)
all_joined P [] ys all too = too
all_joined P (x ∷ xs) ys all too = (all.0, all_joined P xs ys all.1 too)

all_map : {A B : Type 0} (P : B → Type 0) (Q : A → Type 0) (f : A → B) (xs : List A) → ((x : A) → Q x → P (f x)) → AllByRecursion Q xs
    → AllByRecursion P (map f xs)
all_map P Q f [] each all = tt
all_map P Q f (x ∷ xs) each all = (each x all.0, all_map P Q f xs each all.1)

-- those that pass a test
passes : {A : Type 0} (P Q : A → Type 0) (test : A → Bool) (x : A) (xs : List A) (yes : Bool) → test x ≡ yes → P x
    → ((y : A) → P y → test y ≡ true → Q y) → AllByRecursion Q (filter test xs)
    → AllByRecursion Q (filter test (x ∷ xs))
passes P Q test x xs true is has each rest = rw is (each x has is, rest)
passes P Q test x xs false is has each rest = rw is rest

all_filter : {A : Type 0} (P Q : A → Type 0) (test : A → Bool) (xs : List A) → ((y : A) → P y → test y ≡ true → Q y) → AllByRecursion P xs
    → AllByRecursion Q (filter test xs)
all_filter P Q test [] each all = tt
all_filter P Q test (x ∷ xs) each all = passes P Q test x xs (test x) refl all.0 each (all_filter P Q test xs each all.1)

-- each element of each list is one of all that they have
all_within : {A : Type 0} (P : A → Type 0) (lists : List (List A)) → AllByRecursion P (flat_map (λ list. list) lists)
    → AllByRecursion (AllByRecursion P) lists
all_within P [] all = tt
all_within P (list ∷ lists) all =
    (all_front P list (flat_map (λ l. l) lists) all, all_within P lists (all_back P list (flat_map (λ l. l) lists) all))

both : {A : Type 0} (P Q : A → Type 0) (xs : List A) → AllByRecursion P xs → AllByRecursion Q xs → AllByRecursion (λ x. P x × Q x) xs
both P Q [] all too = tt
both P Q (x ∷ xs) all too = ((all.0, too.0), both P Q xs all.1 too.1)

-- ---- the records of a dump

-- the record of a fact, a segment, the end
abbrev fact_record : IdSize → FactValue → Stated
fact_record ids fact = record { bytes = spelling ids fact; facts = fact ∷ [] }

abbrev segment_record : IdSize → List FactValue → Stated
segment_record ids segment = record { bytes = segment_bytes ids segment; facts = segment }

abbrev end_record : Stated
end_record = record { bytes = head_bytes 0x2c 0 0; facts = [] }

dump_records : IdSize → List FactValue → List Stated
dump_records ids rows =
    map (fact_record ids) (filter is_record_fact rows)
    ++ (map (segment_record ids) (segments_of ids (filter is_sub_fact rows)) ++ end_record ∷ [])

-- how long a sub-record is
abbrev size_of : IdSize → FactValue → ℕ
size_of ids fact = length (dump_bytes ids fact)

-- sub-records that may stand in one segment
abbrev AreSegment : IdSize → List FactValue → Type 0
AreSegment ids segment = IsSegment (size_of ids) most_in_segment segment × AllByRecursion (IsSubFact ids) segment

abbrev IsOne : IdSize → Stated → Type 0
IsOne ids one = IsRecord ids one.bytes one.facts

-- ---- each is a record

-- a fact that a record states
states_by : (ids : IdSize) (fact : FactValue) (tag : Option RecordTag) → record_of fact ≡ tag → is_some tag ≡ true → Fits ids fact
    → IsRecord ids (spelling ids fact) (fact ∷ [])
states_by ids fact None is some fits = absurd cc
states_by ids fact (Some tag) is some fits = states (record {
  tag = tag;
  is = is;
  fits = fits;
  time = 0;
  is_time = omega arith;
  spelled = ap (λ (t : Option RecordTag). spelled_as ids t fact) is;
})

-- a fact that a sub-record states
sub_by : (ids : IdSize) (fact : FactValue) (tag : Option RecordTag) → record_of fact ≡ tag → is_some tag ≡ false → Fits ids fact
    → IsSubFact ids fact
sub_by ids fact None is none fits = record { is = is; fits = fits }
sub_by ids fact (Some tag) is none fits = absurd cc

sub_short : (ids : IdSize) (fact : FactValue) → IsSubFact ids fact → length (dump_bytes ids fact) ≤ longest_body
sub_short ids fact sub = let fits : FitsAs ids None fact = subst (λ (t : Option RecordTag). FitsAs ids t fact) sub.is sub.fits in fits.1

-- a segment is no longer than the length in its head can say
segment_short : (ids : IdSize) (segment : List FactValue) → IsSegment (size_of ids) most_in_segment segment
    → AllByRecursion (IsSubFact ids) segment
    → length (flat_map (dump_bytes ids) segment) ≤ longest_body
segment_short ids [] is subs = absurd is
segment_short ids (only ∷ []) is subs = let short = sub_short ids only subs.0 in rw length-flat_map (omega arith)
segment_short ids (first ∷ second ∷ others) is subs = rw length-flat_map (omega arith)

segment_is : (ids : IdSize) (segment : List FactValue) → AreSegment ids segment → IsOne ids (segment_record ids segment)
segment_is ids segment are =
    dumps (record {
      tag = 0x1c;
      is_dump = refl;
      time = 0;
      is_time = omega arith;
      each = are.1;
      short =
          segment_short ids segment are.0 are.1;
      spelled = refl;
    })

segments_are : (ids : IdSize) (subs : List FactValue) → AllByRecursion (IsSubFact ids) subs
    → AllByRecursion (AreSegment ids) (segments_of ids subs)
segments_are ids subs all =
    let packed = packed_is (size_of ids) most_in_segment subs in
    both (IsSegment (size_of ids) most_in_segment) (AllByRecursion (IsSubFact ids)) (segments_of ids subs) packed.each
    (all_within (IsSubFact ids) (segments_of ids subs) (subst (AllByRecursion (IsSubFact ids)) (sym packed.in_order) all))

not_true : (b : Bool) → not b ≡ true → b ≡ false
not_true true e = absurd cc
not_true false e = refl

facts_are : (ids : IdSize) (rows : List FactValue) → AllByRecursion (Fits ids) rows
    → AllByRecursion (λ fact. IsOne ids (fact_record ids fact)) (filter is_record_fact rows)
facts_are ids rows fit =
    all_filter (Fits ids) (λ fact. IsOne ids (fact_record ids fact)) is_record_fact rows
    (λ fact fits passed. states_by ids fact (record_of fact) refl passed fits) fit

subs_are : (ids : IdSize) (rows : List FactValue) → AllByRecursion (Fits ids) rows
    → AllByRecursion (IsSubFact ids) (filter is_sub_fact rows)
subs_are ids rows fit =
    all_filter (Fits ids) (IsSubFact ids) is_sub_fact rows
    (λ fact fits passed. sub_by ids fact (record_of fact) refl (not_true (is_record_fact fact) passed) fits) fit

dump_each : (ids : IdSize) (rows : List FactValue) → AllByRecursion (Fits ids) rows → AllByRecursion (IsOne ids) (dump_records ids rows)
unfolding dump_records
dump_each ids rows fit =
    let facts = filter is_record_fact rows in
    let segments = segments_of ids (filter is_sub_fact rows) in
    all_joined (IsOne ids) (map (fact_record ids) facts) (map (segment_record ids) segments ++ end_record ∷ [])
    (all_map (IsOne ids) (λ fact. IsOne ids (fact_record ids fact)) (fact_record ids) facts (λ fact is. is) (facts_are ids rows fit))
    (all_joined (IsOne ids) (map (segment_record ids) segments) (end_record ∷ [])
    (all_map (IsOne ids) (AreSegment ids) (segment_record ids) segments (segment_is ids)
    (segments_are ids (filter is_sub_fact rows) (subs_are ids rows fit)))
    (ends (record { time = 0; is_time = omega arith; spelled = refl }), tt))

-- ---- their bytes and their facts

-- the bytes are those of the dump behind its header
dump_spelled : (ids : IdSize) (rows : List FactValue)
    → record_facts_bytes ids rows ++ (sub_facts_bytes ids rows ++ head_bytes 0x2c 0 0) ≡ all_bytes (dump_records ids rows)
unfolding dump_records
dump_spelled ids rows = simp (flat_map-append, flat_map-map)

-- of facts alone
each_alone : (facts : List FactValue) → flat_map (λ fact. fact ∷ []) facts ≡ facts
each_alone [] = refl
each_alone (fact ∷ facts) = ap (λ (l : List FactValue). fact ∷ l) (each_alone facts)

-- the facts are those of records, and then the others
dump_states : (ids : IdSize) (rows : List FactValue) → IsCanonicalOrder rows → all_facts (dump_records ids rows) ≡ rows
unfolding dump_records
dump_states ids rows ordered =
    let packed = packed_is (size_of ids) most_in_segment (filter is_sub_fact rows) in
    simp (flat_map-append, flat_map-map, each_alone, packed.in_order, append-nil) (parts_in_order rows ordered)

-- the header of a dump
abbrev pub dump_header : IdSize → ℕ → Header
dump_header ids millis = record { version = V102; ids = ids; millis = millis }

-- the canonical dump of a heap is a part, and states the heap's facts
pub dump_is_part : (ids : IdSize) (millis : ℕ) (rows : List FactValue) → IsHeap (record { ids = ids; millis = millis; facts = rows })
    → IsPart (canonical_dump ids millis rows) ids millis rows
dump_is_part ids millis rows heap = record {
  header = dump_header ids millis;
  records = dump_records ids rows;
  written = record {
    is_millis = heap.is_millis;
    each = dump_each ids rows (All-from_has (Fits ids) rows heap.fit);
    spelled = ap (λ (l : List ℕ). header_bytes (dump_header ids millis) ++ l) (dump_spelled ids rows);
  };
  has_ids = refl;
  has_millis = refl;
  has_facts = dump_states ids rows heap.ordered;
}
