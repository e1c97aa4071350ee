-- What is saved of parts: the heap without objects, and the stored objects behind its facts.
use Rattle.std.proofs.Common.{◌≡◌, ◌+◌, ℕ, zero, suc, false, List, [], ◌∷◌, ◌++◌, length, map, Option, Some, Result, Ok, Err, refl, sym, ap}
use Rattle.std.proofs.Common.{subst, ◌∙◌, arith}
use Rattle.std.specs.Prelude.{slice_get}
use Rattle.std.specs.List.{AllByRecursion}
use Rattle.std.proofs.Math.Seq.{take-length}
use Rattle.std.proofs.lemmas.List.{length-append}
use Rattle.hprof_items.specs.FactValue.{FactValue}
use Rattle.hprof_devices.specs.declared.health.Health.{Health}
use Rattle.hprof_stream.specs.declared.limits.Limits.{Limits}
use Rattle.hprof_rows.specs.declared.key.Key.TheVariants as keys
use Rattle.hprof_rows.specs.Facts.{Has}
use Rattle.hprof_rows.specs.HeapValue.{HeapValue}
use Rattle.hprof_heap.specs.declared.standing.Refusal.{Refusal}
use Rattle.hprof_heap.specs.declared.standing.Refusal.TheVariants as refusals
use Rattle.hprof_heap.specs.Gathering.{Given, Tells}
use Rattle.hprof_heap.specs.Heap.{heap_of}
use Rattle.hprof_merge.specs.Rows.{ByteRow}
use Rattle.hprof_merge.specs.TwoContents.{IsLeastWithTwoContents}
use Rattle.hprof_merge.specs.Union.{AnyHas, IsUnion}
use Rattle.hprof_parts.specs.Parts.{bytes_at}
use Rattle.hprof_objects.specs.declared.stored_objects.StoredObjects.{StoredObjects}
use Rattle.hprof_objects.specs.Log.{HoldsParts}
use Rattle.hprof_objects.specs.PartsRead.{PartRead}
use Rattle.hprof_objects.specs.ReadAgain.{IsSame}
use Rattle.hprof_objects.specs.StoredObjects.{AreToldAgain, HoldsObjects, objects_of}
use Rattle.hprof_objects.specs.Whole.{AreObjects, FitGiven, is_object, rows_given, with_objects}
use Rattle.hprof_objects.proofs.Whole.{fact_given}
use Rattle.hprof_objects.proofs.WholeHeap.{fits_given}
use Rattle.hprof_passes.specs.Passing.{objects_among}
use Rattle.hprof_engine.specs.declared.salvaged.FaultedPart.{FaultedPart}
use Rattle.hprof_engine.specs.Joining.{Tell}
use Rattle.hprof_engine.specs.Saved.{given_of}
use Rattle.hprof_engine.specs.Salvaging.{ReadsThrough}
use Rattle.hprof_stored.specs.declared.in_parts.InParts.{InParts}
use Rattle.hprof_stored.specs.declared.saving.SavedHeap.{SavedHeap}
use Rattle.hprof_stored.specs.InParts.{AreAsRead, MakeUp}
use Rattle.hprof_stored.specs.RowDecoder.{SpellsObject}
use Rattle.hprof_stored.specs.SavedParts.{AreSameIfTold, PartSaved, ReadsSaved, all_saved, read_saved}
use Rattle.hprof_stored.specs.SavingThrough.{HoldsSaved}
use Rattle.hprof_stored.specs.StoredMaking.{CanBeReadAgain}
use Rattle.hprof_stored.proofs.FrontRead.{all_saved_fit}
use Rattle.hprof_stored.proofs.Joined.{ComeLast, StandBehind, TellWhole, same_ids}
use Rattle.hprof_stored.proofs.ObjectSpelling.{row_spells}
use Rattle.hprof_stored.proofs.ObjectTable.{among_all, no_object_given, other_tables}
use Rattle.hprof_stored.proofs.SavedRows.{least_same, saved_rows, union_same}

-- ---- parts that tell the same again

same_part : (limits : Limits) (told : List (List ℕ)) (parts : List PartSaved) → AreSameIfTold limits (map Some told) parts → (number : ℕ)
    (part : PartRead) → slice_get (map read_saved parts) number ≡ Some part → IsSame limits (bytes_at (map Some told) number) part
same_part limits [] [] are number part e = absurd cc
same_part limits [] (first ∷ parts) are number part e = absurd are
same_part limits (bytes ∷ told) [] are number part e = absurd are
same_part limits (bytes ∷ told) (first ∷ parts) are zero part e =
    let same : read_saved first ≡ part = cc in
    subst (IsSame limits (Some bytes)) same are.0
same_part limits (bytes ∷ told) (first ∷ parts) are (suc number) part e = same_part limits told parts are.1 number part e

-- ---- how all parts were read

module _ {R : Type 0} (left : R → Option (List ℕ)) (health : R → Health) (pulls : R → ℕ) (limits : Limits) (old new : List R)
    (headed : ℕ) (listed : List FaultedPart) (read : ReadsSaved left health pulls limits old new (length old) headed listed)
  where
    pub through : (answer : Result HeapValue Refusal) → Tells (given_of (all_saved read.parts)) answer
        → ReadsThrough left health pulls limits old new read.reads answer
    through answer tells = record {
      each = read.each;
      all = read.all;
      saves = record {
        given = given_of (all_saved read.parts);
        saved = record {
          saved = all_saved read.parts;
          of_parts = read.of_reads;
          each = read.are_saved;
          has_given = refl;
        };
        tells = tells;
      };
    }

    -- as many as have a whole header
    pub through_given : (answer : Result HeapValue Refusal) (tells : Tells (given_of (all_saved read.parts)) answer)
        → headed ≡ length (through answer tells).saves.given
    unfolding through
    through_given answer tells = read.counted

-- left: what a reader has left to tell;  again: the bytes of the parts that are opened again;  scratch: those of the scratch at first
module _ {R S : Type 0} (left : R → Option (List ℕ)) (health : R → Health) (pulls : R → ℕ) (limits : Limits) (old new : List R)
    (stores : S → Option (List ℕ)) (scratch_health : S → Health) (again : List (Option (List ℕ))) (scratch : Option (List ℕ))
    (saved : SavedHeap S) (objects : StoredObjects S)
    (holds : HoldsSaved left health pulls limits old new stores scratch_health scratch saved)
    (finished : (limits : Limits) (reads : List PartRead) → HoldsParts stores scratch_health limits reads saved.stored.objects
    → HoldsObjects stores scratch_health limits reads objects) where
  abbrev pub heap : HeapValue
  heap = heap_of saved.stored.heap

  abbrev pub parts : List PartSaved
  parts = holds.read.parts

  abbrev pub reads : List PartRead
  reads = map read_saved parts

  abbrev pub given : List Given
  given = given_of (all_saved parts)

  pub fit : FitGiven given
  fit = all_saved_fit limits.max_item (all_saved parts) holds.read.are_saved

  sizes : AllByRecursion (λ part. part.header.ids ≡ heap.ids) given
  sizes = same_ids heap.ids given holds.tells.0

  -- parts that tell the same again
  pub as_read : CanBeReadAgain left old again scratch → (old ≡ [] → ⊥) → (told : List (List ℕ)) → Tell left old told
      → AreToldAgain stores scratch_health limits again reads objects
  as_read can some told tell =
      let bytes = can some told tell in
      let same = subst (λ (l : List (Option (List ℕ))). AreSameIfTold limits l parts) (ap (map left) (take-length old) ∙ tell)
      holds.read.same in
      record {
        holds = finished limits reads (holds.objects bytes.1);
        same = λ number part is. subst (λ (t : List (Option (List ℕ))). IsSame limits (bytes_at t number) part) (sym bytes.0)
            (same_part limits told parts same number part is);
      }

  -- the least key of which objects have two contents
  pub contents_differ : ComeLast → (id : ℕ) → IsLeastWithTwoContents (objects_of reads) id
      → Tells given (Err (refusals.Conflict (keys.Object id)))
  contents_differ last id least =
      last given heap id holds.tells fit
      (least_same (objects_of reads) (map rows_given given) (saved_rows limits.max_item parts holds.read.are_saved) id least)

  -- each row of the parts spells an object
  pub rows_spelled : (row : ByteRow) → AnyHas (objects_of reads) row → (object : FactValue) × SpellsObject heap.ids row.1 object
  rows_spelled row has =
      let of_fact = fact_given heap.ids given row sizes ((saved_rows limits.max_item parts holds.read.are_saved row).0 has) in
      (of_fact.fact, row_spells heap.ids of_fact.fact row (fits_given heap.ids given of_fact.fact sizes fit of_fact.has) of_fact.is)

  -- the objects have a union
  module _ (behind : StandBehind) (whole : TellWhole) (rows : List ByteRow) (union : IsUnion (objects_of reads) rows) where
    given_union : IsUnion (map rows_given given) rows
    given_union =
        union_same (objects_of reads) (map rows_given given) (saved_rows limits.max_item parts holds.read.are_saved) rows union

    pub stand : (objects : List FactValue) × AreObjects heap.ids rows objects
    stand = behind given heap.ids rows sizes fit given_union

    abbrev pub all : HeapValue
    all = with_objects heap stand.0

    pub tells_all : Tells given (Ok all)
    tells_all = whole given heap rows stand.0 holds.tells fit given_union stand.1

    -- they make up what was counted
    pub counted : {P : Type 0} (bytes : P → List (Option (List ℕ))) (it : InParts S P) (count : ℕ)
        → AreAsRead stores scratch_health bytes it reads
        → ((facts : List FactValue) → MakeUp stores scratch_health bytes it heap.ids heap.facts facts
        → count ≡ length (objects_among facts))
        → length heap.facts + count ≡ length all.facts
    counted bytes it count are counts =
        let none : (fact : FactValue) → Has heap.facts fact → is_object fact ≡ false =
        λ fact has. no_object_given given fact ((holds.tells.3 fact).0 has) in
        let among = among_all heap.ids heap.facts stand.0 rows stand.1 none in
        let tells = tells_all in
        let is = counts (heap.facts ++ stand.0) (record {
          reads = reads;
          as_read = are;
          rows = rows;
          union = union;
          objects = stand.0;
          are = stand.1;
          behind = refl;
          among = among;
          whole = record {
            others = other_tables heap.ids heap.facts stand.0 rows stand.1 none;
            fit = tells.4.fit;
            ordered = tells.4.ordered;
          };
        }) in
        omega (arith, is, ap length among, length-append heap.facts stand.0)
