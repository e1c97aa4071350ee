-- Where reading all parts ended, whatever their faults.
use Rattle.std.proofs.Common.{◌≡◌, ◌≢◌, ◌+◌, ◌<◌, ◌≤◌, ℕ, true, List, [], ◌∷◌, length, map, set, get_or, Option, Some, None, Err, refl, sym}
use Rattle.std.proofs.Common.{ap, subst, ◌∙◌, arith, get_or-set_other}
use Rattle.std.specs.Prelude.{slice_get}
use Rattle.std.specs.Io.KnownBytes.{Consumes}
use Rattle.std.proofs.lemmas.List.{length-map, length-set}
use Rattle.hprof_items.specs.declared.header.Header.{Header}
use Rattle.hprof_items.specs.FactValue.{FactValue}
use Rattle.hprof_devices.specs.declared.health.Health.{Health}
use Rattle.hprof_stream.specs.declared.limits.Limits.{Limits}
use Rattle.hprof_stream.specs.declared.part_fault.PartFault.{PartFault}
use Rattle.hprof_heap.specs.Gathering.{Given}
use Rattle.hprof_placed.specs.Handed.{Handed}
use Rattle.hprof_engine.specs.declared.salvaged.FaultedPart.{FaultedPart}
use Rattle.hprof_engine.specs.Salvaging as salvaging
use Rattle.hprof_engine.specs.Salvaging.{WantsToList, handled, is_want_of_memory}
use Rattle.hprof_engine.specs.Joining.{IsPartFault}
use Rattle.hprof_engine.specs.Saved.{Saved, given_of, given_with}
use Rattle.hprof_engine.proofs.PartReads.{AreReadSo-kept, AreReadSo-more}
use Rattle.hprof_engine.proofs.Reading.{element_set, same_at}
use Rattle.hprof_stored.specs.SavedParts.{PartSaved, ReadsSaved, all_saved, read_saved, saved_before}
use Rattle.hprof_stored.specs.SalvagingStored.{WantsPart}
use Rattle.hprof_stored.specs.SavingThrough.{IsUnlistedStored, StoresSaved, StoresThrough, is_listed}
use Rattle.hprof_stored.specs.Storing.{HaveObject, Storing}
use Rattle.hprof_engine.specs.declared.loss.Loss.TheVariants as losses
use Rattle.hprof_engine.specs.declared.tool_fault.ToolFault.{ToolFault}
use Rattle.hprof_engine.specs.declared.tool_fault.ToolFault.TheVariants as tool
use Rattle.hprof_stored.proofs.SavedOne.{ReadsOne}

-- ---- where reading ended

-- a part was read whose fault is not listed
module _ {R S : Type 0} (left : R → Option (List ℕ)) (health : R → Health) (pulls : R → ℕ) (limits : Limits) (old cur : List R)
    (written : S → Option (List ℕ)) (well : S → Health) (scratch : Option (List ℕ)) (index count : ℕ) (was is : R)
    (listed : List FaultedPart) (from to : Storing S) (there : slice_get old index ≡ Some was) (within : index < length cur)
    (same : length cur ≡ length old)
    (unread : (k : ℕ) (d : R) → index ≤ k → k < length old → get_or cur k d ≡ get_or old k d)
    (so : StoresSaved left health pulls limits old cur written well scratch index count listed from)
    (came : List ℕ) (handed : Handed) (consumed : Consumes (left was) (left is) came)
    (spared : pulls is ≤ pulls was + limits.max_reads) where
  -- those behind it stand as they stood
  behind_so : (k : ℕ) → index < k → slice_get (set cur index is) k ≡ slice_get old k
  behind_so k after = same_at (set cur index is) old k (length-set cur index is ∙ same) (λ d below.
      let other : k ≢ index = omega (arith, after) in
      get_or-set_other cur index k is d other ∙ unread k d (omega (arith, after)) below)

  -- memory was wanted for it
  pub wants_so : (fault : PartFault) → is_want_of_memory fault ≡ true
      → IsPartFault left health pulls HaveObject limits (given_of (all_saved so.read.parts)) was came is fault
      → WantsPart left health pulls limits old (set cur index is) index fault
  wants_so fault memory refused =
      let read = so.read in
      record {
        reads = read.reads;
        each = AreReadSo-kept left health pulls limits old cur read.reads is index read.all read.each;
        place = read.all;
        given = given_of (all_saved read.parts);
        saved = record {
          saved = all_saved read.parts;
          of_parts = read.of_reads;
          each = read.are_saved;
          has_given = refl;
        };
        at = record {
          was = was;
          is = is;
          was_there = there;
          is_there = element_set cur index is within;
          came = came;
          consumed = consumed;
          spared = spared;
          refused = refused;
          unread = behind_so;
        };
        memory = memory;
      }

  -- or for listing its fault
  pub lists_so : (fault : PartFault)
      → ReadsOne left health pulls limits was is written well (saved_before scratch so.read.parts) (Some fault) to
      → WantsToList left health pulls limits old (set cur index is)
  lists_so fault one =
      let read = so.read in
      let last : salvaging.PartRead = record { came = one.came; fault = Some fault } in
      record {
        before = read.reads;
        last = last;
        each = AreReadSo-more left health pulls limits old cur read.reads last was is index read.all there within read.each one.so;
        faulty = refl;
        unread = λ k after. behind_so k (omega (arith, after, read.all));
      }

  -- what ended it
  pub ends_so : (headed : ℕ) (more : List FaultedPart) (fault : PartFault)
      → (is_want_of_memory fault ≡ true
      → IsPartFault left health pulls HaveObject limits (given_of (all_saved so.read.parts)) was came is fault)
      → (is_listed fault ≡ true
      → ReadsOne left health pulls limits was is written well (saved_before scratch so.read.parts) (Some fault) to)
      → (ended : ToolFault) → IsUnlistedStored index fault ended
      → StoresThrough left health pulls limits old (set cur index is) written well scratch headed more (Err ended) to
  ends_so headed more fault wanting faulty (tool.Part place why) unlisted =
      subst (λ (i : ℕ). WantsPart left health pulls limits old (set cur index is) i why) (sym unlisted.0)
      (subst (λ (f : PartFault). WantsPart left health pulls limits old (set cur index is) index f) (sym unlisted.1)
      (wants_so fault unlisted.2 (wanting unlisted.2)))
  ends_so headed more fault wanting faulty tool.OutOfMemory unlisted = lists_so fault (faulty unlisted)
  ends_so headed more fault wanting faulty (tool.Lost losses.Scratch) unlisted = tt
  ends_so headed more fault wanting faulty (tool.Lost (losses.Changed part)) unlisted = absurd unlisted
  ends_so headed more fault wanting faulty (tool.Lost (losses.Read part)) unlisted = absurd unlisted
  ends_so headed more fault wanting faulty (tool.Lost losses.Objects) unlisted = absurd unlisted
  ends_so headed more fault wanting faulty tool.NoParts unlisted = absurd unlisted
  ends_so headed more fault wanting faulty tool.IdSizes unlisted = absurd unlisted
  ends_so headed more fault wanting faulty (tool.Conflict key) unlisted = absurd unlisted
  ends_so headed more fault wanting faulty (tool.Refused refusal) unlisted = absurd unlisted
  ends_so headed more fault wanting faulty (tool.Write write) unlisted = absurd unlisted

-- ---- how many parts were read

given_with-length : (header : Option Header) (facts : List FactValue) (others : List Given)
    → length (given_with header facts others) ≤ length others + 1
given_with-length None facts others = omega arith
given_with-length (Some header) facts others = omega arith

given_of-length : (saved : List Saved) → length (given_of saved) ≤ length saved
given_of-length [] = omega arith
given_of-length (first ∷ saved) = omega (arith, given_with-length first.header first.facts (given_of saved), given_of-length saved)

module _ {R : Type 0} (left : R → Option (List ℕ)) (health : R → Health) (pulls : R → ℕ) (limits : Limits) (old new : List R)
    (count headed : ℕ) (listed : List FaultedPart) (read : ReadsSaved left health pulls limits old new count headed listed) where
  -- each has its place among those that were saved
  pub as_many_parts : length (map read_saved read.parts) ≡ count
  as_many_parts = omega (
    arith,
    length-map read.parts read_saved,
    length-map read.parts (λ (p : PartSaved). p.saved),
    length-map (all_saved read.parts) (λ (s : Saved). s.bytes),
    ap length read.of_reads,
    length-map read.reads (handled limits),
    read.all,
  )

  -- no more have a header
  pub no_more_headed : headed ≤ count
  no_more_headed = omega (
    arith,
    read.counted,
    given_of-length (all_saved read.parts),
    length-map read.parts (λ (p : PartSaved). p.saved),
    length-map (all_saved read.parts) (λ (s : Saved). s.bytes),
    ap length read.of_reads,
    length-map read.reads (handled limits),
    read.all,
  )
