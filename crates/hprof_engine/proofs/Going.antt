-- Reading all parts, one after the other: one more was read.
use Rattle.std.proofs.Common.{◌≡◌, ◌≢◌, ℕ, ◌+◌, ◌-◌, ◌^◌, ◌<◌, ◌≤◌, true, false, List, [], ◌∷◌, ◌++◌, length, set, get_or, Option, Some}
use Rattle.std.proofs.Common.{Result, Ok, Err, refl, sym, ap, subst, ◌∙◌, arith, get_or-set_other}
use Rattle.std.specs.Prelude.{slice_get}
use Rattle.std.specs.Result.{IsErrAnd}
use Rattle.std.specs.Io.KnownBytes.{Consumes}
use Rattle.std.proofs.lemmas.List.{length-append, length-set}
use Rattle.hprof_items.specs.declared.header.Header.{Header}
use Rattle.hprof_devices.specs.declared.health.Health.{Health}
use Rattle.hprof_stream.specs.declared.limits.Limits.{Limits}
use Rattle.hprof_stream.specs.declared.part_fault.PartFault.{PartFault}
use Rattle.hprof_stream.specs.Fault.{StatesSoFar}
use Rattle.hprof_stream.specs.Reader.{ReadsPart}
use Rattle.hprof_heap.specs.Gathering.{Gathered, nothing_gathered}
use Rattle.hprof_engine.specs.declared.tool_fault.ToolFault.{ToolFault}
use Rattle.hprof_engine.specs.declared.tool_fault.ToolFault.TheVariants as tool
use Rattle.hprof_engine.proofs.Reading.{element_set, same_at}
use Rattle.hprof_engine.specs.declared.salvaged.FaultedPart.{FaultedPart}
use Rattle.hprof_engine.specs.Saved.{AreSaved, given_with}
use Rattle.hprof_engine.specs.Salvaging.{PartRead, handled, all_handled, fault_with, faults_of, IsReadSo}
use Rattle.hprof_engine.specs.Salvaging.{is_want_of_memory, WantsAt, WantsToList}
use Rattle.hprof_engine.specs.Through.{IsUnlisted, GathersSaved, ReadsParts}
use Rattle.hprof_engine.proofs.SavedParts.{AreSaved-none, AreSaved-more, all_handled-more, bare_states_none, Gathers-with, counts-given}
use Rattle.hprof_engine.proofs.SavedParts.{given-size}
use Rattle.hprof_engine.proofs.PartReads.{AreReadSo-none, AreReadSo-kept, AreReadSo-more, faults_of-more}
use Rattle.hprof_engine.proofs.PartByFault.{begins, steps, refuses, has_failed, TakesSaved, read_faulty, refused_so}

-- what holds at a fault holds of an answer that is this fault
pub of_fault : {A : Type 0} (P : Result A ToolFault → Type 0) (answer : Result A ToolFault) (fault : ToolFault)
    → IsErrAnd answer (λ e. e ≡ fault) → P (Err fault) → P answer
of_fault P (Ok done) fault is holds = absurd is
of_fault P (Err other) fault is holds = subst (λ (f : ToolFault). P (Err f)) (sym is) holds

module _ {R : Type 0} (left : R → Option (List ℕ)) (health : R → Health) (pulls : R → ℕ) (limits : Limits) (old cur : List R) where
  -- no part was read
  pub gathers_none : (gathered : Gathered) (parts : ℕ) (listed : List FaultedPart) → gathered ≡ nothing_gathered → parts ≡ 0 → listed ≡ []
      → GathersSaved left health pulls limits old cur 0 gathered parts listed
  gathers_none gathered parts listed nothing none empty = record {
    reads = [];
    each = AreReadSo-none left health pulls limits old cur;
    all = refl;
    given = [];
    saved = AreSaved-none limits.max_item;
    gathers = sym nothing;
    sound = ap (λ (g : Gathered). g.failed) nothing;
    counted = none;
    has_listed = empty;
  }

  module _ {G : Type 0} (gathered : G → Gathered) (parts : G → ℕ) where
    -- one more was
    pub gathers_more : (index : ℕ) (was is : R) (read : PartRead) (from to : G) (listed more : List FaultedPart)
        → slice_get old index ≡ Some was → index < length cur → index < 2 ^ 64 - 1
        → GathersSaved left health pulls limits old cur index (gathered from) (parts from) listed
        → IsReadSo left health pulls limits was is read
        → TakesSaved gathered parts limits.max_item (handled limits read) from to → more ≡ listed ++ fault_with index read.fault []
        → GathersSaved left health pulls limits old (set cur index is) (index + 1) (gathered to) (parts to) more
    gathers_more index was is read from to listed more there within few so one takes lists =
        let longest : ℕ = limits.max_item in
        let size : length so.given < 2 ^ 64 - 1 = omega (arith, few, so.all, given-size limits longest so.reads so.given so.saved) in
        record {
          reads = so.reads ++ read ∷ [];
          each = AreReadSo-more left health pulls limits old cur so.reads read was is index so.all there within so.each one;
          all = omega (arith, so.all, length-append so.reads (read ∷ []));
          given = so.given ++ given_with takes.header takes.facts [];
          saved = subst (λ (ps : List (List ℕ)). AreSaved longest ps (so.given ++ given_with takes.header takes.facts []))
              (sym (all_handled-more limits so.reads read))
              (AreSaved-more longest (all_handled limits so.reads) so.given (handled limits read) takes.header takes.facts so.saved
              takes.states);
          gathers = Gathers-with nothing_gathered (gathered from) (gathered to) so.given takes.header takes.facts so.gathers
              (λ e. bare_states_none longest (handled limits read) takes.facts
              (subst (λ (h : Option Header). StatesSoFar longest (handled limits read) h takes.facts) e takes.states)) takes.run;
          sound = takes.sound;
          counted = takes.counts ∙ counts-given so.given takes.header takes.facts (parts from) so.counted size;
          has_listed = lists ∙ ap (λ (fs : List FaultedPart). fs ++ fault_with index read.fault []) so.has_listed
              ∙ ap (λ (n : ℕ). faults_of so.reads ++ fault_with n read.fault []) (sym so.all) ∙ sym (faults_of-more so.reads read);
        }

    -- it ended with the part at that place: memory was wanted for it, or for listing its fault
    module _ (index : ℕ) (was is : R) (came : List ℕ) (from to : G) (listed more : List FaultedPart) (fault : PartFault)
        (there : slice_get old index ≡ Some was) (within : index < length cur) (same : length cur ≡ length old)
        (unread : (k : ℕ) (d : R) → index ≤ k → k < length old → get_or cur k d ≡ get_or old k d)
        (so : GathersSaved left health pulls limits old cur index (gathered from) (parts from) listed)
        (consumed : Consumes (left was) (left is) came) (spared : pulls is ≤ pulls was + limits.max_reads)
        (reads : ReadsPart left health pulls (begins gathered parts) (steps gathered parts) (refuses gathered parts)
        (has_failed gathered parts)
        limits was came is from (Err fault) to) where
      -- those behind it stand as they stood
      behind : (k : ℕ) → index < k → slice_get (set cur index is) k ≡ slice_get old k
      behind k after = same_at (set cur index is) old k (length-set cur index is ∙ same) (λ d below.
          let other : k ≢ index = omega (arith, after) in
          get_or-set_other cur index k is d other ∙ unread k d (omega (arith, after)) below)

      wants_at : is_want_of_memory fault ≡ true → WantsAt left health pulls limits old (set cur index is) index fault
      wants_at memory = record {
        reads = so.reads;
        each = AreReadSo-kept left health pulls limits old cur so.reads is index so.all so.each;
        place = so.all;
        given = so.given;
        saved = so.saved;
        at = record {
          was = was;
          is = is;
          was_there = there;
          is_there = element_set cur index is within;
          came = came;
          consumed = consumed;
          spared = spared;
          refused = refused_so gathered parts left health pulls limits was came is from to so.sound so.given so.gathers fault reads;
          unread = behind;
        };
        memory = memory;
      }

      wants_to_list : is_want_of_memory fault ≡ false → WantsToList left health pulls limits old (set cur index is)
      wants_to_list other =
          let read : PartRead = record { came = came; fault = Some fault } in
          let one = read_faulty gathered parts left health pulls limits was came is from to so.sound so.given so.gathers consumed
          spared fault
          other reads in
          record {
            before = so.reads;
            last = read;
            each = AreReadSo-more left health pulls limits old cur so.reads read was is index so.all there within so.each one.0;
            faulty = refl;
            unread = λ k after. behind k (omega (arith, after, so.all));
          }

      pub ends_at : (ended : ToolFault) → IsUnlisted index fault ended
          → ReadsParts left health pulls limits old (set cur index is) (gathered to) (parts to) more (Err ended)
      ends_at (tool.Part place why) unlisted =
          subst (λ (i : ℕ). WantsAt left health pulls limits old (set cur index is) i why) (sym unlisted.0)
          (subst (λ (f : PartFault). WantsAt left health pulls limits old (set cur index is) index f) (sym unlisted.1)
          (wants_at unlisted.2))
      ends_at tool.NoParts unlisted = absurd unlisted
      ends_at tool.IdSizes unlisted = absurd unlisted
      ends_at (tool.Conflict key) unlisted = absurd unlisted
      ends_at (tool.Refused refusal) unlisted = absurd unlisted
      ends_at (tool.Write write) unlisted = absurd unlisted
      ends_at (tool.Lost loss) unlisted = absurd unlisted
      ends_at tool.OutOfMemory unlisted = wants_to_list unlisted
