-- One part more that was read, whatever its fault.
use Rattle.std.proofs.Common.{◌≡◌, ◌+◌, ◌<◌, ℕ, Bool, true, false, List, [], ◌∷◌, ◌++◌, length, map, take, set, Option, Some, None, refl}
use Rattle.std.proofs.Common.{sym, ap, subst, ◌∙◌, add-one, append-nil, append_assoc}
use Rattle.std.specs.Prelude.{slice_get}
use Rattle.std.specs.List.{AllByRecursion}
use Rattle.std.specs.Io.KnownBytes.{Consumes}
use Rattle.std.proofs.lemmas.List.{length-append, map-append}
use Rattle.hprof_values.specs.declared.ids.IdSize.TheVariants.{Four}
use Rattle.hprof_items.specs.declared.header.Header.{Header}
use Rattle.hprof_items.specs.FactValue.{FactValue}
use Rattle.hprof_devices.specs.declared.health.Health.{Health}
use Rattle.hprof_stream.specs.declared.limits.Limits.{Limits}
use Rattle.hprof_stream.specs.declared.part_fault.PartFault.{PartFault}
use Rattle.hprof_stream.specs.Fault.{StatesSoFar}
use Rattle.hprof_heap.specs.Gathering.{Gathered, Gathers, Given, nothing_gathered}
use Rattle.hprof_objects.specs.declared.object_log.ObjectLog.{ObjectLog}
use Rattle.hprof_objects.specs.Log.{HoldsParts}
use Rattle.hprof_objects.specs.PartsRead.{PartRead}
use Rattle.hprof_objects.specs.ObjectRows.{object_rows}
use Rattle.hprof_objects.specs.ReadAgain.{StatesFirst}
use Rattle.hprof_objects.specs.Whole.{without_objects}
use Rattle.hprof_objects.proofs.Parts.{holds_bare}
use Rattle.hprof_engine.specs.declared.salvaged.FaultedPart.{FaultedPart}
use Rattle.hprof_engine.specs.Salvaging as salvaging
use Rattle.hprof_engine.specs.Salvaging.{fault_with, faults_of, handled}
use Rattle.hprof_engine.specs.Saved.{IsSaved, Saved, given_of, given_with}
use Rattle.hprof_engine.proofs.PartReads.{AreReadSo-more, AreReadSo-none, faults_of-more}
use Rattle.hprof_engine.proofs.SavedParts.{all_handled-more, bare_states_none, map_one}
use Rattle.hprof_stored.specs.Holding as holding
use Rattle.hprof_stored.specs.Holding.{Earlier, HoldsAll, HoldsStored, nothing_before, others_before}
use Rattle.hprof_stored.specs.SavedParts.{AreSameIfTold, IsSameIfTold, PartSaved, all_saved, read_saved, saved_before, size_in}
use Rattle.hprof_stored.specs.SavingThrough.{StoresSaved}
use Rattle.hprof_stored.specs.Storing.{Storing}
use Rattle.hprof_stored.proofs.Ended.{part_ended, take_one}
use Rattle.hprof_stored.proofs.FrontRead.{front_more, front_states}
use Rattle.hprof_stored.proofs.SavedOne.{ReadsOne}

-- ---- a part among those before it

-- all bytes that a reader had, where it told, and else those that came
pub record AllBytes (left : Option (List ℕ)) (came : List ℕ) : Type 0 where
  pub bytes : List ℕ
  pub behind : List ℕ
  pub are : bytes ≡ came ++ behind
  pub all : (told : List ℕ) → left ≡ Some told → bytes ≡ told

all_bytes_of : (left rest : Option (List ℕ)) (came : List ℕ) → Consumes left rest came → AllBytes left came
all_bytes_of None rest came consumed =
    record { bytes = came; behind = []; are = sym (append-nil came); all = λ told is. absurd cc }
all_bytes_of (Some told) None came consumed = absurd consumed
all_bytes_of (Some told) (Some rest) came consumed =
    record { bytes = told; behind = rest; are = consumed; all = λ other is. cc }

-- with one part more
abbrev one_saved : Earlier → PartSaved → Earlier
one_saved earlier part = record {
  scratch = earlier.scratch;
  given = earlier.given ++ given_with part.saved.header part.saved.facts [];
  reads = earlier.reads ++ read_saved part ∷ [];
}

given_with-append : (header : Option Header) (facts : List FactValue) (others behind : List Given)
    → given_with header facts (others ++ behind) ≡ given_with header facts others ++ behind
given_with-append None facts others behind = refl
given_with-append (Some header) facts others behind = refl

given_of-more : (saved : List Saved) (one : Saved) → given_of (saved ++ one ∷ []) ≡ given_of saved ++ given_with one.header one.facts []
given_of-more [] one = refl
given_of-more (first ∷ saved) one = ap (given_with first.header first.facts) (given_of-more saved one)
    ∙ given_with-append first.header first.facts (given_of saved) (given_with one.header one.facts [])

all_one : {A : Type 0} (P : A → Type 0) (xs : List A) (x : A) → AllByRecursion P xs → P x → AllByRecursion P (xs ++ x ∷ [])
all_one P [] x each is = (is, tt)
all_one P (y ∷ xs) x each is = (each.0, all_one P xs x each.1 is)

saved_more : (parts : List PartSaved) (part : PartSaved) → all_saved (parts ++ part ∷ []) ≡ all_saved parts ++ part.saved ∷ []
saved_more parts part = map_one (λ (p : PartSaved). p.saved) parts part

given_more : (parts : List PartSaved) (part : PartSaved)
    → given_of (all_saved (parts ++ part ∷ [])) ≡ given_of (all_saved parts) ++ given_with part.saved.header part.saved.facts []
given_more parts part = ap given_of (saved_more parts part) ∙ given_of-more (all_saved parts) part.saved

before_more : (scratch : Option (List ℕ)) (parts : List PartSaved) (part : PartSaved)
    → one_saved (saved_before scratch parts) part ≡ saved_before scratch (parts ++ part ∷ [])
before_more scratch parts part =
    ap (λ (given : List Given). record { scratch = scratch; given = given; reads = map read_saved parts ++ read_saved part ∷ [] })
    (sym (given_more parts part))
    ∙ ap (λ (reads : List PartRead). record { scratch = scratch; given = given_of (all_saved (parts ++ part ∷ [])); reads = reads })
    (sym (map_one read_saved parts part))

same_if_told : (left : Option (List ℕ)) (limits : Limits) (part : PartSaved) → ((told : List ℕ) → left ≡ Some told → part.bytes ≡ told)
    → StatesFirst limits part.bytes (size_in part.saved.header) part.saved.facts → IsSameIfTold limits left part
same_if_told None limits part all states = tt
same_if_told (Some bytes) limits part all states = record { tells = ap (λ (b : List ℕ). Some b) (sym (all bytes refl)); states = states }

same_more : (limits : Limits) (lefts : List (Option (List ℕ))) (left : Option (List ℕ)) (parts : List PartSaved) (part : PartSaved)
    → AreSameIfTold limits lefts parts → IsSameIfTold limits left part → AreSameIfTold limits (lefts ++ left ∷ []) (parts ++ part ∷ [])
same_more limits [] left [] part are is = (is, tt)
same_more limits (first ∷ lefts) left (one ∷ parts) part are is = (are.0, same_more limits lefts left parts part are.1 is)
same_more limits [] left (one ∷ parts) part are is = absurd are
same_more limits (first ∷ lefts) left [] part are is = absurd are

lefts_same : {R : Type 0} (left : R → Option (List ℕ)) (limits : Limits) (old : List R) (index : ℕ) (was : R) (parts : List PartSaved)
    (part : PartSaved) → slice_get old index ≡ Some was → AreSameIfTold limits (map left (take index old)) parts
    → IsSameIfTold limits (left was) part → AreSameIfTold limits (map left (take (index + 1) old)) (parts ++ part ∷ [])
lefts_same left limits old index was parts part there are is =
    subst (λ (l : List (Option (List ℕ))). AreSameIfTold limits l (parts ++ part ∷ []))
    (sym (ap (λ (n : ℕ). map left (take n old)) (add-one index) ∙ ap (map left) (take_one old index was there)
    ∙ map-append left (take index old) (was ∷ [])))
    (same_more limits (map left (take index old)) (left was) parts part are is)

-- ---- the sink behind it

-- one more, if it is counted
abbrev pub with_one : Bool → ℕ → ℕ
with_one true count = count + 1
with_one false count = count

-- how a part is left
pub record LeavesPart {S : Type 0} (written : S → Option (List ℕ)) (well : S → Health) (headed : Bool) (old new : Storing S)
    : Type 0 where
  pub came : old.within ≡ true → (headed ≡ true) × holding.EndsPart written well old new
  pub bare : old.within ≡ false → (headed ≡ false) × holding.EndsBare old new

module _ {S : Type 0} (written : S → Option (List ℕ)) (well : S → Health) (limits : Limits) (earlier : Earlier)
    (longest : ℕ) (front bytes before piece : List ℕ) (cut : bytes ≡ before ++ piece) (facts : List FactValue) (mid new : Storing S)
    (headed : Bool) (leaves : LeavesPart written well headed mid new) where
  -- the sink holds it as one of the parts that were read
  left_so : (header : Option Header) → StatesSoFar longest front header facts
      → HoldsStored written well limits earlier header before facts mid
      → HoldsAll written well limits
      (one_saved earlier (record { saved = record { bytes = front; header = header; facts = facts }; bytes = bytes })) new
  left_so None states held =
      let passes = (leaves.bare held.without).1 in
      let part : PartRead = record { ids = Four; bytes = bytes; facts = facts } in
      record {
        gathers = subst (λ (l : List Given). Gathers nothing_gathered (map without_objects l) new.gathered) (sym (append-nil earlier.given))
            (subst (λ (g : Gathered). Gathers nothing_gathered (others_before earlier) g) (sym passes.gathers) held.gathers);
        logs = λ told. subst (λ (log : ObjectLog S). HoldsParts written well limits (earlier.reads ++ part ∷ []) log) (sym passes.log)
            (holds_bare written well limits earlier.reads part mid.log
            (ap (object_rows Four) (bare_states_none longest front facts states)) (held.logs told));
        number = passes.part ∙ ap (λ (n : ℕ). n + 1) held.number ∙ sym (length-append earlier.reads (part ∷ []));
        none = passes.place;
        without = passes.within;
        sound = passes.sound ∙ held.sound;
      }
  left_so (Some header) states held =
      part_ended written well limits earlier header facts bytes before piece mid new cut held (leaves.came held.within).1

  -- it was counted if its header came
  counted_so : (header : Option Header) → HoldsStored written well limits earlier header before facts mid → (given : List Given) (count : ℕ)
      → count ≡ length given → with_one headed count ≡ length (given ++ given_with header facts [])
  counted_so None held given count is =
      ap (λ (b : Bool). with_one b count) (leaves.bare held.without).0 ∙ is ∙ ap length (sym (append-nil given))
  counted_so (Some header) held given count is =
      let one : Given = record { header = header; facts = facts } in
      ap (λ (b : Bool). with_one b count) (leaves.came held.within).0 ∙ ap (λ (n : ℕ). n + 1) is ∙ sym (length-append given (one ∷ []))

module _ {R S : Type 0} (left : R → Option (List ℕ)) (health : R → Health) (pulls : R → ℕ) (limits : Limits) (old cur : List R)
    (written : S → Option (List ℕ)) (well : S → Health) (scratch : Option (List ℕ)) where
  -- no part was read
  pub stores_none : (headed : ℕ) (listed : List FaultedPart) (it : Storing S) → headed ≡ 0 → listed ≡ []
      → HoldsAll written well limits (nothing_before scratch) it
      → StoresSaved left health pulls limits old cur written well scratch 0 headed listed it
  stores_none headed listed it none empty holds = record {
    read = record {
      reads = [];
      each = AreReadSo-none left health pulls limits old cur;
      all = refl;
      parts = [];
      of_reads = refl;
      are_saved = tt;
      same = tt;
      counted = none;
      has_listed = empty;
    };
    holds = holds;
  }

  -- one more was
  pub stores_more : (index count next : ℕ) (was is : R) (listed behind : List FaultedPart) (from mid to : Storing S)
      (fault : Option PartFault) (headed : Bool)
      (so : StoresSaved left health pulls limits old cur written well scratch index count listed from)
      → slice_get old index ≡ Some was → index < length cur
      → ReadsOne left health pulls limits was is written well (saved_before scratch so.read.parts) fault mid
      → LeavesPart written well headed mid to → behind ≡ listed ++ fault_with index fault [] → next ≡ with_one headed count
      → StoresSaved left health pulls limits old (set cur index is) written well scratch (index + 1) next behind to
  stores_more index count next was is listed behind from mid to fault headed so there within one leaves lists counts =
      let read = so.read in
      let last : salvaging.PartRead = record { came = one.came; fault = fault } in
      let all = all_bytes_of (left was) (left is) one.came one.so.consumed in
      let saved : Saved = record { bytes = handled limits last; header = one.header; facts = one.facts } in
      let part : PartSaved = record { saved = saved; bytes = all.bytes } in
      let cut : all.bytes ≡ one.before ++ (one.piece ++ all.behind) =
      all.are ∙ ap (λ (b : List ℕ). b ++ all.behind) one.cut ∙ append_assoc one.before one.piece all.behind in
      let earlier = saved_before scratch read.parts in
      let first : StatesFirst limits all.bytes (size_in one.header) one.facts =
      subst (λ (b : List ℕ). StatesFirst limits b (size_in one.header) one.facts) (sym all.are)
      (front_more limits one.came all.behind (size_in one.header) one.facts
      (front_states limits.max_item (take limits.max_bytes one.came) one.header one.facts (size_in one.header) one.states
      (λ header is_it. sym (ap size_in is_it)))) in
      record {
        read = record {
          reads = read.reads ++ last ∷ [];
          each = AreReadSo-more left health pulls limits old cur read.reads last was is index read.all there within read.each one.so;
          all = length-append read.reads (last ∷ []) ∙ ap (λ (n : ℕ). n + 1) read.all;
          parts = read.parts ++ part ∷ [];
          of_reads = ap (map (λ (s : Saved). s.bytes)) (saved_more read.parts part)
              ∙ map_one (λ (s : Saved). s.bytes) (all_saved read.parts) saved
              ∙ ap (λ (bs : List (List ℕ)). bs ++ handled limits last ∷ []) read.of_reads
              ∙ sym (all_handled-more limits read.reads last);
          are_saved = subst (AllByRecursion (IsSaved limits.max_item)) (sym (saved_more read.parts part))
              (all_one (IsSaved limits.max_item) (all_saved read.parts) saved read.are_saved one.states);
          same = lefts_same left limits old index was read.parts part there read.same
              (same_if_told (left was) limits part all.all first);
          counted = counts
              ∙ counted_so written well limits earlier limits.max_item (handled limits last) all.bytes one.before
              (one.piece ++ all.behind) cut one.facts mid to headed leaves one.header one.held (given_of (all_saved read.parts)) count
              read.counted
              ∙ ap length (sym (given_more read.parts part));
          has_listed = lists ∙ ap (λ (fs : List FaultedPart). fs ++ fault_with index fault []) read.has_listed
              ∙ ap (λ (n : ℕ). faults_of read.reads ++ fault_with n fault []) (sym read.all) ∙ sym (faults_of-more read.reads last);
        };
        holds = subst (λ (e : Earlier). HoldsAll written well limits e to) (before_more scratch read.parts part)
            (left_so written well limits earlier limits.max_item (handled limits last) all.bytes one.before (one.piece ++ all.behind) cut
            one.facts mid to headed leaves one.header one.states one.held);
      }
