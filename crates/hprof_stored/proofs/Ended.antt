-- A part that was read to its end, among those before it.
use Rattle.std.proofs.Common.{◌≡◌, ℕ, zero, suc, ◌+◌, List, [], ◌∷◌, ◌++◌, take, map, Option, Some, None, refl, sym, ap, subst, ◌∙◌}
use Rattle.std.proofs.Common.{add-one, append-nil, append_assoc, inl, inr}
use Rattle.std.specs.Prelude.{slice_get}
use Rattle.std.specs.Io.KnownBytes.{Consumes, IsAtEnd}
use Rattle.std.proofs.lemmas.List.{length-append, map-append}
use Rattle.hprof_values.specs.declared.ids.IdSize.{IdSize}
use Rattle.hprof_items.specs.declared.header.Header.{Header}
use Rattle.hprof_items.specs.FactValue.{FactValue}
use Rattle.hprof_devices.specs.declared.health.Health.{Health}
use Rattle.hprof_stream.specs.declared.limits.Limits.{Limits}
use Rattle.hprof_stream.specs.Part.{IsPart}
use Rattle.hprof_heap.specs.Gathering.{Gathered, Gathers, Given, nothing_gathered}
use Rattle.hprof_engine.specs.Joining.{AreGiven, IsAccepted, IsGiven}
use Rattle.hprof_engine.proofs.Gathered.{Gathers-more}
use Rattle.hprof_objects.specs.Log.{HoldsParts}
use Rattle.hprof_objects.specs.PartsRead.{PartRead}
use Rattle.hprof_objects.specs.Whole.{no_objects, without_objects}
use Rattle.hprof_stored.specs.Holding.{Earlier, EndsPart, HoldsAll, HoldsStored, one_more, others_before, parts_before}
use Rattle.hprof_stored.specs.Parts.{AreAllOf, AreStored, IsStored, PartStored, all_read, given_of, read_of}
use Rattle.hprof_stored.specs.Storing.{Storing}
use Rattle.hprof_stored.specs.WatchedSink.{DroppedSoFar, WatchesSoFar}
use Rattle.hprof_stored.specs.Watching.{Dropped, Watched, WatchesPart, WatchesParts}

-- the sink holds it as one of the parts that were read
pub part_ended : {S : Type 0} (written : S → Option (List ℕ)) (health : S → Health) (limits : Limits) (earlier : Earlier) (header : Header)
    (facts : List FactValue) (came before piece : List ℕ) (mid new : Storing S) → came ≡ before ++ piece
    → HoldsStored written health limits earlier (Some header) before facts mid → EndsPart written health mid new
    → HoldsAll written health limits (one_more earlier (record { header = header; facts = facts }) came) new
part_ended written health limits earlier header facts came before piece mid new cut held ends =
    let given : Given = record { header = header; facts = facts } in
    let more = Gathers-more nothing_gathered held.mid mid.gathered (others_before earlier) header (no_objects facts) held.gathers
    held.ran in
    record {
      gathers = subst (λ (l : List Given). Gathers nothing_gathered l new.gathered)
          (sym (map-append without_objects earlier.given (given ∷ [])))
          (subst (λ (g : Gathered). Gathers nothing_gathered (others_before earlier ++ without_objects given ∷ []) g)
          (sym ends.gathers) more);
      logs = λ told. subst (λ (b : List ℕ). HoldsParts written health limits
          (earlier.reads ++ record { ids = header.ids; bytes = b; facts = facts } ∷ []) new.log) (sym cut)
          (ends.logs limits earlier.reads (record { ids = header.ids; bytes = before; facts = facts }) piece (held.logs told));
      number = ends.part ∙ ap (λ (n : ℕ). n + 1) held.number
          ∙ sym (length-append earlier.reads (record { ids = header.ids; bytes = came; facts = facts } ∷ []));
      none = ends.place;
      without = ends.within;
      sound = ends.sound ∙ held.sound;
    }

-- one of them is behind the others
pub one_part_more : (scratch : Option (List ℕ)) (parts : List PartStored) (part : PartStored)
    → one_more (parts_before scratch parts) part.given part.bytes ≡ parts_before scratch (parts ++ part ∷ [])
one_part_more scratch parts part =
    ap (λ (given : List Given). record { scratch = scratch; given = given; reads = all_read parts ++ read_of part ∷ [] })
    (sym (map-append (λ (p : PartStored). p.given) parts (part ∷ [])))
    ∙ ap (λ (reads : List PartRead). record { scratch = scratch; given = given_of (parts ++ part ∷ []); reads = reads })
    (sym (map-append read_of parts (part ∷ [])))

-- ---- what a sink took that watched

module _ {T : Type 0} (takes : T → IdSize → FactValue → T → Type 0) where
  parts_more : (old mid new : T) (parts : List PartStored) (part : PartStored) → WatchesParts takes old parts mid
      → WatchesPart takes part.given mid new → WatchesParts takes old (parts ++ part ∷ []) new
  parts_more old mid new [] part same watches =
      (new, subst (λ (t : T). WatchesPart takes part.given t new) (sym same) watches, refl)
  parts_more old mid new (first ∷ parts) part before watches =
      (before.0, before.1, parts_more before.0 mid new parts part before.2 watches)

  -- it watched no part
  pub watched_first : (start now : Option T) → now ≡ start → Watched takes start [] now
  watched_first None None same = tt
  watched_first (Some start) None same = tt
  watched_first None (Some now) same = absurd cc
  watched_first (Some start) (Some now) same = let one : start ≡ now = cc in one

  -- it watched one part more
  pub watched_ended : (parts : List PartStored) (header : Header) (facts : List FactValue) (came : List ℕ) (start now : Option T)
      (last : Option ℕ) → WatchesSoFar takes start parts (Some header) facts now last
      → Watched takes start (parts ++ record { given = record { header = header; facts = facts }; bytes = came } ∷ []) now
  watched_ended parts header facts came None None last watches = tt
  watched_ended parts header facts came (Some start) None last watches = tt
  watched_ended parts header facts came None (Some now) last watches = absurd watches
  watched_ended parts header facts came (Some start) (Some now) last watches =
      parts_more start watches.mid now parts (record { given = record { header = header; facts = facts }; bytes = came }) watches.before
      watches.so_far

-- ---- why it was dropped

module _ {T E : Type 0} (takes : T → IdSize → FactValue → T → Type 0) (refuses : T → IdSize → FactValue → E → T → Type 0) where
  -- it was not at first
  pub dropped_first : (start now : Option T) → now ≡ start → Dropped takes refuses start [] now
  dropped_first None now same = tt
  dropped_first (Some start) None same = absurd cc
  dropped_first (Some start) (Some now) same = tt

  -- one part more
  pub dropped_ended : (parts : List PartStored) (header : Header) (facts : List FactValue) (came : List ℕ) (start now : Option T)
      → DroppedSoFar takes refuses start parts (Some header) facts now
      → Dropped takes refuses start (parts ++ record { given = record { header = header; facts = facts }; bytes = came } ∷ []) now
  dropped_ended parts header facts came None now dropped = tt
  dropped_ended parts header facts came (Some start) (Some now) dropped = tt
  dropped_ended parts header facts came (Some start) None (inl stops) =
      let part : PartStored = record { given = record { header = header; facts = facts }; bytes = came } in
      record {
        before = stops.before;
        part = stops.part;
        behind = stops.behind ++ part ∷ [];
        are = ap (λ (l : List PartStored). l ++ part ∷ []) stops.are ∙ append_assoc stops.before (stops.part ∷ stops.behind) (part ∷ []);
        ends = stops.ends;
      }
  dropped_ended parts header facts came (Some start) None (inr ends) = record {
    before = parts;
    part = record { given = record { header = header; facts = facts }; bytes = came };
    behind = [];
    are = refl;
    ends = ends;
  }

-- ---- what the readers told

-- what came is all that a reader had to tell that was read to its end
all_if_told : (left rest : Option (List ℕ)) (came : List ℕ) → Consumes left rest came → IsAtEnd rest → AreAllOf left came
all_if_told None rest came consumes ends = tt
all_if_told (Some bytes) None came consumes ends = absurd consumes
all_if_told (Some bytes) (Some rest) came consumes ends =
    sym (append-nil came) ∙ ap (λ (r : List ℕ). came ++ r) (sym ends) ∙ sym consumes

pub is_stored : (limits : Limits) (left rest : Option (List ℕ)) (part : PartStored) → Consumes left rest part.bytes → IsAtEnd rest
    → IsAccepted limits part.bytes → IsPart part.bytes part.given.header.ids part.given.header.millis part.given.facts
    → IsStored limits left part
is_stored limits left rest part consumes ends accepted states =
    record { all = all_if_told left rest part.bytes consumes ends; accepted = accepted; states = states }

given_if_stored : (limits : Limits) (left : Option (List ℕ)) (part : PartStored) → IsStored limits left part
    → IsGiven limits left part.given
given_if_stored limits None part is = tt
given_if_stored limits (Some bytes) part is = (
  subst (IsAccepted limits) is.all is.accepted,
  subst (λ (b : List ℕ). IsPart b part.given.header.ids part.given.header.millis part.given.facts) is.all is.states,
)

pub are_given : (limits : Limits) (lefts : List (Option (List ℕ))) (parts : List PartStored) → AreStored limits lefts parts
    → AreGiven limits lefts (given_of parts)
are_given limits [] [] are = tt
are_given limits (left ∷ lefts) (part ∷ parts) are = (given_if_stored limits left part are.0, are_given limits lefts parts are.1)
are_given limits [] (part ∷ parts) are = absurd are
are_given limits (left ∷ lefts) [] are = absurd are

stored_more : (limits : Limits) (lefts : List (Option (List ℕ))) (left : Option (List ℕ)) (parts : List PartStored) (part : PartStored)
    → AreStored limits lefts parts → IsStored limits left part → AreStored limits (lefts ++ left ∷ []) (parts ++ part ∷ [])
stored_more limits [] left [] part are is = (is, tt)
stored_more limits (first ∷ lefts) left (one ∷ parts) part are is = (are.0, stored_more limits lefts left parts part are.1 is)
stored_more limits [] left (one ∷ parts) part are is = absurd are
stored_more limits (first ∷ lefts) left [] part are is = absurd are

pub take_one : {R : Type 0} (xs : List R) (i : ℕ) (x : R) → slice_get xs i ≡ Some x → take (suc i) xs ≡ take i xs ++ x ∷ []
take_one [] i x e = absurd cc
take_one (y ∷ xs) zero x e = let same : y ≡ x = cc in ap (λ z. z ∷ []) same
take_one (y ∷ xs) (suc i) x e = ap (λ zs. y ∷ zs) (take_one xs i x e)

-- one reader more
pub lefts_stored : {R : Type 0} (left : R → Option (List ℕ)) (limits : Limits) (old : List R) (index : ℕ) (was : R)
    (parts : List PartStored) (part : PartStored) → slice_get old index ≡ Some was → AreStored limits (map left (take index old)) parts
    → IsStored limits (left was) part → AreStored limits (map left (take (index + 1) old)) (parts ++ part ∷ [])
lefts_stored left limits old index was parts part there are is =
    subst (λ (l : List (Option (List ℕ))). AreStored limits l (parts ++ part ∷ []))
    (sym (ap (λ (n : ℕ). map left (take n old)) (add-one index) ∙ ap (map left) (take_one old index was there)
    ∙ map-append left (take index old) (was ∷ [])))
    (stored_more limits (map left (take index old)) (left was) parts part are is)
