-- Feeding a piece to a sink that holds what it was handed is feeding it to a sink that lists it.
use Rattle.std.proofs.Common.{◌≡◌, ℕ, ◌≤◌, Bool, List, [], ◌∷◌, ◌++◌, length, take, Option, Some, None, Err, inl, inr, refl}
use Rattle.std.proofs.Common.{sym, ap, subst, ◌∙◌}
use Rattle.hprof_items.specs.declared.header.Header.{Header}
use Rattle.hprof_items.specs.FactValue.{FactValue}
use Rattle.hprof_stream.specs.declared.limits.Limits.{Limits}
use Rattle.hprof_stream.specs.declared.part_fault.PartFault.{PartFault}
use Rattle.hprof_stream.specs.declared.part_fault.PartFault.TheVariants as faults
use Rattle.hprof_stream.specs.declared.part_reader.PartReader.{PartReader}
use Rattle.hprof_stream.specs.declared.sink.SinkFault.{SinkFault}
use Rattle.hprof_stream.specs.Part.{Stated, all_facts}
use Rattle.hprof_stream.specs.Item.{AreItems, Place, Start, header_before}
use Rattle.hprof_stream.specs.Fault.{StatesSoFar}
use Rattle.hprof_stream.specs.Reader.{BeginsWhole, Feeds, HasRead, IsUnheld, RanOver, RanUnheld, RefusesLast, header_of}
use Rattle.hprof_stream.specs.Run.{Run, became}
use Rattle.hprof_stream.proofs.FedRuns.{no_header_no_fact}
use Rattle.hprof_stream.proofs.ItemLists.{items_at_start}
use Rattle.hprof_placed.specs.Handed.{Handed, handed_so}
use Rattle.hprof_placed.specs.Handed as listing
use Rattle.hprof_placed.specs.Reading.{HoldsFront, HoldsHanded, holds_behind}
use Rattle.hprof_placed.proofs.Handing.{hands_run, holds_run}

-- items before a header state no fact
no_fact : (longest : ℕ) (items : List Stated) (place : Place) → AreItems longest Start items place → header_before place ≡ None
    → all_facts items ≡ []
no_fact longest items place each bare = ap all_facts (items_at_start longest Start place items each bare).1

states_no_fact : (longest : ℕ) (bytes : List ℕ) (header : Option Header) (facts : List FactValue)
    → StatesSoFar longest bytes header facts → header ≡ None → facts ≡ []
states_no_fact longest bytes header facts states bare =
    sym states.has_facts ∙ no_fact longest states.items states.place states.splits.each (states.has_header ∙ bare)

module _ {S Earlier : Type 0} (begins : S → Header → S → Type 0) (steps : S → FactValue → S → Type 0)
    (refuses : S → List FactValue → SinkFault → S → Type 0) (failed : S → Bool)
    (holds : S → Limits → Earlier → Option Header → List ℕ → List FactValue → Type 0)
    (begins_part : (old : S) (header : Header) (new : S) → begins old header new → (limits : Limits) (earlier : Earlier) (bytes : List ℕ)
    → holds old limits earlier None bytes [] → holds new limits earlier (Some header) bytes [])
    (takes_fact : (old : S) (fact : FactValue) (new : S) → steps old fact new → (limits : Limits) (earlier : Earlier) (header : Header)
    (bytes : List ℕ) (facts : List FactValue) → holds old limits earlier (Some header) bytes facts
    → holds new limits earlier (Some header) bytes (facts ++ fact ∷ []))
    (limits : Limits) (bytes : List ℕ) (facts : List FactValue) (from : PartReader) (read : HasRead limits bytes facts from) where
  bare : header_of from ≡ None → facts ≡ []
  bare = no_header_no_fact limits bytes facts from read

  -- a run of a sink goes on with what it holds
  holds_on : (earlier : Earlier) (to : Option Header) (old new : S) (handed : List FactValue) → (to ≡ None → facts ++ handed ≡ [])
      → ((header : Header) → header_of from ≡ Some header → to ≡ Some header)
      → Run begins steps old (became (header_of from) to) handed new
      → holds old limits earlier (header_of from) bytes facts → holds new limits earlier to bytes (facts ++ handed)
  holds_on earlier to old new handed none stays run held =
      holds_run begins steps (holds_behind holds earlier)
      (λ was header is begun within came. begins_part was header is begun within earlier came)
      (λ was fact is stepped within header came all. takes_fact was fact is stepped within earlier header came all)
      limits bytes (header_of from) to old new facts handed bare none stays run held

  -- a piece was fed
  pub holds_fed : (earlier : Earlier) (to : PartReader) (piece : List ℕ) (handed : List FactValue) (old new : S)
      → HasRead limits (bytes ++ piece) (facts ++ handed) to
      → ((header : Header) → header_of from ≡ Some header → header_of to ≡ Some header)
      → Run begins steps old (became (header_of from) (header_of to)) handed new
      → holds old limits earlier (header_of from) bytes facts → holds new limits earlier (header_of to) bytes (facts ++ handed)
  holds_fed earlier to piece handed old new on stays run held =
      holds_on earlier (header_of to) old new handed (no_header_no_fact limits (bytes ++ piece) (facts ++ handed) to on) stays run held

  -- what comes of it for a list, and for the sink
  pub record IsHanded (Comes : Handed → Type 0) (Takes : Earlier → Handed → Type 0) (old : S) : Type 0 where
    pub handed : Handed
    pub comes : Comes handed
    pub takes : (earlier : Earlier) → holds old limits earlier (header_of from) bytes facts → Takes earlier handed

  module _ (to : PartReader) (piece : List ℕ) (few : length piece ≤ 65536) (old new : S)
      (stays : (header : Header) → header_of from ≡ Some header → header_of to ≡ Some header) where
    front : (earlier : Earlier) (header : Option Header) (all : List FactValue) (sink : S) → holds sink limits earlier header bytes all
        → HoldsFront (holds_behind holds earlier) limits (bytes ++ piece) header all sink
    front earlier header all sink held = record { before = bytes; piece = piece; parts = refl; few = few; held = held }

    abbrev IsHandedHere : (Handed → Type 0) → Type 0
    IsHandedHere Comes =
        IsHanded Comes (λ earlier handed. HoldsFront (holds_behind holds earlier) limits (bytes ++ piece) handed.header handed.facts new)
        old

    over_hands : (longest : ℕ) (seen : List ℕ)
        → RanOver begins steps longest seen facts (header_of from) (header_of to) old new
        → IsHandedHere (RanOver {S = Handed} listing.begins listing.steps longest seen facts (header_of from) (header_of to)
        (handed_so (header_of from) facts))
    over_hands longest seen over = record {
      handed = handed_so (header_of to) (facts ++ over.handed);
      comes = record {
        handed = over.handed;
        states = over.states;
        ran = hands_run (header_of from) (header_of to) facts over.handed stays;
      };
      takes = λ earlier held. front earlier (header_of to) (facts ++ over.handed) new
          (holds_on earlier (header_of to) old new over.handed
          (states_no_fact longest seen (header_of to) (facts ++ over.handed) over.states) stays over.ran held);
    }

    unheld_hands : (unheld : IsUnheld limits bytes piece)
        → RanUnheld begins steps limits bytes piece unheld facts (header_of from) old (header_of to) new
        → IsHandedHere (RanUnheld {S = Handed} listing.begins listing.steps limits bytes piece unheld facts (header_of from)
        (handed_so (header_of from) facts) (header_of to))
    unheld_hands (inl all) ran = over_hands limits.max_item (bytes ++ piece) ran
    unheld_hands (inr short) ran = record {
      handed = handed_so (header_of from) facts;
      comes = (ran.0, refl);
      takes = λ earlier held. front earlier (header_of from) facts new
          (subst (λ (s : S). holds s limits earlier (header_of from) bytes facts) ran.1 held);
    }

    abbrev IsRefusedHere : SinkFault → (Handed → Type 0) → Type 0
    IsRefusedHere fault Comes =
        IsHanded Comes (λ earlier handed. HoldsHanded (holds_behind holds earlier) refuses failed limits (bytes ++ piece)
        (Err (faults.Sink fault)) handed new) old

    refuses_hands : {longest : ℕ} {seen : List ℕ} (whole : BeginsWhole longest seen (header_of to)) (fault : SinkFault)
        → RefusesLast begins steps refuses failed whole facts (header_of from) old fault new
        → IsRefusedHere fault (RefusesLast {S = Handed} listing.begins listing.steps listing.refuses listing.failed whole facts
        (header_of from) (handed_so (header_of from) facts) fault)
    refuses_hands {longest = longest} whole fault last =
        let ran = last.ran in
        let before : Option Header = header_before whole.before in
        let all : List FactValue = facts ++ ran.handed in
        record {
          handed = record { header = before; facts = all; refused = whole.last.facts };
          comes = record {
            mid = handed_so before all;
            ran = record {
              stays = ran.stays;
              handed = ran.handed;
              has_facts = ran.has_facts;
              ran = hands_run (header_of from) before facts ran.handed ran.stays;
            };
            refused = (refl, refl);
          };
          takes = λ earlier held. (
            last.mid,
            front earlier before all last.mid
                (holds_on earlier before old last.mid ran.handed
                (λ none. sym ran.has_facts ∙ no_fact longest whole.items whole.before whole.each none) ran.stays ran.ran held),
            last.refused,
          );
        }

    -- feeding a list is refused as feeding the sink is
    pub feeds_hands : (fault : PartFault)
        → Feeds begins steps refuses failed limits bytes facts from piece old (Err fault) to new
        → IsHanded (Feeds {S = Handed} listing.begins listing.steps listing.refuses listing.failed limits bytes facts from piece
        (handed_so (header_of from) facts) (Err fault) to)
        (λ earlier handed. HoldsHanded (holds_behind holds earlier) refuses failed limits (bytes ++ piece) (Err fault) handed new) old
    feeds_hands fault fed = by fault fed
      where
        by : (f : PartFault) → Feeds begins steps refuses failed limits bytes facts from piece old (Err f) to new
            → IsHanded (Feeds {S = Handed} listing.begins listing.steps listing.refuses listing.failed limits bytes facts from piece
            (handed_so (header_of from) facts) (Err f) to)
            (λ earlier handed. HoldsHanded (holds_behind holds earlier) refuses failed limits (bytes ++ piece) (Err f) handed new) old
        by faults.OutOfMemory lacks =
            let it = unheld_hands lacks.1.0 lacks.1.1 in
            record { handed = it.handed; comes = (lacks.0, (lacks.1.0, it.comes)); takes = it.takes }
        by (faults.Sink why) refused =
            let it = refuses_hands refused.0 why refused.1 in
            record { handed = it.handed; comes = (refused.0, it.comes); takes = it.takes }
        by f is_fault =
            let it = over_hands limits.max_item (take limits.max_bytes (bytes ++ piece)) is_fault.1 in
            record { handed = it.handed; comes = (is_fault.0, it.comes); takes = it.takes }
