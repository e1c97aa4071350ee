-- Walks that were stopped.
use Rattle.std.proofs.Common.{◌≡◌, ℕ, List, [], ◌++◌, drop, Option, Some, None, Result, Ok, Err, sym, ap, subst, ◌∙◌, append-nil}
use Rattle.hprof_items.specs.declared.header.Header.{Header}
use Rattle.hprof_items.specs.FactValue.{FactValue}
use Rattle.hprof_stream.specs.declared.part_fault.PartFault.{PartFault}
use Rattle.hprof_stream.specs.declared.progress.Progress.{Progress}
use Rattle.hprof_stream.specs.declared.sink.SinkFault.{SinkFault}
use Rattle.hprof_stream.specs.declared.part_fault.PartFault.TheVariants as faults
use Rattle.hprof_stream.specs.Progress.{place_of, IsOutside}
use Rattle.hprof_stream.specs.Walking.{Walks, Stops, StepsOver, Halts, WalksAll}
use Rattle.hprof_stream.proofs.ItemLists.{header_at_place, item_kept, items_kept}
use Rattle.hprof_stream.proofs.Walks.{Walks-none, Walks-then, Walks-at, same_item}
use Rattle.std.specs.Prelude.{Bool}

-- the next item stands outside, where no header was read
pub start_outside : (progress : Progress) → progress.header ≡ None → IsOutside progress
start_outside progress none header is = let never : None ≡ Some header = sym none ∙ is in absurd cc

module _ {S : Type 0} (begins : S → Header → S → Type 0) (steps : S → FactValue → S → Type 0) (refuses : S → List FactValue → SinkFault
    → S → Type 0) (failed : S → Bool) where
  -- one step that was refused
  pub Halts-step : (from to : Progress) (shown rest : List ℕ) (old new : S) (fault : PartFault)
      → StepsOver begins steps refuses failed from shown old (Err fault) to new
      → Halts begins steps refuses failed from (shown ++ rest) old fault to new
  Halts-step from to shown rest old new fault step = record {
    shown = shown;
    rest = rest;
    mid = old;
    at = from;
    walked = Walks-none begins steps from.limits.max_item from (shown ++ rest) old;
    stops = step.0;
    stands = step.1;
  }

  pub Halts-here : (from to : Progress) (bytes : List ℕ) (old new : S) (fault : PartFault)
      → StepsOver begins steps refuses failed from bytes old (Err fault) to new
      → Halts begins steps refuses failed from bytes old fault to new
  Halts-here from to bytes old new fault step =
      subst (λ (b : List ℕ). Halts begins steps refuses failed from b old fault to new) (append-nil bytes)
      (Halts-step from to bytes [] old new fault step)

  -- a walk before what was refused
  pub Halts-then : (from between to : Progress) (bytes left : List ℕ) (old mid new : S) (fault : PartFault)
      → Walks begins steps from.limits.max_item from bytes old between left mid
      → Halts begins steps refuses failed between left mid fault to new → Halts begins steps refuses failed from bytes old fault to new
  Halts-then from between to bytes left old mid new fault first halts =
      let same = same_item begins steps from.limits.max_item from between bytes left old mid first in
      let on = Walks-at begins steps between.limits.max_item from.limits.max_item between halts.at left (halts.shown ++ halts.rest) mid
      halts.mid same halts.walked in
      record {
        shown = halts.shown;
        rest = halts.rest;
        mid = halts.mid;
        at = halts.at;
        walked = Walks-then begins steps from.limits.max_item from between halts.at bytes left (halts.shown ++ halts.rest) old mid
            halts.mid first on;
        stops = halts.stops;
        stands = halts.stands;
      }

  -- one walk, and then another from where it ended
  pub Walks-on : (from between to : Progress) (bytes left rest : List ℕ) (old mid new : S)
      → Walks begins steps from.limits.max_item from bytes old between left mid
      → Walks begins steps between.limits.max_item between left mid to rest new
      → Walks begins steps from.limits.max_item from bytes old to rest new
  Walks-on from between to bytes left rest old mid new first second =
      let same = same_item begins steps from.limits.max_item from between bytes left old mid first in
      Walks-then begins steps from.limits.max_item from between to bytes left rest old mid new first
      (Walks-at begins steps between.limits.max_item from.limits.max_item between to left rest mid new same second)

  -- a walk up to an item that is not whole
  pub WalksAll-short : (from between to : Progress) (bytes left : List ℕ) (old mid new : S)
      → Walks begins steps from.limits.max_item from bytes old between left mid
      → StepsOver begins steps refuses failed between left mid (Ok None) to new
      → WalksAll begins steps refuses failed from bytes old (Ok left) to new
  WalksAll-short from between to bytes left old mid new first step =
      subst (λ (s : S). WalksAll begins steps refuses failed from bytes old (Ok left) to s) step.2
      (subst (λ (p : Progress). WalksAll begins steps refuses failed from bytes old (Ok left) p mid) step.1 (first, step.0))

  -- of the same bytes
  pub Halts-same : (from to : Progress) (bytes others : List ℕ) (old new : S) (fault : PartFault) → bytes ≡ others
      → Halts begins steps refuses failed from bytes old fault to new
      → Halts begins steps refuses failed from others old fault to new
  Halts-same from to bytes others old new fault same halts =
      subst (λ (b : List ℕ). Halts begins steps refuses failed from b old fault to new) same halts

  -- the header that was read stays
  pub walk_keeps : (longest : ℕ) (from to : Progress) (bytes rest : List ℕ) (old new : S) (header : Header)
      → Walks begins steps longest from bytes old to rest new → from.header ≡ Some header → to.header ≡ Some header
  walk_keeps longest from to bytes rest old new header walk e =
      sym (header_at_place to.header to.room) ∙ items_kept longest header (place_of from) (place_of to) walk.items walk.each
      (header_at_place from.header from.room ∙ e)

  stop_keeps : (from : Progress) (bytes : List ℕ) (old new : S) (fault : PartFault) (told : Option Header) (header : Header)
      → Stops refuses failed from bytes old fault told new → from.header ≡ Some header → told ≡ Some header
  stop_keeps from bytes old new (faults.Malformed at reason) told header stops e = stops.2 ∙ e
  stop_keeps from bytes old new (faults.ItemTooLong at) told header stops e = stops.2 ∙ e
  stop_keeps from bytes old new faults.OutOfMemory told header stops e = absurd stops
  stop_keeps from bytes old new (faults.Sink fault) told header stops e =
      sym stops.4 ∙ item_kept from.limits.max_item header (place_of from) stops.1 stops.0 stops.3 (header_at_place from.header from.room
      ∙ e)
  stop_keeps from bytes old new faults.Failed told header stops e = absurd stops
  stop_keeps from bytes old new faults.Read told header stops e = absurd stops
  stop_keeps from bytes old new faults.ReadsExceeded told header stops e = absurd stops
  stop_keeps from bytes old new faults.BytesExceeded told header stops e = absurd stops

  pub step_keeps : (from to : Progress) (bytes : List ℕ) (old new : S) (result : Result (Option ℕ) PartFault) (header : Header)
      → StepsOver begins steps refuses failed from bytes old result to new → from.header ≡ Some header → to.header ≡ Some header
  step_keeps from to bytes old new (Ok None) header step e = ap (λ (p : Progress). p.header) (sym step.1) ∙ e
  step_keeps from to bytes old new (Ok (Some n)) header step e =
      walk_keeps from.limits.max_item from to bytes (drop n bytes) old new header step.0 e
  step_keeps from to bytes old new (Err fault) header step e = stop_keeps from bytes old new fault to.header header step.0 e

  pub all_keeps : (from to : Progress) (bytes : List ℕ) (old new : S) (result : Result (List ℕ) PartFault) (header : Header)
      → WalksAll begins steps refuses failed from bytes old result to new → from.header ≡ Some header → to.header ≡ Some header
  all_keeps from to bytes old new (Ok rest) header walk e = walk_keeps from.limits.max_item from to bytes rest old new header walk.0 e
  all_keeps from to bytes old new (Err fault) header halts e =
      stop_keeps halts.at halts.shown halts.mid new fault to.header header halts.stops
      (walk_keeps from.limits.max_item from halts.at bytes (halts.shown ++ halts.rest) old halts.mid header halts.walked e)
