-- What was read of a sub-record.
use Rattle.std.proofs.Common.{◌≡◌, ℕ, ◌≤◌, List, [], ◌∷◌, Some, Ok, Err, sym, ap, subst, ◌∙◌}
use Rattle.hprof_values.specs.Ids.{IsBytes}
use Rattle.hprof_values.specs.declared.parse_stop.ParseStop.{ParseStop}
use Rattle.hprof_items.specs.declared.fact.Fact.{Fact}
use Rattle.hprof_items.specs.declared.header.Header.{Header}
use Rattle.hprof_items.specs.FactValue.{value_of}
use Rattle.hprof_items.specs.SubRecord.{sub_at}
use Rattle.hprof_items.specs.SubReading.{bounds_within}
use Rattle.hprof_stream.specs.ItemValue as items
use Rattle.hprof_stream.specs.declared.progress.Progress.{Progress}
use Rattle.hprof_stream.specs.Item.{Place, found_sub, item_at}
use Rattle.hprof_stream.specs.ItemStep.{place_after, IsOfPlace}
use Rattle.hprof_stream.specs.Progress.{place_of}
use Rattle.hprof_stream.proofs.Holding.{place_within}
use Rattle.hprof_stream.proofs.ItemSteps.{sub_no_end}
use Rattle.hprof_stream.proofs.Walks.{IsReadAt}

-- it is the item at the front
pub record IsSubAt (from : Progress) (bytes : List ℕ) (fact : Fact) (n : ℕ) : Type 0 where
  pub read : IsReadAt from.limits.max_item from bytes (items.Sub fact) n
  pub place : IsOfPlace (place_of from) bytes (items.Sub fact)

pub sub_read : (from : Progress) (header : Header) (bytes : List ℕ) (fact : Fact) (n : ℕ) → IsBytes bytes → from.header ≡ Some header
    → 1 ≤ from.room
    → sub_at header.ids (bounds_within from.room from.limits.max_item bytes) bytes ≡ Ok (value_of fact, n) → IsSubAt from bytes fact n
unfolding item_at
sub_read from header bytes fact n are before some exact =
    let longest = from.limits.max_item in
    let within = place_within from.header from.room header before some in
    record {
      read = subst (λ (p : Place). item_at longest p bytes
          ≡ Ok (record { next = place_after p (items.Sub fact) n; facts = value_of fact ∷ [] }, n)) (sym within)
          (ap (found_sub header from.room) exact);
      place = subst (λ (p : Place). IsOfPlace p bytes (items.Sub fact)) (sym within)
          (tt, sub_no_end header.ids from.room longest bytes (value_of fact) n are exact);
    }

-- or what the reading stopped with is what the item at the front stops with
pub sub_stopped : (from : Progress) (header : Header) (bytes : List ℕ) (stop : ParseStop) → from.header ≡ Some header → 1 ≤ from.room
    → sub_at header.ids (bounds_within from.room from.limits.max_item bytes) bytes ≡ Err stop
    → item_at from.limits.max_item (place_of from) bytes ≡ found_sub header from.room (Err stop)
unfolding item_at
sub_stopped from header bytes stop before some exact =
    ap (λ (p : Place). item_at from.limits.max_item p bytes) (place_within from.header from.room header before some)
    ∙ ap (found_sub header from.room) exact
