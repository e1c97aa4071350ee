-- What a thread holds stands together.
use Rattle.std.specs.Prelude.{◌↔◌}
use Rattle.std.specs.Ordering.{MatchOrdering, nat_cmp, ordering_then}
use Rattle.std.specs.List.Sorted.{IsNonDecreasingBy, IsStrictlySortedBy}
use Rattle.std.specs.declared.cmp.Ordering.{Ordering}
use Rattle.std.specs.declared.cmp.Ordering.TheVariants.{Less, Equal, Greater}
use Rattle.std.proofs.Common.{◌≡◌, ◌<◌, ◌≤◌, ℕ, List, Contains, refl, arith}
use Rattle.std.proofs.lemmas.Cmp.{ranked}
use Rattle.hprof_items.specs.FactValue.{FactValue}
use Rattle.hprof_threads.specs.declared.held.Held.{Held}
use Rattle.hprof_threads.specs.contracts.held.HeldOrd.TheImpl as held_ord
use Rattle.hprof_threads.specs.contracts.held.PlaceOrd.TheImpl as place_ord
use Rattle.hprof_threads.specs.Held.{AreHeld, AreHeldBy}
use Rattle.hprof_threads.proofs.Runs.{keys_ascend}

thread_first : (one other : Held) → (held_ord.ghosts).cmp one other ≡ Less → one.thread ≤ other.thread
thread_first one other e = by_thread (nat_cmp one.thread other.thread) (ranked one.thread other.thread _ refl) e where
  by_thread : (o : Ordering) → MatchOrdering o (one.thread < other.thread) (one.thread ≡ other.thread) (other.thread < one.thread)
      → ordering_then o (ordering_then ((place_ord.ghosts).cmp one.place other.place) (nat_cmp one.object other.object)) ≡ Less
      → one.thread ≤ other.thread
  by_thread Less at e = omega (arith, at)
  by_thread Equal at e = omega (arith, at)
  by_thread Greater at e = absurd cc

pub threads_ascend : (rows : List Held) → IsStrictlySortedBy ((held_ord.ghosts).cmp) rows
    → IsNonDecreasingBy (λ (held : Held). held.thread) rows
threads_ascend rows sorted = keys_ascend ((held_ord.ghosts).cmp) (λ (held : Held). held.thread) thread_first rows sorted

-- sorted rows that are those of the thread among all
pub held_by_it : (facts : List FactValue) (rows run : List Held) (thread : ℕ) → AreHeld facts rows
    → ((held : Held) → Contains run held ↔ (Contains rows held × (held.thread ≡ thread))) → IsStrictlySortedBy ((held_ord.ghosts).cmp) run
    → AreHeldBy facts thread run
held_by_it facts rows run thread are exact ascend = record {
  ascend = ascend;
  exact = λ held. (
    λ has. let both = (exact held).0 has in ((are.exact held).0 both.0, both.1),
    λ is. (exact held).1 ((are.exact held).1 is.0, is.1),
  );
}
