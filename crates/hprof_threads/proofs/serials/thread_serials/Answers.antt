use Rattle.std.proofs.Common.{ℕ, List, [], ◌⊎◌, subst}
use Rattle.std.specs.Prelude.{◌↔◌, Contains}
use Rattle.hprof_heap.specs.HeapFacts.{facts_of}
use Rattle.hprof_threads.specs.Serials.{IsRunning}
use Rattle.hprof_threads.proofs.SerialLists.{all_serials}
use Rattle.hprof_threads.proofs.serials.thread_serials.Goals as goal

pub returns : goal.returns
returns c =
    let facts = facts_of c.args.heap.now in
    let running = c.push_running.new.serials.items in
    all_serials facts running c.push_of_roots.new.serials.items c.sort_serials.new.serials.items
    (subst (λ (l : List ℕ). (serial : ℕ) → Contains running serial ↔ (Contains l serial ⊎ IsRunning facts serial))
    c.new-serials.ensures.items (c.in_ok-push_running.ensures)) c.in_ok-push_of_roots.ensures c.sort_serials.ensures.ascend
    c.sort_serials.ensures.same
