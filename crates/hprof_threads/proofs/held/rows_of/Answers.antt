use Rattle.std.proofs.Common.{◌≡◌, true, false, ℕ, List, nat_le, nat_lt, rules, of_calls, take, subst, sym, ap, ◌∙◌}
use Rattle.std.specs.Prelude.{◌↔◌, ◌≤◌, Contains, length}
use Rattle.std.specs.List.Sorted.{IsPartitionPoint, IsPartitionedBy, IsStrictlySortedBy}
use Rattle.std.proofs.lemmas.Fn.{always_returns_same}
use Rattle.hprof_threads.specs.declared.held.Held.{Held}
use Rattle.hprof_threads.specs.contracts.held.HeldOrd.TheImpl as held_ord
use Rattle.hprof_threads.proofs.HeldOfThread.{threads_ascend}
use Rattle.hprof_threads.proofs.Runs.{cut_below, cut_up_to, run_exact, run_sorted}
use Rattle.hprof_threads.proofs.held.rows_of.Goals as goal

abbrev thread_of : Held → ℕ
thread_of held = held.thread

pub returns : goal.returns
returns c =
    let rows = c.args.rows.now in
    let thread = c.args.thread in
    let sorted = threads_ascend rows c.requires in
    let start = c.partition_point-start.result in
    let count = c.partition_point-count.result in
    let back = c.split_at.ensures.back in
    let first = c.partition_point-start.ensures.partitioned (λ held. nat_lt held.thread thread)
    (always_returns_same _ _ _ (λ a r f k. search (rules, of_calls))) (cut_below thread_of rows sorted thread) in
    let last = c.partition_point-count.ensures.partitioned (λ held. nat_le held.thread thread)
    (always_returns_same _ _ _ (λ a r f k. search (rules, of_calls)))
    (subst (IsPartitionedBy (λ (held : Held). nat_le held.thread thread)) (sym back) (cut_up_to thread_of rows sorted thread start)) in
    let run_is = c.split_at-2.ensures.front ∙ ap (take count) back in
    let within = c.partition_point-start.ensures.bound in
    let count_within = subst (λ (l : List Held). count ≤ length l) back c.partition_point-count.ensures.bound in
    let last_is = subst (λ (l : List Held). IsPartitionPoint (λ (held : Held). nat_le held.thread thread ≡ true)
    (λ (held : Held). nat_le held.thread thread ≡ false) l count) back last in
    record {
      exact = λ held. subst (λ (l : List Held). Contains l held ↔ (Contains rows held × (held.thread ≡ thread))) (sym run_is)
          (run_exact thread_of rows sorted thread start count within count_within first last_is held);
      ascend = subst (IsStrictlySortedBy ((held_ord.ghosts).cmp)) (sym run_is)
          (run_sorted ((held_ord.ghosts).cmp) start count rows c.requires);
    }
