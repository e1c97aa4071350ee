use Rattle.std.proofs.Common.{◌≡◌, ◌↔◌, ◌-◌, ◌++◌, ◌∙◌, ℕ, List, Contains, drop, length, length-drop, take, take_all, subst, ap, arith}
use Rattle.std.proofs.lemmas.List.Sorted.{IsNonDecreasingBy-from_sort, IsPermutation-sym, Contains-permutation}
use Rattle.hprof_search.specs.Finds.{next_in}
use Rattle.hprof_search.proofs.trail.Trail.take_next.Goals as goal

pub returns-clause-ascend : goal.returns-clause-ascend
returns-clause-ascend c =
    IsNonDecreasingBy-from_sort (λ (n : ℕ). n) c.sort_unstable.new.self.items c.sort_unstable.ensures.sorted

pub returns-clause-same : goal.returns-clause-same
returns-clause-same c =
    let copied = c.extend_from_slice.new.self.items in
    let sorted = c.sort_unstable.new.self.items in
    let moved = c.sort_unstable.ensures.permutation in
    let slice = c.deref.result.now in
    let next = c.args.self.now.next in
    let long = length-drop next slice in
    let all : copied ≡ next_in c.args.self.now =
    c.in_ok-extend_from_slice.ensures.items
    ∙ ap (λ (ns : List ℕ). ns ++ take (length slice - next) (drop next slice)) c.clear.ensures.items
    ∙ take_all (length slice - next) (drop next slice) (omega arith)
    ∙ ap (drop next) c.deref.ensures.value in
    subst (λ (ns : List ℕ). (number : ℕ) → Contains sorted number ↔ Contains ns number) all (λ number.
    (Contains-permutation sorted copied number (IsPermutation-sym copied sorted moved), Contains-permutation copied sorted number moved))
