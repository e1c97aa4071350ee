use Rattle.std.proofs.Common.{◌∙◌, ℕ, ap, subst, sym}
use Rattle.hprof_heap.specs.HeapFacts.{facts_of, size_of}
use Rattle.hprof_naming.proofs.Namings.{of_text}
use Rattle.hprof_retained.specs.Tree.{node_at}
use Rattle.hprof_keeps.specs.Kept.{IsKept}
use Rattle.hprof_keeps.proofs.Found.{not_held, placed}
use Rattle.hprof_keeps.proofs.kept.kept_of.Goals as goal

pub returns-then-place-ne0-clause-kept : goal.returns-then-place-ne0-clause-kept
returns-then-place-ne0-clause-kept c =
    let ids = size_of c.args.heap.now in
    let facts = facts_of c.args.heap.now in
    let retained = c.args.retained.now in
    let there = ap (node_at retained) c.place-place.ensures
    ∙ (placed retained c.args.id (λ none. c.if-place-ne0.true (c.place-place.ensures ∙ none))).2 in
    of_text _ (IsKept ids facts retained c.args.id) c.held_kept.result
    (λ kept is. subst (λ (id : ℕ). IsKept ids facts retained id kept) there (is ids facts c.requires.retained)) c.held_kept.ensures.kept

pub returns-then-branch-clause-kept : goal.returns-then-branch-clause-kept
returns-then-branch-clause-kept c =
    ((c.if-id-eq0.false, c.is_dumped.ensures.0 c.if-not-is_dumped.false), c.in_ok-is_weakly_held.ensures.held.0 c.if-branch.true)

pub returns-else-branch-clause-kept : goal.returns-else-branch-clause-kept
returns-else-branch-clause-kept c =
    let none = not_held (size_of c.args.heap.now) (facts_of c.args.heap.now) c.args.retained.now c.requires.retained c.args.id
    (sym c.place-place.ensures ∙ c.if-place-ne0.false) in (
      (c.if-id-eq0.false, c.is_dumped.ensures.0 c.if-not-is_dumped.false),
      λ reached. (let yes = c.in_ok-is_weakly_held.ensures.held.1 (reached, none) in let no = c.if-branch.false in cc),
    )
