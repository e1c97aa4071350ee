use Rattle.std.proofs.Common.{◌∙◌, ℕ, ap, subst}
use Rattle.hprof_heap.specs.HeapFacts.{size_of}
use Rattle.hprof_naming.proofs.Namings.{of_text}
use Rattle.hprof_retained.specs.Tree.{node_at}
use Rattle.hprof_keeps.specs.Kept.{HasPlaces, IsKept}
use Rattle.hprof_keeps.proofs.Found.{placed}
use Rattle.hprof_keeps.proofs.kept_over.kept_in.Goals as goal

pub returns-then-place-eq0-clause-places : goal.returns-then-place-eq0-clause-places
returns-then-place-eq0-clause-places g c =
    of_text _ (HasPlaces c.args.retained.now) c.otherwise_over.result (λ kept has. has c.args.retained.now) c.otherwise_over.ensures.places

pub returns-in-Ok-clause-kept : goal.returns-in-Ok-clause-kept
returns-in-Ok-clause-kept g c =
    let retained = c.args.retained.now in
    let there = ap (node_at retained) c.place-place.ensures
    ∙ (placed retained c.args.id (λ none. c.if-place-eq0.false (c.place-place.ensures ∙ none))).2 in (
      c.requires.agree,
      λ all make. subst (λ (id : ℕ). IsKept (size_of c.args.heap.now) all retained id c.in-Ok.kept) there
          (c.in-Ok.ensures.kept (size_of c.args.heap.now) all (c.requires.tree all make)),
    )
