use Rattle.std.proofs.Common.{◌∙◌, ℕ, sym, subst, arith}
use Rattle.std.specs.Prelude.{slice_index}
use Rattle.hprof_dominators.specs.Retained.{IsSumBelow}
use Rattle.hprof_dominators.specs.Tree.{number_at}
use Rattle.hprof_dominators.proofs.Counted.{counted_in_preorder}
use Rattle.hprof_numbers.specs.Numbered.{nodes_in}
use Rattle.hprof_numbers.specs.Numbers.{items_in}
use Rattle.hprof_numbers.specs.declared.numbered.Numbered.{Numbered}
use Rattle.hprof_numbers.specs.declared.numbers.Numbers.{Numbers}
use Rattle.hprof_reach.specs.NumberedGraph.{IsGraphBy}
use Rattle.hprof_weak.specs.Weak.{IsStrong}
use Rattle.hprof_retained.specs.Retained.{IsSizeOf}
use Rattle.hprof_retained.proofs.HeapTree.{tree_of}
use Rattle.hprof_retained.proofs.size_sink.SizeSink.finish.Goals as goal

pub returns : goal.returns
returns c = λ ids facts graph is over sized.
    let retained = c.args.self.retained in
    let tree = retained.tree in
    let sizes = retained.bytes in
    tree_of ids facts graph.edges graph.starts _
    (subst (λ (nodes : Numbered). IsGraphBy (IsStrong facts) ids facts
    (record { nodes = nodes; edges = graph.edges; starts = graph.starts }))
    (sym over.nodes) is)
    over.tree_is sizes.items (sym sizes.ok.0 ∙ retained.sized) c.args.self.top
    (λ place some below.
    let old = retained.numbered.old place some below in
    let at = old.1 in
    subst (λ (p : ℕ). IsSizeOf ids facts (slice_index (nodes_in retained.nodes) (number_at tree place)) (slice_index sizes.items p)) at
    (sized (number_at tree place) old.0 (omega (arith, at, some))))
    (λ x low.
    let P : Numbers → Type 0 = λ above. IsSumBelow (items_in above) sizes.items x (slice_index c.retained_sizes.new.sizes.items x) in
    subst P c.all_above.ensures (c.retained_sizes.ensures.below x (omega (arith, low, sizes.ok.0))))
    (counted_in_preorder (items_in tree.above) (items_in retained.objects) over.preorder)
