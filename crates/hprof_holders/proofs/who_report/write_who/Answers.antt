use Rattle.std.proofs.Common.{◌≡◌, List, map, sym, ap, subst, ◌∙◌}
use Rattle.std.proofs.lemmas.Result.{err_from_is_err_and}
use Rattle.hprof_values.specs.declared.root.Root.{Root}
use Rattle.hprof_heap.specs.HeapFacts.{facts_of, size_of}
use Rattle.hprof_edges.specs.declared.edge.Edge.{Edge}
use Rattle.hprof_edges.proofs.SortedEdges.{one_list}
use Rattle.hprof_lines.specs.Stopping.{WritesText}
use Rattle.hprof_lines.proofs.TextWriting.{text_unwritten}
use Rattle.hprof_holders.specs.Sums.{AreSums}
use Rattle.hprof_holders.specs.WhoText.{edge_kind, roots_of_some, who_text}
use Rattle.hprof_holders.proofs.SomeWho.{who_exists}
use Rattle.hprof_holders.proofs.WhoParts.{are_edges}
use Rattle.hprof_holders.proofs.who_report.write_who.Goals as goal

pub returns-in_err-roots-clause-bytes : goal.returns-in_err-roots-clause-bytes
returns-in_err-roots-clause-bytes g c =
    let it = who_exists (size_of c.args.view.heap.now) (facts_of c.args.view.heap.now) c.holds_of_heap.ensures.agree c.args.id in
    let r = c.from_residual in
    let p = err_from_is_err_and r.result r.ensures.1 in
    (it.0, it.1, text_unwritten r.result (g.W.Target.written c.args.target.now) p.0 it.0 p.1)

pub returns-clause-bytes : goal.returns-clause-bytes
returns-clause-bytes g c =
    let ids = size_of c.args.view.heap.now in
    let facts = facts_of c.args.view.heap.now in
    let id = c.args.id in
    let own = c.args.edges.now in
    let it = who_exists ids facts c.holds_of_heap.ensures.agree id in
    let are = it.1 in
    let old = g.W.Target.written c.args.target.now in
    let new = g.W.Target.written c.write_found.new.target in
    let edges = one_list ids facts (λ edge. edge.to ≡ id) are.edges own are.are_edges c.requires.edges in
    let roots = c.deref.ensures.value ∙ c.in_ok-roots.ensures are.roots are.are_roots in
    let text = λ (l : List Root) (e : List Edge). who_text are.found are.threads are.names id l e are.sums in (
      it.0,
      are,
      subst (WritesText old new c.write_found.result)
          (ap (λ (l : List Root). text l own) roots ∙ ap (text (roots_of_some id are.roots)) (sym edges) ∙ sym are.is)
          (c.write_found.ensures.bytes are.found are.threads are.names are.sums are.are_found are.are_threads are.are_names
          (are_edges ids facts id own c.requires.edges)
          (subst (λ (e : List Edge). AreSums (map (edge_kind are.found are.names) e) are.sums) edges are.are_sums)),
    )
