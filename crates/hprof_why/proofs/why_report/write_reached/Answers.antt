use Rattle.std.proofs.Common.{List, [], codes, sym, subst}
use Rattle.std.specs.Prelude.{◌↔◌}
use Rattle.std.proofs.lemmas.Result.{err_from_is_err_and}
use Rattle.hprof_heap.specs.HeapFacts.{facts_of, size_of}
use Rattle.hprof_edges.specs.declared.edge.Edge.{Edge}
use Rattle.hprof_edges.specs.declared.field_place.FieldPlace.{FieldPlace}
use Rattle.hprof_edges.specs.Edges.{AnyEdge, IsEdge}
use Rattle.hprof_edges.specs.LeftOut.{IsKept, fields_in}
use Rattle.hprof_lines.proofs.TextWriting.{text_stops, text_then}
use Rattle.hprof_lines.specs.Stopping.{WritesText}
use Rattle.hprof_weak.specs.Weak.{IsStrong}
use Rattle.hprof_why.specs.declared.reached.Reached.{Reached}
use Rattle.hprof_why.specs.Paths.{TellsReached}
use Rattle.hprof_why.specs.WhyText.{IsToldPath}
use Rattle.hprof_why.proofs.Choosing.{kept_all, strong_kept}
use Rattle.hprof_why.proofs.SomeText.{told_same}
use Rattle.hprof_why.proofs.why_report.write_reached.Goals as goal

pub returns-in-Strongly-clause-bytes : goal.returns-in-Strongly-clause-bytes
returns-in-Strongly-clause-bytes g c = λ found text are tells.
    let ids = size_of c.args.view.heap.now in
    let facts = facts_of c.args.view.heap.now in
    let fields = fields_in c.args.view.weak.now in
    let path = c.in-Strongly.path in
    let same : (edge : Edge) → IsEdge ids facts edge → IsStrong facts edge ↔ IsKept fields facts edge =
    λ edge is. let both = strong_kept ids facts fields c.requires.view.weak edge is in (both.1, both.0) in
    c.write_path.ensures.bytes found text are
    (told_same (IsStrong facts) (IsKept fields facts) ids facts found same path.distance path.nodes.items text
    (subst (λ (how : Reached). TellsReached ids facts found how text) c.in-Strongly.is tells))

pub returns-in_err-write_str-in-Weakly-clause-bytes : goal.returns-in_err-write_str-in-Weakly-clause-bytes
returns-in_err-write_str-in-Weakly-clause-bytes g c = λ found text are tells.
    let ids = size_of c.args.view.heap.now in
    let facts = facts_of c.args.view.heap.now in
    let old = g.W.Target.written c.args.target.now in
    let new = g.W.Target.written c.write_str.new.target in
    let told = subst (λ (how : Reached). TellsReached ids facts found how text) c.in-Weakly.is tells in
    let r = c.from_residual in
    let p = err_from_is_err_and r.result r.ensures.1 in
    subst (WritesText old new r.result) (sym told.2)
    (text_stops r.result old new p.0 (codes "only by weak references\n") told.0 p.1 c.in_err-write_str-in-Weakly.ensures.bytes)

pub returns-in_ok-write_str-in-Weakly-clause-bytes : goal.returns-in_ok-write_str-in-Weakly-clause-bytes
returns-in_ok-write_str-in-Weakly-clause-bytes g c = λ found text are tells.
    let ids = size_of c.args.view.heap.now in
    let facts = facts_of c.args.view.heap.now in
    let path = c.in-Weakly.path in
    let old = g.W.Target.written c.args.target.now in
    let mid = g.W.Target.written c.write_str.new.target in
    let new = g.W.Target.written c.write_path-in-Weakly.new.target in
    let r = c.write_path-in-Weakly.result in
    let told = subst (λ (how : Reached). TellsReached ids facts found how text) c.in-Weakly.is tells in
    let kept = told_same AnyEdge (IsKept [] facts) ids facts found (kept_all ids facts) path.distance path.nodes.items told.0 told.1 in
    let by_none =
    subst (λ (fields : List FieldPlace). IsToldPath (IsKept fields facts) ids facts found path.distance path.nodes.items told.0)
    (sym c.none.ensures) kept in
    subst (WritesText old new r) (sym told.2)
    (text_then r old mid new (codes "only by weak references\n") told.0 c.in_ok-write_str-in-Weakly.ensures.bytes
    (c.write_path-in-Weakly.ensures.bytes found told.0 are by_none))

pub returns-in-Nowise-clause-bytes : goal.returns-in-Nowise-clause-bytes
returns-in-Nowise-clause-bytes g c = λ found text are tells.
    let ids = size_of c.args.view.heap.now in
    let facts = facts_of c.args.view.heap.now in
    let old = g.W.Target.written c.args.target.now in
    let new = g.W.Target.written c.write_str-in-Nowise.new.target in
    let told = subst (λ (how : Reached). TellsReached ids facts found how text) c.in-Nowise.is tells in
    subst (WritesText old new c.write_str-in-Nowise.result) (sym told) c.write_str-in-Nowise.ensures.bytes
