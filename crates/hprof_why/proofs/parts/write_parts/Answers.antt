use Rattle.std.proofs.Common.{ℕ, List, subst}
use Rattle.std.proofs.lemmas.Result.{err_from_is_err_and}
use Rattle.hprof_devices.proofs.Writes.{Pushed-all, Pushed-more}
use Rattle.hprof_heap.specs.HeapFacts.{facts_of, size_of}
use Rattle.hprof_edges.specs.LeftOut.{IsKept, fields_in}
use Rattle.hprof_lines.proofs.TextWriting.{pushed_stops, pushed_stops_within}
use Rattle.std.proofs.lemmas.List.{nil_from_length}
use Rattle.hprof_why.specs.Walks.{BeginsWith, IsPartsTextOf, front_text}
use Rattle.hprof_why.proofs.Fronting.{nothing_left}
use Rattle.hprof_why.proofs.parts.write_parts.Goals as goal

pub returns-in_err-found-clause-bytes : goal.returns-in_err-found-clause-bytes
returns-in_err-found-clause-bytes g c = λ found text are told.
    let p = err_from_is_err_and c.from_residual.result c.from_residual.ensures.1 in
    let left = c.loop-to.invariant.pushed found text are told in
    pushed_stops c.from_residual.result p.0 p.1 (g.W.Target.written c.args.target.now) (g.W.Target.written c.loop-to.target) text left.0
    left.2

-- each node of the path has an edge to the next
pub returns-in_default-found-clause-bytes : goal.returns-in_default-found-clause-bytes
returns-in_default-found-clause-bytes g c = λ found text are told.
    let left = c.loop-to.invariant.pushed found text are told in
    let rest = subst (λ (l : List ℕ). IsPartsTextOf c.args.view c.args.left_out.now found c.loop-to.place.node l left.0)
    c.in-Some.ensures.cases.0 left.1 in
    absurd (subst (BeginsWith c.args.view c.args.left_out.now found left.0) c.in_default-found.is
    (c.in_ok-found.ensures.front found left.0 are rest))

pub returns-in_err-write_front-clause-bytes : goal.returns-in_err-write_front-clause-bytes
returns-in_err-write_front-clause-bytes g c = λ found text are told.
    let r = c.from_residual-in_err-write_front in
    let p = err_from_is_err_and r.result r.ensures.1 in
    let front = c.in-Some-found.front in
    let left = c.loop-to.invariant.pushed found text are told in
    let rest = subst (λ (l : List ℕ). IsPartsTextOf c.args.view c.args.left_out.now found c.loop-to.place.node l left.0)
    c.in-Some.ensures.cases.0 left.1 in
    let begins = subst (BeginsWith c.args.view c.args.left_out.now found left.0) c.in-Some-found.is
    (c.in_ok-found.ensures.front found left.0 are rest) in
    pushed_stops_within r.result p.0 p.1 (g.W.Target.written c.args.target.now) (g.W.Target.written c.loop-to.target) text left.0
    left.2 (g.W.Target.written c.write_front.new.target) (front_text found begins.0 front.more front.behind.node) begins.1 begins.3
    (c.in_err-write_front.ensures.bytes found begins.0 are begins.2)

pub loop-to-preserved : goal.loop-to-preserved
loop-to-preserved g c = record {
  pushed = λ found text are told.
      let front = c.in-Some-found.front in
      let left = c.loop-to.invariant.pushed found text are told in
      let rest = subst (λ (l : List ℕ). IsPartsTextOf c.args.view c.args.left_out.now found c.loop-to.place.node l left.0)
      c.in-Some.ensures.cases.0 left.1 in
      let begins = subst (BeginsWith c.args.view c.args.left_out.now found left.0) c.in-Some-found.is
      (c.in_ok-found.ensures.front found left.0 are rest) in (
        begins.1,
        begins.4,
        Pushed-more (g.W.Target.written c.args.target.now) (g.W.Target.written c.loop-to.target)
            (g.W.Target.written c.write_front.new.target) text left.0 (front_text found begins.0 front.more front.behind.node) begins.1
            left.2 begins.3 (c.in_ok-write_front.ensures.bytes found begins.0 are begins.2),
      );
  skips = c.in_ok-found.ensures.skips;
  well = c.in_ok-write_front.ensures.health;
}

pub returns-clause-bytes : goal.returns-clause-bytes
returns-clause-bytes g c = λ found text are told.
    let ids = size_of c.args.view.heap.now in
    let facts = facts_of c.args.view.heap.now in
    let P = IsKept (fields_in c.args.left_out.now) facts in
    let left = c.loop-to.invariant.pushed found text are told in
    let rest = subst (λ (l : List ℕ). IsPartsTextOf c.args.view c.args.left_out.now found c.loop-to.place.node l left.0)
    (nil_from_length c.loop-to.place.rest.now c.in_default.ensures.cases) left.1 in
    Pushed-all (g.W.Target.written c.args.target.now) (g.W.Target.written c.loop-to.target) text left.0 left.2
    (nothing_left P ids facts found c.loop-to.place.node left.0 rest)
