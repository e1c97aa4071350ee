use Rattle.std.proofs.Common.{Result}
use Rattle.std.proofs.lemmas.List.{nil_from_length}
use Rattle.hprof_objects.specs.declared.object_fault.ObjectFault.{ObjectFault}
use Rattle.hprof_objects.specs.Picks.{PicksOf}
use Rattle.hprof_objects.proofs.PassedOn.{at_error, if_error}
use Rattle.hprof_objects.proofs.PickedCuts.{all_cuts, among_tells, cut_done, cut_stops, left_after, left_first, next_cut, no_cuts}
use Rattle.hprof_objects.proofs.picking.pick_cuts.Goals as goal

pub loop-cut-init : goal.loop-cut-init
loop-cut-init g c = record {
  well = c.requires.sink;
  rises = c.requires.rises;
  left_cuts = λ reads lists are. (lists, are);
  picked = λ reads rows cut up same. no_cuts g.T.RowSink.steps c.args.wanted.now c.args.limits reads rows c.args.cuts.now c.args.sink.now
      cut;
}

pub returns-in_err-pick_cut-clause-rows : goal.returns-in_err-pick_cut-clause-rows
returns-in_err-pick_cut-clause-rows g c = λ reads rows cut up same.
    let steps = g.T.RowSink.steps in
    let its = c.in-Some.cut.now in
    let now = c.loop-cut in
    let next = next_cut steps c.args.wanted.now c.args.limits reads rows up now.rest.now c.in-Some.after.now its now.left.now
    c.from_key-left.result.now c.args.sink.now now.sink c.in-Some.ensures.cases.0 c.from_key-left.ensures.same
    (now.invariant.picked reads rows cut up same) in
    at_error (λ (r : Result (Unit {0}) (ObjectFault g.row.T-Fault.Denot)). PicksOf steps g.T.RowSink.refuses c.args.wanted.now rows r
    c.args.sink.now c.pick_cut.new.sink) c.from_residual.result c.in_err-pick_cut.field-0.0
    (cut_stops steps c.args.wanted.now c.args.limits reads rows up now.rest.now c.in-Some.after.now its now.left.now
    c.from_key-left.result.now c.args.sink.now now.sink c.in-Some.ensures.cases.0 c.from_key-left.ensures.same
    (now.invariant.picked reads rows cut up same) g.T.RowSink.refuses c.pick_cut.new.sink (Unit {0}) c.in_err-pick_cut.field-0.0
    (c.in_err-pick_cut.ensures.rows reads next.its next.is_cut (same its.stretch.part)))
    c.from_residual.ensures.1

pub returns-in_err-pick_cut-clause-tells : goal.returns-in_err-pick_cut-clause-tells
returns-in_err-pick_cut-clause-tells g c =
    if_error _ c.from_residual.result c.in_err-pick_cut.field-0.0
    (among_tells c.args.limits (g.P.Parts.bytes c.args.parts.now) c.args.cuts.now c.in-Some.cut.now
    (left_first c.args.limits c.args.cuts.now c.loop-cut.rest.now c.in-Some.after.now c.in-Some.cut.now c.in-Some.ensures.cases.0
    c.loop-cut.invariant.left_cuts) c.in_err-pick_cut.field-0.0 c.in_err-pick_cut.ensures.tells)
    c.from_residual.ensures.1

pub loop-cut-preserved : goal.loop-cut-preserved
loop-cut-preserved g c =
    let now = c.loop-cut in
    record {
      well = c.in_ok-pick_cut.ensures.well;
      rises = c.from_key-left.ensures.rises;
      left_cuts = left_after c.args.limits c.args.cuts.now now.rest.now c.in-Some.after.now c.in-Some.cut.now c.in-Some.ensures.cases.0
          now.invariant.left_cuts;
      picked = λ reads rows cut up same.
          let steps = g.T.RowSink.steps in
          let its = c.in-Some.cut.now in
          let next = next_cut steps c.args.wanted.now c.args.limits reads rows up now.rest.now c.in-Some.after.now its now.left.now
          c.from_key-left.result.now c.args.sink.now now.sink c.in-Some.ensures.cases.0 c.from_key-left.ensures.same
          (now.invariant.picked reads rows cut up same) in
          cut_done steps c.args.wanted.now c.args.limits reads rows up now.rest.now c.in-Some.after.now its now.left.now
          c.from_key-left.result.now c.args.sink.now now.sink c.in-Some.ensures.cases.0 c.from_key-left.ensures.same
          (now.invariant.picked reads rows cut up same) c.pick_cut.new.sink
          (c.in_ok-pick_cut.ensures.rows reads next.its next.is_cut (same its.stretch.part));
    }

pub returns-clause-rows : goal.returns-clause-rows
returns-clause-rows g c = λ reads rows cut up same.
    let now = c.loop-cut in
    all_cuts g.T.RowSink.steps c.args.wanted.now c.args.limits reads rows now.rest.now now.left.now c.args.sink.now now.sink
    (nil_from_length now.rest.now c.in_default.ensures.cases) (now.invariant.picked reads rows cut up same)
