use Rattle.std.proofs.Common.{◌≡◌, false, subst, sym, Err, arith, rules}
use Rattle.hprof_objects.specs.declared.object_fault.ObjectFault.{ObjectFault}
use Rattle.hprof_objects.specs.PickedCuts.{TellsCursor}
use Rattle.hprof_objects.specs.Picks.{PicksOf}
use Rattle.hprof_objects.proofs.PickedRows.{at_most_end, cursor_tells, first_stops, none_picked}
use Rattle.hprof_objects.proofs.PickedRows.{picked_counted, picked_first, picked_last, picked_more}
use Rattle.hprof_objects.proofs.PickedRows.{picked_refused, picked_to_end}
use Rattle.hprof_objects.proofs.picking.pick_rows.Goals as goal

pub returns-in_default-clause-rows : goal.returns-in_default-clause-rows
returns-in_default-clause-rows g c = λ rows comes count ends.
    picked_to_end g.R.Source.left g.R.Source.health g.R.Source.pulls g.T.RowSink.steps c.args.wanted.now rows c.loop.cursor c.loop.rest.now
    c.loop.counter c.args.sink.now c.loop.sink (c.loop.invariant.picked rows comes) c.in_default.ensures

pub returns-then-not-has_up_to-clause-rows : goal.returns-then-not-has_up_to-clause-rows
returns-then-not-has_up_to-clause-rows g c = λ rows comes count ends.
    let none : c.has_up_to.result ≡ false = search rules in
    picked_last g.R.Source.left g.R.Source.health g.R.Source.pulls g.T.RowSink.steps c.args.wanted.now rows c.loop.cursor c.loop.rest.now
    c.loop.counter c.args.sink.now c.loop.sink (c.loop.invariant.picked rows comes) c.in-Some.key c.in-Some.bytes.now c.in-Some.ensures.0
    c.in-Some.ensures.1 c.from_key-rest.result.now c.from_key-rest.ensures.same c.args.cut.now.last (c.has_up_to.ensures none)
    (at_most_end rows c.args.cut.now.last ends comes.1.ascends)

pub returns-in-Err-clause-rows : goal.returns-in-Err-clause-rows
returns-in-Err-clause-rows g c = λ rows comes count ends.
    picked_refused g.R.Source.left g.R.Source.health g.R.Source.pulls g.T.RowSink.steps c.args.wanted.now rows c.loop.cursor
    c.loop.rest.now c.loop.counter c.args.sink.now c.loop.sink (c.loop.invariant.picked rows comes) c.in-Some.key c.in-Some.bytes.now
    c.in-Some.ensures.0 c.in-Some.ensures.1 c.from_key-rest.result.now c.from_key-rest.ensures.same g.T.RowSink.refuses c.in-Err.fault
    c.give.new.sink c.in-Err.ensures.refused.0 c.in-Err.ensures.refused.1

pub returns-in-Err-advance-clause-rows : goal.returns-in-Err-advance-clause-rows
returns-in-Err-advance-clause-rows g c = λ rows comes count ends.
    let steps = g.T.RowSink.steps in
    let refuses = g.T.RowSink.refuses in
    subst (λ (s : ObjectFault g.row.T-Fault.Denot). PicksOf steps refuses c.args.wanted.now {A = Unit {0}} rows (Err s) c.args.sink.now
    c.give.new.sink) (sym c.part_stop.ensures)
    (first_stops (Unit {0}) steps refuses c.args.wanted.now rows c.args.sink.now c.give.new.sink c.args.cut.now.stretch.part
    c.in-Err-advance.fault
    (picked_first g.R.Source.left g.R.Source.health g.R.Source.pulls steps c.args.wanted.now rows c.loop.cursor c.loop.rest.now
    c.loop.counter c.args.sink.now c.loop.sink (c.loop.invariant.picked rows comes) c.in-Some.key c.in-Some.bytes.now c.in-Some.ensures.0
    c.in-Some.ensures.1 c.from_key-rest.result.now c.from_key-rest.ensures.same c.give.new.sink c.in_default-give.ensures.took refuses))

pub returns-in-Err-advance-clause-tells : goal.returns-in-Err-advance-clause-tells
returns-in-Err-advance-clause-tells g c =
    let left = g.R.Source.left in
    let health = g.R.Source.health in
    let pulls = g.R.Source.pulls in
    subst (λ (s : ObjectFault g.row.T-Fault.Denot). TellsCursor left health pulls c.args.cut.now.stretch.part c.args.cursor.now s) (sym
    c.part_stop.ensures)
    (cursor_tells g.row.T-Fault.Denot left health pulls c.args.cut.now.stretch.part c.args.cursor.now c.loop.cursor c.advance.new.self
    c.in-Err-advance.fault c.in-Err-advance.ensures.fails (λ rows comes.
    let picked = c.loop.invariant.picked rows comes in (picked.rest, picked.comes)))

pub loop-init : goal.loop-init
loop-init g c = record {
  can = c.requires.cursor;
  well = c.requires.sink;
  rises = c.requires.rises;
  picked = λ rows comes. none_picked g.R.Source.left g.R.Source.health g.R.Source.pulls g.T.RowSink.steps c.args.wanted.now rows
      c.args.cursor.now c.args.sink.now comes;
}

pub loop-preserved : goal.loop-preserved
loop-preserved g c = record {
  can = c.in_default-advance.ensures.well;
  well = c.in_default-give.ensures.well;
  rises = c.from_key-rest.ensures.rises;
  picked = λ rows comes.
      picked_more g.R.Source.left g.R.Source.health g.R.Source.pulls g.T.RowSink.steps c.args.wanted.now rows c.loop.cursor c.loop.rest.now
      c.loop.counter c.args.sink.now c.loop.sink (c.loop.invariant.picked rows comes) c.in-Some.key c.in-Some.bytes.now c.in-Some.ensures.0
      c.in-Some.ensures.1 c.from_key-rest.result.now c.from_key-rest.ensures.same c.give.new.sink c.in_default-give.ensures.took
      c.advance.new.self c.in_default-advance.ensures.goes;
}

pub returns-clause-rows : goal.returns-clause-rows
returns-clause-rows g c = λ rows comes count ends.
    picked_counted g.R.Source.left g.R.Source.health g.R.Source.pulls g.T.RowSink.steps c.args.wanted.now rows c.loop.cursor
    c.loop.rest.now c.loop.counter c.args.sink.now c.loop.sink (c.loop.invariant.picked rows comes)
    (omega (arith, count, c.loop-test.false, c.loop.auto.counter-end))
