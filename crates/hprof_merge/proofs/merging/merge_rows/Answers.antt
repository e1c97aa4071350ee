use Rattle.std.proofs.Common.{◌<◌, List, length, get_or, arith, ◌∙◌, sym}
use Rattle.hprof_merge.specs.Rows.{ByteRow}
use Rattle.hprof_merge.specs.Contest.{heads_of}
use Rattle.hprof_merge.specs.Showing.{only}
use Rattle.hprof_merge.proofs.Lists.{rows_at-map}
use Rattle.hprof_merge.proofs.Showing.{goes_count}
use Rattle.hprof_merge.proofs.PassedOn.{if_error}
use Rattle.hprof_merge.proofs.Rounds.{so_far_begins, no_memory, so_far_ends, shown_key, shown_least, over_stops, over_refused}
use Rattle.hprof_merge.proofs.Rounds.{over_fault, over_goes, round_less, round_keys}
use Rattle.hprof_merge.proofs.merging.merge_rows.Goals as goal

pub returns-in_default-clause-stop : goal.returns-in_default-clause-stop
returns-in_default-clause-stop g c =
    no_memory g.C.RowCursor.shown g.C.RowCursor.goes g.T.RowSink.steps g.C.RowCursor.fails g.T.RowSink.refuses c.args.cursors.now
    c.args.sink.now

pub loop-key-init : goal.loop-key-init
loop-key-init g c = record {
  so_far = so_far_begins g.C.RowCursor.shown g.C.RowCursor.goes g.T.RowSink.steps c.args.cursors.now c.args.sink.now;
  matches = c.in-Ok.ensures.heads;
  well = c.requires.well;
  sink = c.requires.sink;
  heads = c.in-Ok.ensures.count;
}

pub pass_equals-requires-clause-least : goal.pass_equals-requires-clause-least
pass_equals-requires-clause-least g c =
    let now = c.loop-key in
    shown_least g.C.RowCursor.shown g.C.RowCursor.goes g.T.RowSink.steps g.C.RowCursor.fails g.T.RowSink.refuses c.args.cursors.now
    now.cursors
    (heads_of now.contest) c.in-Some.key c.in-Some.place c.args.sink.now now.sink now.invariant.so_far now.invariant.matches
    c.in-Some.ensures

pub returns-in_err-pass_equals-clause-stop : goal.returns-in_err-pass_equals-clause-stop
returns-in_err-pass_equals-clause-stop g c =
    let now = c.loop-key in
    let over = c.in_err-pass_equals.ensures.stop in
    if_error _ c.from_residual.result c.in_err-pass_equals.field-0.0
    (over_stops g.C.RowCursor.shown g.C.RowCursor.goes g.T.RowSink.steps g.C.RowCursor.fails g.T.RowSink.refuses c.args.cursors.now
    now.cursors
    (heads_of now.contest) c.in-Some.key c.in-Some.place c.args.sink.now now.sink now.invariant.so_far now.invariant.matches
    c.in-Some.ensures over.mid over.heads over.passes c.pass_equals.new.cursors c.in_err-pass_equals.field-0.0 over.leaves over.stops)
    c.from_residual.ensures.1

pub returns-in-Err-clause-stop : goal.returns-in-Err-clause-stop
returns-in-Err-clause-stop g c =
    let rows : g.row.C.Denot → List ByteRow = λ cursor. only (g.C.RowCursor.shown cursor) in
    let now = c.loop-key in
    let level = c.in_ok-pass_equals.ensures in
    let mid = c.pass_equals.new.cursors in
    let lt : c.in-Some.place < length mid = omega (arith, c.in-Some.ensures.0, now.invariant.heads, level.level.shows.count) in
    over_refused g.C.RowCursor.shown g.C.RowCursor.goes g.T.RowSink.steps g.C.RowCursor.fails g.T.RowSink.refuses c.args.cursors.now
    now.cursors
    (heads_of now.contest) c.in-Some.key c.in-Some.place c.args.sink.now now.sink now.invariant.so_far now.invariant.matches
    c.in-Some.ensures mid (heads_of c.pass_equals.new.contest) level.level level.above
    (rows (get_or mid c.in-Some.place c.index-cursors-place.result))
    (rows_at-map rows mid c.in-Some.place c.index-cursors-place.result lt) c.in-Err.fault c.give.new.sink c.in-Err.ensures.given

pub returns-in_err-advance-clause-stop : goal.returns-in_err-advance-clause-stop
returns-in_err-advance-clause-stop g c =
    let rows : g.row.C.Denot → List ByteRow = λ cursor. only (g.C.RowCursor.shown cursor) in
    let now = c.loop-key in
    let level = c.in_ok-pass_equals.ensures in
    let mid = c.pass_equals.new.cursors in
    let lt : c.in-Some.place < length mid = omega (arith, c.in-Some.ensures.0, now.invariant.heads, level.level.shows.count) in
    if_error _ c.from_residual-in_err-advance.result c.in_err-advance.field-0.0
    (over_fault g.C.RowCursor.shown g.C.RowCursor.goes g.T.RowSink.steps g.C.RowCursor.fails g.T.RowSink.refuses c.args.cursors.now
    now.cursors
    (heads_of now.contest) c.in-Some.key c.in-Some.place c.args.sink.now now.sink now.invariant.so_far now.invariant.matches
    c.in-Some.ensures mid (heads_of c.pass_equals.new.contest) level.level level.above
    (rows (get_or mid c.in-Some.place c.index-cursors-place.result))
    (rows_at-map rows mid c.in-Some.place c.index-cursors-place.result lt) c.give.new.sink c.in_default-give.ensures.given
    c.advance.new.cursors c.in_err-advance.field-0.0 c.in_err-advance.ensures.stop.0 c.in_err-advance.ensures.stop.1)
    c.from_residual-in_err-advance.ensures.1

pub loop-key-smaller : goal.loop-key-smaller
loop-key-smaller g c =
    let now = c.loop-key in
    let level = c.in_ok-pass_equals.ensures in
    let mid = c.pass_equals.new.cursors in
    let lt : c.in-Some.place < length mid = omega (arith, c.in-Some.ensures.0, now.invariant.heads, level.level.shows.count) in
    round_less g.C.RowCursor.shown g.C.RowCursor.goes g.met.C.AscendingCursor.rises c.in-Some.key c.in-Some.place now.cursors mid
    c.advance.new.cursors (heads_of c.pass_equals.new.contest) level.level
    (shown_key g.C.RowCursor.shown g.C.RowCursor.goes g.T.RowSink.steps g.C.RowCursor.fails g.T.RowSink.refuses c.args.cursors.now
    now.cursors
    (heads_of now.contest) c.in-Some.key c.in-Some.place c.args.sink.now now.sink now.invariant.so_far now.invariant.matches
    c.in-Some.ensures)
    lt level.fits c.in_ok-advance.ensures.goes level.fewer

pub loop-key-preserved : goal.loop-key-preserved
loop-key-preserved g c =
    let rows : g.row.C.Denot → List ByteRow = λ cursor. only (g.C.RowCursor.shown cursor) in
    let now = c.loop-key in
    let level = c.in_ok-pass_equals.ensures in
    let mid = c.pass_equals.new.cursors in
    let ok = c.in_ok-advance.ensures in
    let lt : c.in-Some.place < length mid = omega (arith, c.in-Some.ensures.0, now.invariant.heads, level.level.shows.count) in
    let heads_lt : c.in-Some.place < length (heads_of c.pass_equals.new.contest) =
    omega (arith, c.in-Some.ensures.0, now.invariant.heads, level.heads) in
    record {
      so_far = over_goes g.C.RowCursor.shown g.C.RowCursor.goes g.T.RowSink.steps g.C.RowCursor.fails g.T.RowSink.refuses
          c.args.cursors.now now.cursors
          (heads_of now.contest) c.in-Some.key c.in-Some.place c.args.sink.now now.sink now.invariant.so_far now.invariant.matches
          c.in-Some.ensures mid (heads_of c.pass_equals.new.contest) level.level level.above
          (rows (get_or mid c.in-Some.place c.index-cursors-place.result))
          (rows_at-map rows mid c.in-Some.place c.index-cursors-place.result lt) c.give.new.sink c.in_default-give.ensures.given
          g.met.C.AscendingCursor.rises c.advance.new.cursors lt ok.goes;
      matches = round_keys g.C.RowCursor.shown g.C.RowCursor.goes c.in-Some.place mid c.advance.new.cursors
          (heads_of c.pass_equals.new.contest)
          (heads_of c.advance.new.contest) level.level.matches heads_lt ok.goes ok.heads;
      well = ok.well;
      sink = c.in_default-give.ensures.sink;
      heads = ok.count ∙ level.heads ∙ sym level.level.shows.count
          ∙ sym (goes_count g.C.RowCursor.goes c.in-Some.place mid c.advance.new.cursors ok.goes);
    }

pub returns-clause-merged : goal.returns-clause-merged
returns-clause-merged g c =
    let now = c.loop-key in
    so_far_ends g.C.RowCursor.shown g.C.RowCursor.goes g.T.RowSink.steps c.args.cursors.now now.cursors
    (heads_of now.contest) c.args.sink.now
    now.sink now.invariant.so_far now.invariant.matches c.in_default-first.ensures
