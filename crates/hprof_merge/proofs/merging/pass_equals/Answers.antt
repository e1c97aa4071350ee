use Rattle.std.proofs.Common.{◌<◌, ◌^◌, List, refl, length, arith, ◌∙◌}
use Rattle.hprof_merge.specs.Rows.{ByteRow}
use Rattle.hprof_merge.specs.Contest.{heads_of}
use Rattle.hprof_merge.specs.Showing.{only, all_shown}
use Rattle.hprof_merge.proofs.Entering.{same_lists, not_true}
use Rattle.hprof_merge.proofs.Showing.{shown_ascend, goes_count}
use Rattle.hprof_merge.proofs.PassedOn.{if_error}
use Rattle.hprof_merge.proofs.PassingOver.{passes_none, no_lower, passes_contents, passes_fault, passes_less, passes_more, others_above}
use Rattle.hprof_merge.proofs.merging.pass_equals.Goals as goal

pub loop-place-init : goal.loop-place-init
loop-place-init g c = record {
  passes = passes_none g.C.RowCursor.shown g.C.RowCursor.goes c.args.key c.args.held c.args.cursors.now (heads_of c.args.contest.now)
      c.requires.matches c.requires.least;
  well = c.requires.well;
  count = refl;
  heads = c.requires.count;
  fewer = omega arith;
}

pub place_of-requires : goal.place_of-requires
place_of-requires g c =
    let now = c.loop-place in
    no_lower c.args.held (all_shown g.C.RowCursor.shown now.cursors) (heads_of now.contest) now.invariant.passes.matches c.args.key
    now.invariant.passes.least

pub returns-then-not-agree-clause-stop : goal.returns-then-not-agree-clause-stop
returns-then-not-agree-clause-stop g c =
    let rows : g.row.C.Denot → List ByteRow = λ cursor. only (g.C.RowCursor.shown cursor) in
    let now = c.loop-place in
    let held_lt : c.args.held < length now.cursors = omega (arith, c.requires.held, now.invariant.count) in
    let lt : c.in-Some.place < length now.cursors = omega (arith, now.invariant.count, now.invariant.heads, c.in-Some.ensures.0) in
    passes_contents g.C.RowCursor.shown g.C.RowCursor.goes c.args.key c.args.held c.in-Some.place c.args.cursors.now now.cursors
    (heads_of now.contest) now.invariant.passes c.in-Some.ensures.1 c.requires.key
    (λ same. not_true (c.if-not-agree.ensures.1
    ((same_lists rows now.cursors c.args.held c.in-Some.place c.index-cursors-held.result c.index-cursors-place.result held_lt lt
    c.index-cursors-held.is c.index-cursors-place.is).0 same))) g.C.RowCursor.fails

pub returns-in_err-advance-clause-stop : goal.returns-in_err-advance-clause-stop
returns-in_err-advance-clause-stop g c =
    if_error _ c.from_residual.result c.in_err-advance.field-0.0
    (passes_fault g.C.RowCursor.shown g.C.RowCursor.goes c.args.key c.args.held c.in-Some.place c.args.cursors.now c.loop-place.cursors
    (heads_of c.loop-place.contest) c.loop-place.invariant.passes c.in-Some.ensures.1 g.C.RowCursor.fails c.advance.new.cursors
    c.in_err-advance.field-0.0
    c.in_err-advance.ensures.stop.0 c.in_err-advance.ensures.stop.1)
    c.from_residual.ensures.1

pub loop-place-smaller : goal.loop-place-smaller
loop-place-smaller g c =
    let now = c.loop-place in
    let lt : c.in-Some.place < length now.cursors = omega (arith, now.invariant.count, now.invariant.heads, c.in-Some.ensures.0) in
    let fits : c.args.key < 2 ^ 64 = omega (arith, c.ranges.key.fits) in
    passes_less g.C.RowCursor.shown g.C.RowCursor.goes g.met.C.AscendingCursor.rises c.args.key c.args.held c.in-Some.place
    c.args.cursors.now
    now.cursors c.advance.new.cursors (heads_of now.contest) now.invariant.passes c.in-Some.ensures.1 lt fits
    c.in_ok-advance.ensures.goes

pub loop-place-preserved : goal.loop-place-preserved
loop-place-preserved g c =
    let rows : g.row.C.Denot → List ByteRow = λ cursor. only (g.C.RowCursor.shown cursor) in
    let now = c.loop-place in
    let held_lt : c.args.held < length now.cursors = omega (arith, c.requires.held, now.invariant.count) in
    let lt : c.in-Some.place < length now.cursors = omega (arith, now.invariant.count, now.invariant.heads, c.in-Some.ensures.0) in
    let fits : c.args.key < 2 ^ 64 = omega (arith, c.ranges.key.fits) in
    let ok = c.in_ok-advance.ensures in
    let less = passes_less g.C.RowCursor.shown g.C.RowCursor.goes g.met.C.AscendingCursor.rises c.args.key c.args.held c.in-Some.place
    c.args.cursors.now
    now.cursors c.advance.new.cursors (heads_of now.contest) now.invariant.passes c.in-Some.ensures.1 lt fits ok.goes in
    record {
      passes = passes_more g.C.RowCursor.shown g.C.RowCursor.goes g.met.C.AscendingCursor.rises c.args.key c.args.held c.in-Some.place
          c.args.cursors.now now.cursors c.advance.new.cursors (heads_of now.contest) (heads_of c.advance.new.contest)
          now.invariant.passes c.in-Some.ensures.1 c.in-Some.ensures.0 lt c.requires.key
          ((same_lists rows now.cursors c.args.held c.in-Some.place c.index-cursors-held.result c.index-cursors-place.result held_lt lt
          c.index-cursors-held.is c.index-cursors-place.is).1 (c.if-not-agree.ensures.0 refl))
          ok.goes ok.heads;
      well = ok.well;
      count = goes_count g.C.RowCursor.goes c.in-Some.place now.cursors c.advance.new.cursors ok.goes ∙ now.invariant.count;
      heads = ok.count ∙ now.invariant.heads;
      fewer = omega (arith, less, now.invariant.fewer);
    }

pub returns-clause-above : goal.returns-clause-above
returns-clause-above g c =
    others_above c.args.held (all_shown g.C.RowCursor.shown c.loop-place.cursors) (heads_of c.loop-place.contest)
    c.loop-place.invariant.passes.matches c.args.key (shown_ascend g.C.RowCursor.shown c.loop-place.cursors) c.in_default.ensures
