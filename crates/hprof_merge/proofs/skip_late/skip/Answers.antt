use Rattle.std.proofs.Common.{arith}
use Rattle.hprof_merge.proofs.Skipping.{one_skipped}
use Rattle.hprof_merge.proofs.skip_late.skip.Goals as goal

pub loop-key-preserved : goal.loop-key-preserved
loop-key-preserved g c =
    let now = c.loop-key in
    let ok = c.in_ok-advance.ensures in
    record {
      so_far = one_skipped g.C.RowCursor.shown g.C.RowCursor.goes c.args.key now.skipped c.args.cursor.now now.cursor c.advance.new.self
          now.invariant.so_far (c.is_late.ensures.0 c.loop-key-test.true) ok.goes;
      well = ok.well;
      few = let more = c.if-skipped-limit.false in omega arith;
    }
