use Rattle.std.proofs.Common.{List, ◌∙◌, ap, length, set}
use Rattle.std.proofs.lemmas.List.{length-set}
use Rattle.hprof_merge.specs.Rows.{ByteRow}
use Rattle.hprof_merge.specs.Showing.{only}
use Rattle.hprof_merge.specs.Contest.{heads_of}
use Rattle.hprof_merge.proofs.Entering.{one_more_head, no_more_heads}
use Rattle.hprof_merge.proofs.merging.enter.Goals as goal

pub loop-place-preserved : goal.loop-place-preserved
loop-place-preserved g c =
    let rows : g.row.C.Denot → List ByteRow = λ cursor. only (g.C.RowCursor.shown cursor) in
    let cursors = c.args.cursors.now in
    let now = c.loop-place in
    let cursor = c.index-cursors-place in
    let head = c.head_of-head in
    record {
      count = ap length {y = set (heads_of now.contest) now.place head.result} c.set.ensures
          ∙ length-set (heads_of now.contest) now.place head.result ∙ now.invariant.count;
      heads = one_more_head rows cursors now.place cursor.result c.loop-place-test.true cursor.is (heads_of now.contest) _ head.result
          now.invariant.count
          head.ensures c.set.ensures now.invariant.heads;
      rest = no_more_heads rows cursors now.place cursor.result c.loop-place-test.true cursor.is (heads_of now.contest) _ head.result
          c.set.ensures
          now.invariant.rest;
    }
