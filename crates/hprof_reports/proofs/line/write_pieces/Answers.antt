use Rattle.std.proofs.Common.{ℕ, List, Bor, []}
use Rattle.std.proofs.lemmas.Result.{err_from_is_err_and}
use Rattle.hprof_reports.proofs.Slices.{slice_more, slice_stops, slice_all}
use Rattle.hprof_reports.proofs.line.write_pieces.Goals as goal

abbrev no_piece : Bor (List ℕ)
no_piece = record { ref_ptr = (0, 0); now = [] }

pub returns-in_err-push_all-clause-bytes : goal.returns-in_err-push_all-clause-bytes
returns-in_err-push_all-clause-bytes g c =
    let p = err_from_is_err_and c.from_residual.result c.from_residual.ensures.1 in
    slice_stops (λ (piece : Bor (List ℕ)). piece.now) (g.W.Target.written c.args.target.now) (g.W.Target.written c.loop-piece.target)
    (g.W.Target.written c.push_all.new.target) c.args.pieces.now c.loop-piece.piece-index c.from_residual.result p.0 no_piece
    c.loop-piece-test.true p.1 c.loop-piece.invariant.wrote c.in_err-push_all.ensures.bytes

pub loop-piece-preserved : goal.loop-piece-preserved
loop-piece-preserved g c = record {
  wrote = slice_more (λ (piece : Bor (List ℕ)). piece.now) (g.W.Target.written c.args.target.now) (g.W.Target.written c.loop-piece.target)
      (g.W.Target.written c.push_all.new.target) c.args.pieces.now c.loop-piece.piece-index no_piece c.loop-piece-test.true
      c.loop-piece.invariant.wrote c.in_ok-push_all.ensures.bytes;
  well = c.in_ok-push_all.ensures.health;
}

pub returns-clause-bytes : goal.returns-clause-bytes
returns-clause-bytes g c =
    slice_all (λ (piece : Bor (List ℕ)). piece.now) (g.W.Target.written c.args.target.now) (g.W.Target.written c.loop-piece.target)
    c.args.pieces.now c.loop-piece.piece-index c.loop-piece-test.false c.loop-piece.invariant.wrote
