use Rattle.std.proofs.Common.{◌≡◌, ℕ, List, Bor, drop}
use Rattle.hprof_devices.specs.declared.health.Health.TheVariants.{Well}
use Rattle.hprof_devices.proofs.OneByOne.{Wrote}
use Rattle.hprof_reports.proofs.line.write_pieces.Given as goal

abbrev pub invariant-loop-piece : goal.invariant-loop-piece
invariant-loop-piece g l = record {
  wrote : Wrote (λ (piece : Bor (List ℕ)). piece.now) (g.W.Target.written l.fn.target) (g.W.Target.written l.target) l.pieces
      (drop l.piece-index l.pieces);
  well : g.W.Target.health l.target ≡ Well;
}
