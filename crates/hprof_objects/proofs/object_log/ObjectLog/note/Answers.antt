use Rattle.std.proofs.Common.{subst, sym, Option}
use Rattle.hprof_objects.specs.declared.growing.Piece.{Piece}
use Rattle.hprof_objects.specs.PartsRead.{with_bytes}
use Rattle.hprof_objects.specs.Store.{rows_of_store, runs_of_store}
use Rattle.hprof_objects.specs.Stretches.{IsPieceOf}
use Rattle.hprof_objects.proofs.Logged.{keeps_bytes}
use Rattle.hprof_objects.proofs.Parts.{piece_begins}
use Rattle.hprof_objects.proofs.object_log.ObjectLog.note.Goals as goal

-- bytes came, and a piece begins behind all facts
pub returns-clause-log : goal.returns-clause-log
returns-clause-log g c = λ limits parts part more it now. (
  (let old = c.args.self.now in
      keeps_bytes g.S.Target.written g.S.Target.health limits parts part old.part more (rows_of_store old.store) (runs_of_store old.store)
      old.stretches.items old.cuts.items old.cut old.growing it.0),
  subst (λ (p : Option Piece). IsPieceOf limits (with_bytes part more) p) (sym c.piece_at-self.ensures)
      (piece_begins limits (with_bytes part more) c.args.place now),
)
