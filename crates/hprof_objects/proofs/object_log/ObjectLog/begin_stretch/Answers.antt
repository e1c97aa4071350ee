use Rattle.std.proofs.Common.{subst, sym, Option, [], ◌∷◌}
use Rattle.hprof_objects.specs.declared.growing.Growing.{Growing}
use Rattle.hprof_objects.specs.declared.growing.Piece.{Piece}
use Rattle.hprof_objects.specs.PartsRead.{with_fact}
use Rattle.hprof_objects.specs.Store.{rows_of_store}
use Rattle.hprof_objects.specs.Stretches.{IsGrowingStretch, IsPieceOf}
use Rattle.hprof_objects.proofs.Settled.{first_grows}
use Rattle.hprof_objects.proofs.object_log.ObjectLog.begin_stretch.Goals as goal

-- the object alone
pub returns-in-Some-clause-log : goal.returns-in-Some-clause-log
returns-in-Some-clause-log g c = λ limits parts part fact bytes front piece object alone place it.
    let old = c.args.self.now in
    c.settle.ensures.log limits parts (with_fact part fact) ((c.args.id, bytes) ∷ [])
    (subst (λ (grown : Growing). IsGrowingStretch limits old.part (with_fact part fact) grown (rows_of_store old.store)
    ((c.args.id, bytes) ∷ [])) (sym c.first-growing.ensures)
    (first_grows limits part old.part fact c.in-Some.piece c.args.id c.args.len c.args.from bytes (rows_of_store old.store) front
    (subst (λ (p : Option Piece). IsPieceOf limits part p) c.in-Some.is piece) object alone place)) it
