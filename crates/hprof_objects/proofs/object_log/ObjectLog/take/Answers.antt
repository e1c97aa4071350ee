use Rattle.std.proofs.Common.{Result, Ok, Err, subst, sym, Option}
use Rattle.std.specs.Prelude.{OnOk}
use Rattle.hprof_objects.specs.declared.growing.Piece.{Piece}
use Rattle.hprof_objects.specs.Stretches.{IsPieceOf}
use Rattle.hprof_objects.proofs.object_log.ObjectLog.take.Goals as goal

on_ok : {A E P Q : Type 0} (result : Result A E) → OnOk result P → (P → Q) → OnOk result Q
on_ok (Ok done) holds then = then holds
on_ok (Err fault) holds then = tt

-- the piece goes on
pub returns-clause-log : goal.returns-clause-log
returns-clause-log g c = on_ok c.take_row-outcome.result c.take_row-outcome.ensures.log (λ taken limits parts part fact it object. (
  taken limits parts part fact it object,
  c.pass_one.ensures limits part fact
      (subst (λ (p : Option Piece). IsPieceOf limits part p) (sym c.take_row-outcome.ensures.piece) it.1),
))
