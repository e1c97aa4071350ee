use Rattle.std.proofs.Common.{◌∙◌, refl, subst, sym, Bool, Option, []}
use Rattle.hprof_objects.specs.declared.growing.Piece.{Piece}
use Rattle.hprof_objects.specs.Store.{StandsLast, rows_of_store, runs_of_store}
use Rattle.hprof_objects.specs.Stretches.{IsPieceOf}
use Rattle.hprof_objects.proofs.Settled.{ungrown}
use Rattle.hprof_objects.proofs.object_log.ObjectLog.start.Goals as goal

-- the row is alone in memory
pub returns-in-Ok-true-clause-log : goal.returns-in-Ok-true-clause-log
returns-in-Ok-true-clause-log g c = λ limits parts part fact it object.
    let closed = c.close.ensures.log limits parts part it in
    c.begin_stretch.ensures.log limits parts part fact c.args.spelled.now []
    (subst (λ (p : Option Piece). IsPieceOf limits part p) (sym (c.push.ensures.piece ∙ c.close.ensures.piece)) it.1)
    object
    (subst (λ (b : Bool). StandsLast b (rows_of_store c.close.new.self.store) (c.args.id, c.args.spelled.now)
    (rows_of_store c.push.new.self.store)) c.in-Ok-true.field-0-test c.in-Ok-true.ensures.row) refl
    (c.in-Ok-true.ensures.log limits parts part fact
    (ungrown g.S.Target.written g.S.Target.health limits parts part c.close.new.self.part (rows_of_store c.close.new.self.store)
    (runs_of_store c.close.new.self.store) c.close.new.self.stretches.items c.close.new.self.cuts.items c.close.new.self.cut
    c.close.new.self.growing c.close.ensures.none closed.0) object)
