use Rattle.std.proofs.Common.{ℕ, Bool, refl, subst, sym, length, Option, [], ◌∷◌, ◌++◌}
use Rattle.hprof_objects.specs.declared.growing.Growing.{Growing}
use Rattle.hprof_objects.specs.declared.growing.Piece.{Piece}
use Rattle.hprof_objects.specs.PartsRead.{with_fact}
use Rattle.hprof_objects.specs.Store.{StandsLast, rows_of_store, runs_of_store}
use Rattle.hprof_objects.specs.Stretches.{IsGrowingStretch, IsPieceOf}
use Rattle.hprof_objects.proofs.Settled.{next_grows, was_growing}
use Rattle.hprof_objects.proofs.object_log.ObjectLog.extend.Goals as goal

-- the row is alone in memory
pub returns-in-Ok-true-clause-log : goal.returns-in-Ok-true-clause-log
returns-in-Ok-true-clause-log g c = λ limits parts part fact it object.
    let old = c.args.self.now in
    let was = was_growing g.S.Target.written g.S.Target.health limits parts part old.part (rows_of_store old.store)
    (runs_of_store old.store)
    old.stretches.items old.cuts.items old.cut old.growing c.args.growing c.args.from c.requires.growing c.requires.from it.0 in
    c.begin_stretch.ensures.log limits parts part fact c.args.spelled.now []
    (subst (λ (p : Option Piece). IsPieceOf limits part p) (sym c.push.ensures.piece) it.1)
    object
    (subst (λ (b : Bool). StandsLast b (rows_of_store old.store) (c.args.id, c.args.spelled.now) (rows_of_store c.push.new.self.store))
    c.in-Ok-true.field-0-test c.in-Ok-true.ensures.row) refl (c.in-Ok-true.ensures.log limits parts part fact was.keeps object)

-- the row stands behind those of the stretch
pub returns-in-Ok-false-clause-log : goal.returns-in-Ok-false-clause-log
returns-in-Ok-false-clause-log g c = λ limits parts part fact it object.
    let old = c.args.self.now in
    let was = was_growing g.S.Target.written g.S.Target.health limits parts part old.part (rows_of_store old.store)
    (runs_of_store old.store)
    old.stretches.items old.cuts.items old.cut old.growing c.args.growing c.args.from c.requires.growing c.requires.from it.0 in
    c.settle.ensures.log limits parts (with_fact part fact) (was.rows ++ (c.args.id, c.args.spelled.now) ∷ [])
    (subst (λ (n : ℕ). IsGrowingStretch limits n (with_fact part fact) c.with.result (rows_of_store c.push.new.self.store)
    (was.rows ++ (c.args.id, c.args.spelled.now) ∷ [])) (sym c.push.ensures.part)
    (subst (λ (grown : Growing). IsGrowingStretch limits old.part (with_fact part fact) grown (rows_of_store c.push.new.self.store)
    (was.rows ++ (c.args.id, c.args.spelled.now) ∷ [])) (sym c.with.ensures)
    (next_grows limits part old.part fact c.args.growing c.args.id (length c.args.spelled.now) c.args.from c.args.spelled.now
    (rows_of_store old.store) (rows_of_store c.push.new.self.store) was.rows c.requires.from c.requires.above object
    (subst (λ (b : Bool). StandsLast b (rows_of_store old.store) (c.args.id, c.args.spelled.now) (rows_of_store c.push.new.self.store))
    c.in-Ok-false.field-0-test c.in-Ok-false.ensures.row) was.grows)))
    (c.in-Ok-false.ensures.log limits parts part fact was.keeps object)
