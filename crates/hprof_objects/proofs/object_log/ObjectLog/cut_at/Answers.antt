use Rattle.hprof_objects.specs.Store.{rows_of_store, runs_of_store}
use Rattle.hprof_objects.proofs.Settled.{grows_cut, grows_in_part, keeps_same}
use Rattle.std.proofs.Common.{◌∙◌, ◌++◌, ◌∷◌, [], List, Some, ap, refl}
use Rattle.hprof_objects.specs.declared.cut.Cut.{Cut}
use Rattle.hprof_objects.proofs.object_log.ObjectLog.cut_at.Goals as goal

-- the cut goes on
pub returns-in_default-clause-log : goal.returns-in_default-clause-log
returns-in_default-clause-log g c = λ limits parts part fact bytes it object.
    let old = c.args.self.now in
    grows_in_part g.S.Target.written g.S.Target.health limits parts part old.part (rows_of_store old.store) (runs_of_store old.store)
    old.stretches.items old.cuts.items old.cut old.growing c.args.growing c.with.result fact c.args.id c.args.len bytes
    c.requires.growing c.requires.stands c.requires.above object c.with.ensures it.0

pub returns-then-is_err-clause-log : goal.returns-then-is_err-clause-log
returns-then-is_err-clause-log g c = λ limits parts part fact bytes it object.
    let old = c.args.self.now in
    keeps_same g.S.Target.written g.S.Target.health limits parts _ old.part old.part (rows_of_store old.store) (rows_of_store old.store)
    (runs_of_store old.store) (runs_of_store old.store) old.stretches.items old.stretches.items old.cuts.items c.reserve.new.self.items
    old.cut (Some c.with.result) refl refl refl refl c.reserve.ensures.items
    (grows_in_part g.S.Target.written g.S.Target.health limits parts part old.part (rows_of_store old.store) (runs_of_store old.store)
    old.stretches.items old.cuts.items old.cut old.growing c.args.growing c.with.result fact c.args.id c.args.len bytes
    c.requires.growing c.requires.stands c.requires.above object c.with.ensures it.0)

-- another one begins
pub returns-clause-log : goal.returns-clause-log
returns-clause-log g c = λ limits parts part fact bytes it object.
    let old = c.args.self.now in
    grows_cut g.S.Target.written g.S.Target.health limits parts part old.part (rows_of_store old.store) (runs_of_store old.store)
    old.stretches.items old.cuts.items c.push_reserved.new.self.items old.cut c.in-Some-cut.cut c.behind.result c.end.result old.growing
    c.args.growing c.with.result old.piece c.in-Some.piece fact c.args.id c.args.len bytes c.requires.growing c.requires.stands
    c.requires.above object c.with.ensures c.in-Some-cut.is c.in-Some.is c.end.ensures
    (c.push_reserved.ensures.items ∙ ap (λ (l : List Cut). l ++ c.end.result ∷ []) c.reserve.ensures.items) c.behind.ensures it.1 it.0
