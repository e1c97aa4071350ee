use Rattle.std.proofs.Common.{◌∙◌, ap, Some, take, refl, subst, sym}
use Rattle.hprof_objects.specs.declared.open_cut.OpenCut.{OpenCut}
use Rattle.hprof_objects.specs.Log.{Keeps}
use Rattle.hprof_objects.specs.declared.row_store.RowStore.{RowStore}
use Rattle.hprof_objects.specs.Store.{rows_of_store, runs_of_store}
use Rattle.hprof_objects.proofs.Logged.{keeps_growing}
use Rattle.hprof_objects.proofs.Settled.{keeps_same, settled_staying}
use Rattle.hprof_objects.proofs.object_log.ObjectLog.settle.Goals as goal

-- its rows left the memory
pub returns-then-may_stay-clause-log : goal.returns-then-may_stay-clause-log
returns-then-may_stay-clause-log g c = λ limits parts part rows grows it.
    let old = c.args.self.now in
    let store = c.may_stay.ensures.store in
    keeps_same g.S.Target.written g.S.Target.health limits parts part old.part c.may_stay.new.self.part (rows_of_store c.truncate.new.self)
    (rows_of_store c.truncate.new.self) (runs_of_store old.store) (runs_of_store c.truncate.new.self) old.stretches.items
    c.may_stay.new.self.stretches.items old.cuts.items c.may_stay.new.self.cuts.items (Some c.whole.result) (Some c.in_part.result)
    c.may_stay.ensures.part refl (c.truncate.ensures.runs ∙ ap (λ (s : RowStore g.row.S.Denot). runs_of_store s) store)
    c.may_stay.ensures.stretches c.may_stay.ensures.cuts
    (subst (λ (cut : OpenCut). Keeps g.S.Target.written g.S.Target.health limits parts part old.part (rows_of_store c.truncate.new.self)
    (runs_of_store old.store) old.stretches.items old.cuts.items (Some cut) (Some c.in_part.result)) (sym c.whole.ensures)
    (settled_staying g.S.Target.written g.S.Target.health limits parts part old.part (rows_of_store old.store)
    (rows_of_store c.truncate.new.self) (runs_of_store old.store) old.stretches.items old.cuts.items old.cut c.args.growing
    c.in_part.result c.args.from rows c.requires c.in_part.ensures
    (c.truncate.ensures.rows ∙ ap (λ (s : RowStore g.row.S.Denot). take c.args.from (rows_of_store s)) store) grows it))

-- its rows stay in memory
pub returns-else-may_stay-clause-log : goal.returns-else-may_stay-clause-log
returns-else-may_stay-clause-log g c = λ limits parts part rows grows it.
    let old = c.args.self.now in
    let store = c.may_stay.ensures.store in
    keeps_same g.S.Target.written g.S.Target.health limits parts part old.part c.may_stay.new.self.part (rows_of_store old.store)
    (rows_of_store c.may_stay.new.self.store) (runs_of_store old.store) (runs_of_store c.may_stay.new.self.store) old.stretches.items
    c.may_stay.new.self.stretches.items old.cuts.items c.may_stay.new.self.cuts.items c.may_stay.new.self.cut (Some c.args.growing)
    c.may_stay.ensures.part
    (ap (λ (s : RowStore g.row.S.Denot). rows_of_store s) store) (ap (λ (s : RowStore g.row.S.Denot). runs_of_store s) store)
    c.may_stay.ensures.stretches c.may_stay.ensures.cuts
    (keeps_growing g.S.Target.written g.S.Target.health limits parts part old.part (rows_of_store old.store) (runs_of_store old.store)
    old.stretches.items old.cuts.items old.cut c.may_stay.new.self.cut c.args.growing c.args.from rows c.requires grows it)
