use Rattle.std.proofs.Common.{sym, ap, subst, rules}
use Rattle.std.specs.Ordering.{nat_cmp}
use Rattle.std.specs.BTreeMap.{get}
use Rattle.hprof_items.specs.FactValue.{FactValue, value_of}
use Rattle.hprof_naming.specs.ClassNames.{IsBelow, NotesFact}
use Rattle.hprof_naming.proofs.FirstLoads.{notes_first, notes_later, notes_other}
use Rattle.hprof_naming.proofs.class_names.ClassNames.note.Goals as goal

pub returns-in_ok-insert-in-Load : goal.returns-in_ok-insert-in-Load
returns-in_ok-insert-in-Load c =
    let load = c.in-Load in
    let u = c.in_ok-insert-in-Load.ensures.updates in
    let below : IsBelow load.serial (get nat_cmp c.args.self.now.names load.class) = search rules in
    subst (λ (fact : FactValue). NotesFact fact c.args.self.now (record { names = c.insert.new.self })) (sym (ap value_of load.is))
    (notes_first c.args.self.now load.serial load.class load.trace load.name (record { names = c.insert.new.self }) u.1 u.2 below)

pub returns-else-comes_first : goal.returns-else-comes_first
returns-else-comes_first c =
    let load = c.in-Load in
    let later : ¬ (IsBelow load.serial (get nat_cmp c.args.self.now.names load.class)) = search rules in
    subst (λ (fact : FactValue). NotesFact fact c.args.self.now c.args.self.now) (sym (ap value_of load.is))
    (notes_later c.args.self.now load.serial load.class load.trace load.name later)

pub returns-in_default : goal.returns-in_default
returns-in_default c = notes_other c.args.fact.now c.args.self.now c.in_default.not-Load
