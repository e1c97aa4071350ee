use Rattle.std.proofs.Common.{sym, subst}
use Rattle.hprof_items.specs.FactValue.{FactValue, value_of}
use Rattle.hprof_threads.specs.ThreadRoots.{NotesRoot}
use Rattle.hprof_threads.proofs.FirstRoots.{is_thread_root, notes_first, notes_later, notes_other}
use Rattle.hprof_threads.proofs.thread_roots.ThreadRoots.note.Goals as goal

pub returns-in_ok-insert-in-Some : goal.returns-in_ok-insert-in-Some
returns-in_ok-insert-in-Some c =
    let found = c.in-Some in
    let stated = is_thread_root (value_of c.args.fact.now) found.serial found.root (sym found.ensures) in
    let u = c.in_ok-insert-in-Some.ensures.updates in
    subst (λ (fact : FactValue). NotesRoot fact c.args.self.now (record { roots = c.insert.new.self })) (sym stated)
    (notes_first c.args.self.now found.serial found.root (record { roots = c.insert.new.self }) u.1 u.2 (sym c.if-gives_way.ensures))

pub returns-else-gives_way : goal.returns-else-gives_way
returns-else-gives_way c =
    let found = c.in-Some in
    let stated = is_thread_root (value_of c.args.fact.now) found.serial found.root (sym found.ensures) in
    subst (λ (fact : FactValue). NotesRoot fact c.args.self.now c.args.self.now) (sym stated)
    (notes_later c.args.self.now found.serial found.root (sym c.if-gives_way.ensures))

pub returns-in-None : goal.returns-in-None
returns-in-None c = notes_other (value_of c.args.fact.now) c.args.self.now c.in-None.ensures
