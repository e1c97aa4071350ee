use Rattle.std.proofs.Common.{◌≡◌, List, subst}
use Rattle.std.specs.Prelude.{◌↔◌, Contains}
use Rattle.hprof_threads.specs.declared.held.Held.{Held}
use Rattle.hprof_threads.proofs.HeldOfThread.{held_by_it}
use Rattle.hprof_threads.proofs.held.HeldObjects.held_by_thread.Goals as goal

pub returns : goal.returns
returns c = λ facts are.
    held_by_it facts c.args.self.now.rows.items c.rows_of.result.now c.args.thread are
    (λ held. subst (λ (l : List Held). Contains c.rows_of.result.now held ↔ (Contains l held × (held.thread ≡ c.args.thread)))
    c.deref.ensures.value (c.rows_of.ensures.exact held)) c.rows_of.ensures.ascend
