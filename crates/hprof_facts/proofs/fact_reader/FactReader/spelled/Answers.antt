use Rattle.std.proofs.Common.{ℕ, List, subst, sym}
use Rattle.hprof_stream.specs.Run.{SpellsBegun}
use Rattle.hprof_facts.specs.Queues.{begun_with}
use Rattle.hprof_facts.proofs.Spelled.{current_spelled}
use Rattle.hprof_facts.proofs.fact_reader.FactReader.spelled.Goals as goal

pub returns-clause-spells : goal.returns-clause-spells
returns-clause-spells g c = λ fact current.
    let queue = c.args.self.now.queue in
    subst (λ (bytes : List ℕ). SpellsBegun (begun_with queue) fact bytes) (sym c.spelled.ensures) (current_spelled queue fact current)
