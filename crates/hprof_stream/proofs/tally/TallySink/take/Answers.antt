use Rattle.hprof_items.specs.FactValue.{value_of}
use Rattle.hprof_stream.proofs.Tallies.{counted_at}
use Rattle.hprof_stream.proofs.tally.TallySink.take.Goals as goal

pub returns-clause-steps : goal.returns-clause-steps
returns-clause-steps c = λ facts counts.
    counted_at facts (value_of c.args.fact.now) c.args.self.now.counts c.form_of-form.result c.saturating_add.result
    c.form_of-form.ensures.form c.form_of-form.ensures.below c.saturating_add.ensures counts
