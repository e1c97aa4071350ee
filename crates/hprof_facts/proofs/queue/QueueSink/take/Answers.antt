use Rattle.std.proofs.Common.{◌≡◌, false, ◌∙◌, rules}
use Rattle.hprof_items.specs.FactValue.{value_of}
use Rattle.hprof_facts.proofs.Queues.{given}
use Rattle.hprof_facts.proofs.queue.QueueSink.take.Goals as goal

pub returns-in-Ok-clause-steps : goal.returns-in-Ok-clause-steps
returns-in-Ok-clause-steps c =
    let it = given c.args.self.now.begun c.args.fact.now c.args.spelled.now c.requires.fits c.requires.lists c.requires.spelled in
    let well : c.args.self.now.failed ≡ false = search rules in (
      c.hold.ensures.failed ∙ well,
      λ facts holds. c.in-Ok.ensures.holds it.ids facts (value_of c.args.fact.now) it.is
          (c.form_of-form.ensures.keeps it.ids it.fits it.lists it.spells) holds,
      c.hold.ensures.given,
      c.hold.ensures.begun,
    )
