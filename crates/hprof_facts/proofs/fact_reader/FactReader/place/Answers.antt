use Rattle.std.proofs.Common.{◌≡◌, ℕ, Some, ap, ◌∙◌, rules}
use Rattle.hprof_stream.specs.declared.part_place.PartPlace.{PartPlace}
use Rattle.hprof_facts.specs.Queues.{given_of}
use Rattle.hprof_facts.proofs.fact_reader.FactReader.place.Goals as goal

pub returns : goal.returns
returns g c = λ origin was given has.
    let at = has.placed in
    let passed = given_of c.args.self.now.queue in
    let both : Some c.in_ok-self.field-0 ≡ Some at.0 = search rules in
    let same : c.in_ok-self.field-0 ≡ at.0 = cc in (
      record { part = at.0; passed = passed },
      ap (λ (p : PartPlace). Some (record { part = p; passed = c.given_count.result })) same
          ∙ ap (λ (n : ℕ). Some (record { part = at.0; passed = n })) c.given_count.ensures,
      at.2,
    )
