use Rattle.std.proofs.Common.{◌≡◌, [], Some, ◌∙◌, rules}
use Rattle.hprof_stream.proofs.FedRuns.{Pulled-consumes}
use Rattle.hprof_facts.specs.Queues.{has_refused}
use Rattle.hprof_facts.proofs.Given.{part_reads}
use Rattle.hprof_facts.proofs.Placed.{placed_now}
use Rattle.hprof_facts.proofs.Queues.{holds_once}
use Rattle.hprof_facts.proofs.fact_reader.FactReader.fill.Goals as goal

pub returns-in-Some-clause-given : goal.returns-in-Some-clause-given
returns-in-Some-clause-given g c = λ origin was given has.
    let its = c.args.self.now in
    let left = g.R.Source.left in
    let health = g.R.Source.health in
    let pulls = g.R.Source.pulls in
    let queued = holds_once its.queue has.queued [] has.holds c.requires.empty in
    let some : its.part ≡ Some c.in-Some.part = search rules in
    let reading = part_reads left health pulls origin was its.part c.in-Some.part its.source its.reads_left its.outcome
    (has_refused its.queue) given has.queued some queued has.read in
    let now = reading.0 in
    let gave = Pulled-consumes left pulls was now.came now.turns its.source now.pulled in
    c.read_piece.ensures.given origin was given now (c.clear.ensures.failed ∙ reading.1) c.clear.ensures.given
    (placed_now left health pulls origin was c.in-Some.part its.source now.came given c.place-self.result gave now.read
    c.place-self.ensures.some
    c.place-self.ensures.behind)
