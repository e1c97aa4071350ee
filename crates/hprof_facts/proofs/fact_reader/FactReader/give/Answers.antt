use Rattle.std.proofs.Common.{◌≡◌, ◌++◌, Bool, List, [], Option, None, Result, subst, sym}
use Rattle.hprof_values.specs.declared.ids.IdSize.{IdSize}
use Rattle.hprof_items.specs.FactValue.{FactValue}
use Rattle.hprof_stream.specs.declared.part_fault.PartFault.{PartFault}
use Rattle.hprof_stream.specs.declared.summary.PartSummary.{PartSummary}
use Rattle.hprof_facts.specs.FactReader.{EndsFrom, HasGivenFrom, IsReadTo, IsSized}
use Rattle.hprof_facts.specs.Queues.{Holds, begun_with, given_of, has_refused}
use Rattle.hprof_facts.specs.declared.queue.Queue.{Queue}
use Rattle.hprof_facts.proofs.Given.{gives_first, none_queued, over_ends, over_summary}
use Rattle.hprof_facts.proofs.Placed.{placed_past}
use Rattle.hprof_facts.proofs.fact_reader.FactReader.give.Goals as goal

pub returns-then-step-clause-from : goal.returns-then-step-clause-from
returns-then-step-clause-from g c = λ origin was given has.
    let its = c.args.self.now in
    let left = g.R.Source.left in
    let health = g.R.Source.health in
    let pulls = g.R.Source.pulls in
    let read = subst (λ (r : Bool). IsReadTo left health pulls origin was its.part its.source its.reads_left its.outcome r
    (given ++ has.queued)) (sym c.step.ensures.failed) has.read in
    let sized = subst (λ (b : Option IdSize). IsSized left health pulls origin was b (given ++ has.queued)) (sym c.step.ensures.begun)
    has.sized in
    let it = gives_first left health pulls origin was its.part its.source its.reads_left its.outcome (has_refused c.step.new.self)
    (IsSized left health pulls origin was (begun_with c.step.new.self)) given has.queued its.queue c.step.new.self c.step.result
    c.if-step.true has.holds c.step.ensures.some c.step.ensures.none read sized in (
      it.fact,
      record {
        queued = it.rest;
        holds = it.holds;
        read = it.read;
        placed = placed_past left health pulls origin was its.source given it.fact its.before (given_of its.queue)
            (given_of c.step.new.self) it.one_more has.placed;
        sized = it.kept;
      },
      it.current,
    )

pub returns-in-Ok-clause-from : goal.returns-in-Ok-clause-from
returns-in-Ok-clause-from g c = λ origin was given has.
    let its = c.args.self.now in
    let left = g.R.Source.left in
    let health = g.R.Source.health in
    let pulls = g.R.Source.pulls in
    let queued : has.queued ≡ [] =
    none_queued has.queued its.queue c.step.new.self c.step.result c.if-step.false has.holds c.step.ensures.some in
    let empty : Holds its.queue [] = subst (λ (l : List FactValue). Holds its.queue l) queued has.holds in
    let none : its.part ≡ None = c.requires.over empty in
    let same : c.step.new.self ≡ its.queue = (c.step.ensures.none empty).1 in
    let ends = over_ends left health pulls origin was its.part its.source its.reads_left its.outcome (has_refused its.queue) given
    has.queued none queued has.read in (
      subst (λ (q : Queue). HasGivenFrom left health pulls origin was given (record its { queue = q })) (sym same) has,
      (none, subst (λ (q : Queue). Holds q []) (sym same) empty),
      (
        c.in-Ok.field-0,
        over_summary its.part its.outcome c.in-Ok.field-0 none c.in-Ok.is,
        subst (λ (o : Result PartSummary PartFault). EndsFrom left health pulls origin was its.source o given) c.in-Ok.is ends,
      ),
    )

pub returns-in-Err-clause-from : goal.returns-in-Err-clause-from
returns-in-Err-clause-from g c = λ origin was given has.
    let its = c.args.self.now in
    let left = g.R.Source.left in
    let health = g.R.Source.health in
    let pulls = g.R.Source.pulls in
    let queued : has.queued ≡ [] =
    none_queued has.queued its.queue c.step.new.self c.step.result c.if-step.false has.holds c.step.ensures.some in
    let empty : Holds its.queue [] = subst (λ (l : List FactValue). Holds its.queue l) queued has.holds in
    let none : its.part ≡ None = c.requires.over empty in
    let same : c.step.new.self ≡ its.queue = (c.step.ensures.none empty).1 in
    let ends = over_ends left health pulls origin was its.part its.source its.reads_left its.outcome (has_refused its.queue) given
    has.queued none queued has.read in (
      subst (λ (q : Queue). HasGivenFrom left health pulls origin was given (record its { queue = q })) (sym same) has,
      (none, subst (λ (q : Queue). Holds q []) (sym same) empty),
      subst (λ (o : Result PartSummary PartFault). EndsFrom left health pulls origin was its.source o given) c.in-Err.is ends,
    )
