use Rattle.std.proofs.Common.{drop, Option, refl, sym, ap, subst, ◌∙◌, arith, rules}
use Rattle.hprof_items.specs.declared.header.Header.{Header}
use Rattle.hprof_stream.specs.declared.progress.Progress.{Progress}
use Rattle.hprof_stream.specs.ItemValue.{with_fact}
use Rattle.hprof_stream.specs.Walking.{Walks}
use Rattle.hprof_stream.proofs.Behind.{bare_after, bare_next, bare_told}
use Rattle.hprof_stream.proofs.Walks.{Walks-item, given_fits, next_counted, Stops-refused}
use Rattle.hprof_stream.proofs.progress.Progress.step_outside.Goals as goal

pub give-requires : goal.give-requires
give-requires g c =
    given_fits c.args.self.now.limits.max_item c.args.self.now c.args.bytes.now (with_fact c.in-Ok.item c.item.new.fact)
    c.in-Ok.len _ (λ i. omega (arith, c.type_inv.bytes i)) c.requires.room
    c.in-Ok.ensures.found c.in-Ok.ensures.place c.in-Ok.ensures.lists c.requires.begun

pub advance-requires-clause-counted : goal.advance-requires-clause-counted
advance-requires-clause-counted g c =
    (next_counted c.args.self.now.limits.max_item c.args.self.now c.args.bytes.now (with_fact c.in-Ok.item c.item.new.fact)
    c.in-Ok.len (λ i. omega (arith, c.type_inv.bytes i)) c.requires.room
    c.in-Ok.ensures.found c.in-Ok.ensures.place c.requires.counted).0

pub advance-requires-clause-next : goal.advance-requires-clause-next
advance-requires-clause-next g c =
    bare_next c.args.self.now c.in-Ok.item c.item.new.fact c.in-Ok.len
    (next_counted c.args.self.now.limits.max_item c.args.self.now c.args.bytes.now (with_fact c.in-Ok.item c.item.new.fact)
    c.in-Ok.len (λ i. omega (arith, c.type_inv.bytes i)) c.requires.room
    c.in-Ok.ensures.found c.in-Ok.ensures.place c.requires.counted).1

pub returns-in_default-clause-step : goal.returns-in_default-clause-step
returns-in_default-clause-step g c =
    let from = c.args.self.now in
    let bytes = c.args.bytes.now in
    let walk = Walks-item g.S.Sink.begins g.S.Sink.steps from.limits.max_item from bytes c.args.sink.now c.give.new.sink
    (with_fact c.in-Ok.item c.item.new.fact) c.in-Ok.len
    (λ i. omega (arith, c.type_inv.bytes i)) c.requires.room c.in-Ok.ensures.found c.in-Ok.ensures.place
    c.in_default.ensures.gives in (
      subst (λ (p : Progress). Walks g.S.Sink.begins g.S.Sink.steps from.limits.max_item from bytes c.args.sink.now p
          (drop c.in-Ok.len bytes) c.give.new.sink)
          (sym (c.advance.ensures ∙ bare_after from c.in-Ok.item c.item.new.fact c.in-Ok.len)) walk.0,
      walk.1,
      walk.2,
      (_, c.in-Ok.ensures.found),
    )

pub returns-in-Err-clause-step : goal.returns-in-Err-clause-step
returns-in-Err-clause-step g c =
    rw (c.tell.ensures ∙ ap (λ (h : Option Header). record c.args.self.now { header = h })
    (bare_told c.args.self.now.header c.in-Ok.item c.item.new.fact)) (
      Stops-refused g.S.Sink.refuses g.S.Sink.failed c.args.self.now c.args.bytes.now (with_fact c.in-Ok.item c.item.new.fact)
          c.in-Ok.len c.args.sink.now c.give.new.sink c.in-Err.fault
          (λ i. omega (arith, c.type_inv.bytes i)) c.requires.room c.in-Ok.ensures.found c.in-Ok.ensures.place
          c.in-Err.ensures.refused.0 c.in-Err.ensures.refused.1,
      refl,
    )

pub returns-in-Err-Fault-clause-step : goal.returns-in-Err-Fault-clause-step
returns-in-Err-Fault-clause-step g c = search rules
