use Rattle.std.proofs.Common.{Err, refl, ap, ◌∙◌, arith}
use Rattle.hprof_values.specs.Ids.{IsBytes}
use Rattle.hprof_values.specs.declared.parse_stop.ParseStop.TheVariants.{Short, TooLong, Fault}
use Rattle.hprof_stream.specs.ItemValue as items
use Rattle.hprof_stream.proofs.SubSteps.{sub_read, sub_stopped}
use Rattle.hprof_stream.proofs.Walks.{Walks-item, next_counted, Stops-refused}
use Rattle.hprof_stream.proofs.progress.Progress.step_sub.Goals as goal

pub returns-in-Err-clause-step : goal.returns-in-Err-clause-step
returns-in-Err-clause-step g c =
    let from = c.args.self.now in
    let bytes = c.args.bytes.now in
    let fact = c.read_sub_into.new.fact in
    let are : IsBytes bytes = λ i. omega (arith, c.type_inv.bytes i) in
    let is = sub_read from c.args.header.now bytes fact c.in-Ok.len are c.requires.header c.requires.room
    c.in-Ok.ensures.exact in (
      Stops-refused g.S.Sink.refuses g.S.Sink.failed from bytes (items.Sub fact) c.in-Ok.len c.args.sink.now c.take.new.self
          c.in-Err.fault are (omega arith) is.read is.place tt c.in-Err.ensures.err,
      refl,
    )

pub overflow_add-self-in-Ok : goal.overflow_add-self-in-Ok
overflow_add-self-in-Ok g c =
    let from = c.args.self.now in
    let bytes = c.args.bytes.now in
    let fact = c.read_sub_into.new.fact in
    let are : IsBytes bytes = λ i. omega (arith, c.type_inv.bytes i) in
    let is = sub_read from c.args.header.now bytes fact c.in-Ok.len are c.requires.header c.requires.room
    c.in-Ok.ensures.exact in
    let next = next_counted from.limits.max_item from bytes (items.Sub fact) c.in-Ok.len are (omega arith) is.read is.place
    c.requires.counted in
    omega (arith, next)

pub returns-in_default-clause-step : goal.returns-in_default-clause-step
returns-in_default-clause-step g c =
    let from = c.args.self.now in
    let bytes = c.args.bytes.now in
    let fact = c.read_sub_into.new.fact in
    let are : IsBytes bytes = λ i. omega (arith, c.type_inv.bytes i) in
    let is = sub_read from c.args.header.now bytes fact c.in-Ok.len are c.requires.header c.requires.room
    c.in-Ok.ensures.exact in
    let walk = Walks-item g.S.Sink.begins g.S.Sink.steps from.limits.max_item from bytes c.args.sink.now c.take.new.self
    (items.Sub fact) c.in-Ok.len are (omega arith) is.read is.place c.in_default.ensures.steps in
    (walk.0, walk.1, walk.2, (_, is.read))

pub returns-in-Err-Short-clause-step : goal.returns-in-Err-Short-clause-step
returns-in-Err-Short-clause-step g c = (
  sub_stopped c.args.self.now c.args.header.now c.args.bytes.now Short c.requires.header c.requires.room
      (c.in-Err-Short.ensures.exact ∙ ap Err c.in-Err-Short.field-0-is),
  refl,
  refl,
)

pub returns-in-Err-TooLong-clause-step : goal.returns-in-Err-TooLong-clause-step
returns-in-Err-TooLong-clause-step g c = (
  (
    sub_stopped c.args.self.now c.args.header.now c.args.bytes.now TooLong c.requires.header c.requires.room
        (c.in-Err-TooLong.ensures.exact ∙ ap Err c.in-Err-TooLong.field-0-is),
    refl,
    refl,
    refl,
  ),
  refl,
)

pub returns-in-Err-Fault-clause-step : goal.returns-in-Err-Fault-clause-step
returns-in-Err-Fault-clause-step g c = (
  (
    sub_stopped c.args.self.now c.args.header.now c.args.bytes.now (Fault c.in-Err-Fault.reason) c.requires.header c.requires.room
        (c.in-Err-Fault.ensures.exact ∙ ap Err c.in-Err-Fault.field-0-is),
    refl,
    refl,
    refl,
  ),
  refl,
)
