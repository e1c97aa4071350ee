use Rattle.std.proofs.Common.{length, ap, arith, refl}
use Rattle.std.proofs.lemmas.List.{length-drop}
use Rattle.hprof_values.specs.declared.number_writing.Number.TheVariants as numbers
use Rattle.hprof_values.proofs.Numbers.{to_the_end}
use Rattle.hprof_values.proofs.NumberWriting.{Put-lies, Put-next, Put-room, Put-more, Put-all}
use Rattle.hprof_values.proofs.number_writing.put_numbers.Goals as goal

pub slice_bounds-put_number-count : goal.slice_bounds-put_number-count
slice_bounds-put_number-count c = Put-lies c.args.ids c.args.numbers.now _ _ _ _ c.requires.room c.loop-number.invariant

pub put_number-requires-clause-room : goal.put_number-requires-clause-room
put_number-requires-clause-room c =
    let next = Put-next c.args.ids c.args.numbers.now c.loop-number.number-index (numbers.Id 0) c.args.out.now c.loop-number.out
    c.loop-number.end c.loop-number-test.true c.loop-number.invariant in
    let room = Put-room _ _ _ _ _ _ _ c.requires.room next in
    omega (arith, room, ap length (to_the_end c.loop-number.end c.loop-number.out), length-drop c.loop-number.end c.loop-number.out)

pub put_number-requires-clause-fits : goal.put_number-requires-clause-fits
put_number-requires-clause-fits c = (Put-next c.args.ids _ _ _ _ _ _ c.loop-number-test.true c.loop-number.invariant).fits.0

pub loop-number-preserved : goal.loop-number-preserved
loop-number-preserved c =
    Put-more c.args.ids _ _ _ _ _ _ _ _ _ c.requires.room (Put-next c.args.ids _ _ _ _ _ _ c.loop-number-test.true
    c.loop-number.invariant) c.width-end.ensures c.put_number.ensures refl

pub returns : goal.returns
returns c = Put-all _ _ _ _ _ _ (omega arith) c.loop-number.invariant
