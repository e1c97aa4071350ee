use Rattle.std.proofs.Common.{take, arith}
use Rattle.hprof_writing.proofs.SubFitting.{sub_front_len}
use Rattle.hprof_writing.proofs.front_lengths.sub_len.Goals as goal

pub numbers_len-requires : goal.numbers_len-requires
numbers_len-requires c =
    let front = c.in-Some.front in
    let len = sub_front_len c.args.ids c.args.fact.now front.tag (take front.count front.fields) front.more.now c.in-Some.ensures.some
    c.requires.fits in
    omega (arith, len.1)

pub overflow_add-result : goal.overflow_add-result
overflow_add-result c =
    let front = c.in-Some.front in
    let len = sub_front_len c.args.ids c.args.fact.now front.tag (take front.count front.fields) front.more.now c.in-Some.ensures.some
    c.requires.fits in
    omega (arith, len.1, c.numbers_len.ensures)

pub overflow_add-result-2 : goal.overflow_add-result-2
overflow_add-result-2 c =
    let front = c.in-Some.front in
    let len = sub_front_len c.args.ids c.args.fact.now front.tag (take front.count front.fields) front.more.now c.in-Some.ensures.some
    c.requires.fits in
    omega (arith, len.1, c.numbers_len.ensures)

pub returns : goal.returns
returns c =
    let front = c.in-Some.front in
    let len = sub_front_len c.args.ids c.args.fact.now front.tag (take front.count front.fields) front.more.now c.in-Some.ensures.some
    c.requires.fits in
    omega (arith, len.0, c.numbers_len.ensures)
