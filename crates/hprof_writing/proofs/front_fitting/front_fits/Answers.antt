use Rattle.std.proofs.Common.{◌-◌, refl, arith, rules}
use Rattle.std.proofs.lemmas.Bool.{le-leb, leb-true}
use Rattle.hprof_values.proofs.NumberWriting.{widths_most}
use Rattle.hprof_writing.proofs.front_fitting.front_fits.Goals as goal

pub numbers_len-requires : goal.numbers_len-requires
numbers_len-requires c = omega (arith, widths_most c.args.ids c.args.fields.now)

pub overflow_sub-result : goal.overflow_sub-result
overflow_sub-result c = omega (arith, widths_most c.args.ids c.args.fields.now)

pub returns-then-numbers_fit : goal.returns-then-numbers_fit
returns-then-numbers_fit c =
    let most = widths_most c.args.ids c.args.fields.now in
    let fits = c.if-numbers_fit.ensures.0 refl in (
      λ within. let le = leb-true c.args.more (4294967295 - c.numbers_len.result) within in (fits, omega (arith, le)),
      λ all. le-leb c.args.more (4294967295 - c.numbers_len.result) (omega (arith, all.1)),
    )

pub returns-else-numbers_fit : goal.returns-else-numbers_fit
returns-else-numbers_fit c = search rules
