use Rattle.std.proofs.Common.{◌∙◌, true, arith}
use Rattle.std.proofs.Math.ListN.{length-set}
use Rattle.hprof_numbers.specs.Numbers.{items_in}
use Rattle.hprof_suspects.proofs.PartsSoFar.{marked_begin, marked_end, marked_more}
use Rattle.hprof_suspects.proofs.parts.parts_of.Goals as goal

pub loop-place-init : goal.loop-place-init
loop-place-init c =
    let retained = c.args.retained.now in
    record {
      as_many = length-set c.in_ok-parts.parts.items 0 true ∙ omega (arith, c.in_ok-parts.ensures.len, c.len.ensures);
      marked = λ ids facts grounds heads. marked_begin ids facts retained c.in_ok-parts.parts.items
          (omega (arith, c.in_ok-parts.ensures.len, c.len.ensures)) (omega (arith, retained.numbered.some));
    }

pub loop-place-preserved : goal.loop-place-preserved
loop-place-preserved c =
    let some = c.loop-place.auto.place in
    record {
      as_many = length-set c.loop-place.parts.items c.loop-place.place c.is_part-is.result ∙ c.loop-place.invariant.as_many;
      marked = λ ids facts grounds heads.
          marked_more ids facts grounds.agree c.args.retained.now grounds.tree c.args.labels.now grounds.labelled
          (items_in c.args.heads.now) heads c.in_ok-only.only c.in_ok-only.ensures
          c.loop-place.parts.items c.loop-place.place c.is_part-is.result (omega arith)
          (omega (arith, c.loop-place-test.true, c.len-place-end.ensures)) (c.is_part-is.ensures facts grounds.alone)
          (c.loop-place.invariant.marked ids facts grounds heads);
    }

pub returns-clause-as_many : goal.returns-clause-as_many
returns-clause-as_many c = c.loop-place.invariant.as_many

pub returns-clause-parts : goal.returns-clause-parts
returns-clause-parts c = λ ids facts grounds heads.
    marked_end ids facts c.args.retained.now c.loop-place.parts.items c.loop-place.place
    (omega (arith, c.loop-place-test.false, c.len-place-end.ensures, c.loop-place.auto.place-end, c.args.retained.now.numbered.some))
    (c.loop-place.invariant.marked ids facts grounds heads)
