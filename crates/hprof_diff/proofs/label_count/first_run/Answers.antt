use Rattle.std.proofs.Common.{◌∷◌, ap, arith, length}
use Rattle.hprof_diff.specs.declared.counted.Counted.{Counted}
use Rattle.hprof_diff.specs.declared.label_count.LabelCount.{LabelCount}
use Rattle.hprof_diff.proofs.Keeping.{run_more}
use Rattle.hprof_diff.proofs.label_count.first_run.Goals as goal

pub loop-part-preserved : goal.loop-part-preserved
loop-part-preserved c =
    let sum = c.loop-part.sum in
    let made : Counted → LabelCount = λ counted. record { source = sum.source; counted = counted } in
    record {
      run = run_more (c.args.first ∷ c.args.parts.now) c.loop-part.rest.now c.in-Some.after.now sum c.in-Some.part.now
          (made c.in-Some-with.counted)
          c.in-Some.ensures.cases.0 c.if-not-is_same.ensures (ap made c.in-Some-with.ensures) c.loop-part.invariant.run;
      shorter = omega (arith, ap length c.in-Some.ensures.cases.0, c.loop-part.invariant.shorter);
    }
