use Rattle.std.proofs.Common.{◌+◌, ◌*◌, ◌∙◌, arith}
use Rattle.hprof_suspects.proofs.Hundredths.{all_hundred, no_whole, one_whole}
use Rattle.hprof_suspects.proofs.lines.hundredths.Goals as goal
use Rattle.hprof_suspects.proofs.lines.hundredths.Goals.{then-rest-all, else-rest-all}

pub loop-turn-preserved : goal.loop-turn-preserved
loop-turn-preserved c =
    let so = c.loop-turn.invariant in
    let divided = so.divided in
    let less = so.rest in
    let few = so.few in
    elim c.if-rest-all.branch [
      | then-rest-all w ↦
          let whole = one_whole c.args.all c.args.part c.loop-turn.count c.loop-turn.rest c.loop-turn._turn c.requires.within divided less
          w.if-rest-all.true in
          record {
            divided = (λ i. w.count-is i * c.args.all + w.rest-is i) ∙ whole;
            rest = omega (arith, less, w.rest-is, w.if-rest-all.true, c.requires.within);
            few = omega (arith, few, w.count-is);
          }
      | else-rest-all w ↦
          let none = no_whole c.args.all c.args.part c.loop-turn.count c.loop-turn.rest c.loop-turn._turn c.requires.within divided less in
          record {
            divided = (λ i. w.count-is i * c.args.all + w.rest-is i) ∙ none;
            rest = omega (arith, less, w.rest-is, w.if-rest-all.false, c.requires.within);
            few = omega (arith, few, w.count-is);
          }
    ]

pub returns : goal.returns
returns c =
    all_hundred c.args.all c.args.part c.loop-turn.count c.loop-turn.rest c.loop-turn._turn c.requires.within c.loop-turn.invariant.divided
    c.loop-turn.invariant.rest (omega (arith, c.loop-turn-test.false, c.loop-turn.auto._turn-end))
