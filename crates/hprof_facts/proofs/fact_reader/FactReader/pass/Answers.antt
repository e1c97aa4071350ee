use Rattle.std.proofs.Common.{◌≡◌, [], Ok, Err, false, true, refl, rules, arith}
use Rattle.hprof_facts.proofs.Passing.{goes_past, passes_all, passes_few}
use Rattle.hprof_facts.proofs.fact_reader.FactReader.pass.Goals as goal

pub loop-init : goal.loop-init
loop-init g c = record { can = c.requires; passed = λ origin was has. ([], has, refl) }

pub advance-requires : goal.advance-requires
advance-requires g c = c.loop.invariant.can

pub loop-preserved : goal.loop-preserved
loop-preserved g c = record {
  can = c.advance.ensures.can;
  passed = λ origin was has.
      let went : c.advance.result ≡ Ok true = search rules in
      goes_past g.R.Source.left g.R.Source.health g.R.Source.pulls origin was c.loop.counter c.loop.self c.advance.new.self c.advance.result
      went (c.advance.ensures.from origin was) (c.loop.invariant.passed origin was has);
}

pub returns-in_default-clause-passed : goal.returns-in_default-clause-passed
returns-in_default-clause-passed g c = λ origin was has.
    let stood : c.advance.result ≡ Ok false = search rules in
    passes_few g.R.Source.left g.R.Source.health g.R.Source.pulls origin was c.loop.counter c.args.count c.loop.self c.advance.new.self
    c.advance.result c.loop-test.true (λ went. cc) (c.advance.ensures.from origin was) (c.loop.invariant.passed origin was has)

pub returns-in_default-2-clause-passed : goal.returns-in_default-2-clause-passed
returns-in_default-2-clause-passed g c = λ origin was has.
    let stood : c.advance.result ≡ Err c.in_default.field-0 = c.in_default.is in
    passes_few g.R.Source.left g.R.Source.health g.R.Source.pulls origin was c.loop.counter c.args.count c.loop.self c.advance.new.self
    c.advance.result c.loop-test.true (λ went. cc) (c.advance.ensures.from origin was) (c.loop.invariant.passed origin was has)

pub returns-clause-passed : goal.returns-clause-passed
returns-clause-passed g c = λ origin was has.
    let end = c.loop.auto.counter-end in
    let all : c.loop.counter ≡ c.args.count = omega (arith, end, c.loop-test.false) in
    passes_all g.R.Source.left g.R.Source.health g.R.Source.pulls origin was c.loop.counter c.args.count c.loop.self all
    (c.loop.invariant.passed origin was has)
