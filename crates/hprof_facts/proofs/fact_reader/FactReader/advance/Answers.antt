use Rattle.std.proofs.Common.{refl, sym, ap, subst, ◌∙◌}
use Rattle.hprof_facts.specs.FactReader.{IsOver, answer_of, start_of}
use Rattle.hprof_facts.proofs.FromStart.{advances_from_start}
use Rattle.hprof_facts.proofs.Given.{never_over}
use Rattle.hprof_facts.proofs.fact_reader.FactReader.advance.Goals as goal

pub loop-self-init : goal.loop-self-init
loop-self-init g c = record { can = c.requires; given = λ origin was given has. has; over = λ over. refl }

pub fill-requires-clause-can : goal.fill-requires-clause-can
fill-requires-clause-can g c = c.loop-self.invariant.can

pub loop-self-preserved : goal.loop-self-preserved
loop-self-preserved g c = record {
  can = c.fill.ensures.can;
  given = λ origin was given has. c.fill.ensures.given origin was given (c.loop-self.invariant.given origin was given has);
  over = λ over. absurd (never_over c.loop-self.self.part (ap (λ r. r.part) (c.loop-self.invariant.over over) ∙ over.0)
      (sym c.is_some.ensures ∙ c.loop-self-test.true));
}

pub give-requires-clause-can : goal.give-requires-clause-can
give-requires-clause-can g c = c.loop-self.invariant.can

pub returns-clause-from : goal.returns-clause-from
returns-clause-from g c = λ origin was given has.
    c.give.ensures.from origin was given (c.loop-self.invariant.given origin was given has)

pub returns-clause-advances : goal.returns-clause-advances
returns-clause-advances g c = λ limits was given has.
    advances_from_start g.R.Source.left g.R.Source.health g.R.Source.pulls limits was given c.give.result c.give.new.self
    (c.give.ensures.from (start_of limits) was given (c.loop-self.invariant.given (start_of limits) was given has))

pub returns-clause-over : goal.returns-clause-over
returns-clause-over g c = λ over.
    let same = c.loop-self.invariant.over over in
    let it = c.give.ensures.over (subst IsOver (sym same) over) in
    (it.0 ∙ ap answer_of same, it.1 ∙ same)
