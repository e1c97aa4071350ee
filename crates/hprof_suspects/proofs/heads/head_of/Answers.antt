use Rattle.std.proofs.Common.{◌∙◌, ap, inl, inr, refl}
use Rattle.std.proofs.lemmas.Bool.{both_ways}
use Rattle.hprof_numbers.specs.Numbers.{items_in}
use Rattle.hprof_suspects.specs.Heads.{head_in}
use Rattle.hprof_suspects.proofs.heads.head_of.Goals as goal

pub returns-then-joins_above-clause-head : goal.returns-then-joins_above-clause-head
returns-then-joins_above-clause-head c = λ ids facts grounds. inl (
  (c.joins_above.ensures ids facts grounds).0 c.if-joins_above.true,
  c.get.ensures ∙ ap (head_in (items_in c.args.heads.now)) c.above.ensures,
)

pub returns-else-joins_above-clause-head : goal.returns-else-joins_above-clause-head
returns-else-joins_above-clause-head c = λ ids facts grounds. inr (
  λ joins. both_ways c.joins_above.result c.if-joins_above.false ((c.joins_above.ensures ids facts grounds).1 joins),
  refl,
)
