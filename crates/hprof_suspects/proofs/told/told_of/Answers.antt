use Rattle.std.proofs.Common.{arith}
use Rattle.hprof_suspects.proofs.told.told_of.Goals as goal

pub returns-clause-told : goal.returns-clause-told
returns-clause-told c = λ ids facts agree tree labelled heads parts within. record {
  pieces = let low = within.1 in omega (arith, low, c.bytes.ensures, c.min-pieces.ensures);
  chain = c.in_ok-chain.ensures.chain ids facts tree;
  sums = c.in_ok-lines.ensures ids facts agree tree labelled heads parts;
}
