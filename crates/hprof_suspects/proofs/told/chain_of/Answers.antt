use Rattle.std.proofs.Common.{◌<◌, ℕ, ap, map, sym, subst, arith}
use Rattle.std.proofs.lemmas.Result.{IfOk-weaker}
use Rattle.hprof_retained.specs.Tree.{node_at}
use Rattle.hprof_keeps.specs.Order.{AreDominators, node_of}
use Rattle.hprof_keeps.proofs.Places.{node_of_some}
use Rattle.hprof_suspects.specs.SuspectsText.{IsChain}
use Rattle.hprof_suspects.proofs.told.chain_of.Goals as goal

pub returns-then-place-eq0-clause-chain : goal.returns-then-place-eq0-clause-chain
returns-then-place-eq0-clause-chain c = λ ids facts tree.
    let retained = c.args.retained.now in
    subst (λ (p : ℕ). IsChain ids facts (node_of retained p) (map (node_at retained) c.new.result.items)) (sym c.if-place-eq0.true)
    (ap (map (node_at retained)) c.new.ensures.items)

pub returns-clause-chain : goal.returns-clause-chain
returns-clause-chain c = λ ids facts tree.
    let retained = c.args.retained.now in
    let some : 0 < c.args.place = omega (arith, c.if-place-eq0.false) in
    IfOk-weaker c.dominators_of.result
    (λ places. AreDominators ids facts (node_at retained c.args.place) (map (node_at retained) places.items))
    (λ places. IsChain ids facts (node_of retained c.args.place) (map (node_at retained) places.items))
    (λ places are. subst (λ p. IsChain ids facts p (map (node_at retained) places.items))
    (sym (node_of_some retained c.args.place some)) are)
    (IfOk-weaker c.dominators_of.result _ _ (λ places are. are ids facts tree) c.dominators_of.ensures.dominators)
