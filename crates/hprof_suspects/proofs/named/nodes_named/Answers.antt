use Rattle.std.specs.Prelude.{Contains}
use Rattle.std.proofs.Common.{◌∙◌, ◌++◌, ℕ, List, ap, sym, subst}
use Rattle.hprof_suspects.specs.ToldHeaps.{named_nodes}
use Rattle.hprof_suspects.proofs.named.nodes_named.Goals as goal

pub returns-clause-has : goal.returns-clause-has
returns-clause-has c = λ node has.
    let named = named_nodes c.args.retained.now c.args.told.now in
    let all = c.in_ok-push_chains.ensures ∙ ap (λ (l : List ℕ). l ++ named) c.new-nodes.ensures.items in
    (c.in_ok-sort_once.ensures.same node).1 (subst (λ (l : List ℕ). Contains l node) (sym all) has)
