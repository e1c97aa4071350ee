use Rattle.std.proofs.Common.{◌≡◌, ◌++◌, ◌∷◌, ◌+◌, ◌∙◌, ℕ, List, [], inl, inr, refl, sym, subst, arith}
use Rattle.std.proofs.lemmas.Bool.{both_ways}
use Rattle.std.proofs.lemmas.List.Elements.{Contains-push_cases}
use Rattle.std.specs.Prelude.{Contains, slice_index}
use Rattle.std.specs.List.Sorted.{IsStrictlyIncreasing}
use Rattle.hprof_retained.specs.Border.{IsCrossedTo}
use Rattle.hprof_retained.proofs.Ascending.{ArePassed, all_before, less_before, one_fails, one_further, one_passes, push_ascends}
use Rattle.hprof_retained.proofs.beyond.reached_among.Goals as goal
use Rattle.hprof_retained.proofs.beyond.reached_among.Goals.{then-is_reached+in_ok-push, else-is_reached}

pub loop-node-preserved : goal.loop-node-preserved
loop-node-preserved c =
    let nodes = c.args.nodes.now in
    let index = c.loop-node.node-index in
    let node = slice_index nodes index in
    let old = c.loop-node.reached.items in
    let new = c.if-is_reached.reached.items in
    let was = c.loop-node.invariant in
    let next = one_further nodes index in
    elim c.if-is_reached.branch [
      | then-is_reached+in_ok-push w ↦
          let pushed : new ≡ old ++ node ∷ [] = (λ i. (w.reached-is i).items) ∙ w.in_ok-push.ensures.items in record {
            ascend = subst IsStrictlyIncreasing (sym pushed) (push_ascends old node was.ascend (λ x has.
                less_before nodes index x c.requires c.loop-node-test.true (was.taken x has)));
            taken = λ x has. elim (Contains-push_cases old node x (subst (λ (l : List ℕ). Contains l x) pushed has)) [
              | inl before ↦ (next x).1 (inl (was.taken x before))
              | inr same ↦ (next x).1 (inr (sym same))
            ];
            exact = λ crossing is. one_passes (IsCrossedTo crossing) nodes index old (was.exact crossing is) new node refl pushed
                ((c.is_reached.ensures crossing is).0 w.if-is_reached.true);
          }
      | else-is_reached w ↦
          let same : new ≡ old = λ i. (w.reached-is i).items in record {
            ascend = subst IsStrictlyIncreasing (sym same) was.ascend;
            taken = λ x has. (next x).1 (inl (was.taken x (subst (λ (l : List ℕ). Contains l x) same has)));
            exact = λ crossing is. subst (ArePassed (IsCrossedTo crossing) nodes (index + 1)) (sym same)
                (one_fails (IsCrossedTo crossing) nodes index old (was.exact crossing is) node refl
                (λ crossed. both_ways c.is_reached.result w.if-is_reached.false ((c.is_reached.ensures crossing is).1 crossed)));
          }
    ]

pub returns-clause-exact : goal.returns-clause-exact
returns-clause-exact c = λ crossing is node.
    let nodes = c.args.nodes.now in
    let index = c.loop-node.node-index in
    let all = all_before nodes index node (omega (arith, c.loop-node-test.false, c.loop-node.auto.node-index-end)) in
    let passed = c.loop-node.invariant.exact crossing is node in (
      λ has. (let both = passed.0 has in (all.0 both.0, both.1)),
      λ both. passed.1 (all.1 both.0, both.1),
    )
