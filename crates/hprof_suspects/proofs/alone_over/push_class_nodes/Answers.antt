use Rattle.std.specs.Prelude.{Contains}
use Rattle.std.proofs.Common.{◌≡◌, ◌∙◌, ◌++◌, ◌∷◌, [], ℕ, List, ap, inl, inr, sym, subst, arith}
use Rattle.std.proofs.lemmas.Bool.{both_ways, cases_eq}
use Rattle.std.proofs.lemmas.List.Elements.{Contains-append_left, Contains-push}
use Rattle.hprof_retained.specs.Tree.{node_at}
use Rattle.hprof_suspects.specs.Grounds.{IsClassLabelled}
use Rattle.hprof_suspects.proofs.alone_over.push_class_nodes.Goals as goal
use Rattle.hprof_suspects.proofs.alone_over.push_class_nodes.Goals.{then-is_class_labelled+in_ok-push, else-is_class_labelled}

pub loop-place-preserved : goal.loop-place-preserved
loop-place-preserved c = λ place some before labelled.
    let retained = c.args.retained.now in
    let done = c.loop-place.place in
    let old = c.loop-place.nodes.items in
    let new = c.if-is_class_labelled.nodes.items in
    elim c.if-is_class_labelled.branch [
      | then-is_class_labelled+in_ok-push w ↦
          let pushed : new ≡ old ++ node_at retained done ∷ [] =
          (λ i. (w.nodes-is i).items) ∙ w.in_ok-push.ensures.items ∙ ap (λ n. old ++ n ∷ []) w.node.ensures in
          subst (λ (l : List ℕ). Contains l (node_at retained place)) (sym pushed) (elim (cases_eq place done) [
            | inl same ↦
                subst (λ (p : ℕ). Contains (old ++ node_at retained done ∷ []) (node_at retained p)) (sym same)
                (Contains-push old (node_at retained done))
            | inr apart ↦
                Contains-append_left old (node_at retained done ∷ []) (node_at retained place)
                (c.loop-place.invariant place some (omega arith) labelled)
          ])
      | else-is_class_labelled w ↦
          subst (λ (l : List ℕ). Contains l (node_at retained place)) (sym (λ i. (w.nodes-is i).items)) (elim (cases_eq place done) [
            | inl same ↦ absurd (both_ways c.is_class_labelled.result w.if-is_class_labelled.false
                (c.is_class_labelled.ensures.1 (subst (IsClassLabelled c.args.labels.now) same labelled)))
            | inr apart ↦ c.loop-place.invariant place some (omega arith) labelled
          ])
    ]

pub returns : goal.returns
returns c = λ place some within labelled.
    c.loop-place.invariant place some (omega (arith, within, c.loop-place-test.false, c.len-place-end.ensures)) labelled
