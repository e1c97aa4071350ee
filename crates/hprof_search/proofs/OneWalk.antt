-- A node has one distance, and one path.
use Rattle.std.proofs.Common.{◌≡◌, ℕ, zero, suc, List, ◌∷◌, Option, Some, None, reverse, refl, sym, ap, subst, ◌∙◌, arith}
use Rattle.std.proofs.lemmas.List.{reverse-reverse}
use Rattle.hprof_search.specs.Walks.{IsDistance, HasDistance, IsLeastBefore, IsWayBack, IsPath}

module _ (Starts : ℕ → Type 0) (Steps : ℕ → ℕ → Type 0) where
  pub same_distance : (node one other : ℕ) → IsDistance Starts Steps node one → IsDistance Starts Steps node other → one ≡ other
  same_distance node one other is too =
      let more = is.least other too.reaches in
      let less = too.least one is.reaches in
      omega arith

  pub one_distance : (node : ℕ) (one other : Option ℕ) → HasDistance Starts Steps node one → HasDistance Starts Steps node other → one
      ≡ other
  one_distance node None None is too = refl
  one_distance node None (Some other) is too = absurd (is other too.reaches)
  one_distance node (Some one) None is too = absurd (too one is.reaches)
  one_distance node (Some one) (Some other) is too = ap Some (same_distance node one other is too)

  same_before : (count node one other : ℕ) → IsLeastBefore Starts Steps count one node → IsLeastBefore Starts Steps count other node → one
      ≡ other
  same_before count node one other is too =
      let more = is.least other too.distance too.steps in
      let less = too.least one is.distance is.steps in
      omega arith

  same_way : (count node : ℕ) (one other : List ℕ) → IsWayBack Starts Steps count node one → IsWayBack Starts Steps count node other → one
      ≡ other
  same_way zero node one other is too = is.1 ∙ sym too.1
  same_way (suc count) node one other is too =
      let before = same_before count node is.1.0 too.1.0 is.1.3 too.1.3 in
      let way = subst (λ (n : ℕ). IsWayBack Starts Steps count n is.1.1) before is.1.4 in
      is.1.2 ∙ ap (λ (rest : List ℕ). node ∷ rest) (same_way count too.1.0 is.1.1 too.1.1 way too.1.4) ∙ sym too.1.2

  -- a way back begins at a node at its distance
  pub way_distance : (count node : ℕ) (nodes : List ℕ) → IsWayBack Starts Steps count node nodes → IsDistance Starts Steps node count
  way_distance zero node nodes is = is.0
  way_distance (suc count) node nodes is = is.0

  pub one_path : (node : ℕ) (one other : Option (List ℕ)) → IsPath Starts Steps node one → IsPath Starts Steps node other → one ≡ other
  one_path node None None is too = refl
  one_path node None (Some other) is too = absurd (is too.0 (way_distance too.0 node (reverse other) too.1).reaches)
  one_path node (Some one) None is too = absurd (too is.0 (way_distance is.0 node (reverse one) is.1).reaches)
  one_path node (Some one) (Some other) is too =
      let same = same_distance node is.0 too.0 (way_distance is.0 node (reverse one) is.1)
      (way_distance too.0 node (reverse other) too.1) in
      let way = subst (λ (n : ℕ). IsWayBack Starts Steps n node (reverse one)) same is.1 in
      let back = same_way too.0 node (reverse one) (reverse other) way too.1 in
      ap Some (sym (reverse-reverse one) ∙ ap (reverse {A = ℕ}) back ∙ reverse-reverse other)
