-- If facts agree, the report `keeps` is one text.
use Rattle.std.specs.List.{AllByRecursion, flat_map}
use Rattle.std.specs.List.Sorted.{IsStrictlySortedBy}
use Rattle.std.specs.Prelude.{AllPairs}
use Rattle.std.specs.declared.cmp.Ordering.TheVariants.{Less}
use Rattle.std.proofs.Common.{◌≡◌, ◌≢◌, ◌⊎◌, ◌∙◌, ℕ, suc, List, [], ◌∷◌, ◌++◌, Option, Some, None, codes, refl, sym, ap, subst, inl, inr}
use Rattle.std.proofs.Common.{arith}
use Rattle.hprof_values.specs.declared.ids.IdSize.{IdSize}
use Rattle.hprof_items.specs.FactValue.{FactValue}
use Rattle.hprof_rows.specs.Conflict.{IsConsistent}
use Rattle.hprof_reach.specs.Reaching.{IsStart, IsStepBy}
use Rattle.hprof_weak.specs.Weak.{IsStrong}
use Rattle.hprof_dominators.proofs.Listed.{dominator_reached, same_dominates}
use Rattle.hprof_dominators.proofs.Walking.{dominate_each_other}
use Rattle.hprof_describe.specs.Findings.{Findings}
use Rattle.hprof_describe.specs.Nodes.{node_text}
use Rattle.hprof_describe.proofs.OneFinding.{one_findings}
use Rattle.hprof_histogram.proofs.Members.{IsIn, Contains-from_in, in_from_Contains, one_sorted}
use Rattle.hprof_retained.specs.Retained.{Dominates, HasParent, IsHeld, Sum}
use Rattle.hprof_retained.proofs.OneSums.{one_sum}
use Rattle.hprof_retained.specs.Weakly.{IsWeaklyHeld}
use Rattle.hprof_keeps.specs.KeepsText.{IsHeldText, IsKeepsText, IsNodeText, IsNotReached, IsRootsText}
use Rattle.hprof_keeps.specs.KeepsText.{above_lines, child_lines, retained_line, sum_words, total_line, weakly_line}
use Rattle.hprof_keeps.specs.Order.{AreChildren, AreDominators, AreLargestFirst, AreRetained, retained_cmp}
use Rattle.hprof_keeps.proofs.NodeOrder.{order_total}

-- ---- lists in which each is before those behind it

module _ (R : ℕ → ℕ → Type 0) where
  -- what stands first is before all others
  pub first_of : (x : ℕ) (xs : List ℕ) → AllPairs R (x ∷ xs) → (y : ℕ) → IsIn y xs → R x y
  first_of x xs pairs y has =
      let at = Contains-from_in xs y has in
      let low = at.1 in
      subst (R x) at.2 (pairs 0 (suc at.0) y (omega arith) (omega arith))

  pub rest_of : (x : ℕ) (xs : List ℕ) → AllPairs R (x ∷ xs) → AllPairs R xs
  rest_of x xs pairs = λ i j d less low. pairs (suc i) (suc j) d (omega arith) (omega arith)

  module _ (apart : (x y : ℕ) → R x y → R y x → ⊥) where
    rest_in : (x y : ℕ) (xs ys : List ℕ) → ((z : ℕ) → IsIn z xs → R x z) → x ≡ y
        → ((z : ℕ) → IsIn z (x ∷ xs) → IsIn z (y ∷ ys)) → (z : ℕ) → IsIn z xs → IsIn z ys
    rest_in x y xs ys before e all z has = elim (all z (inr has)) [
      | inl is ↦
          let itself : R x x = subst (R x) (is ∙ sym e) (before z has) in
          absurd (apart x x itself itself)
      | inr later ↦ later
    ]

    first_same : (x y : ℕ) (xs ys : List ℕ) → ((z : ℕ) → IsIn z xs → R x z) → ((z : ℕ) → IsIn z ys → R y z)
        → IsIn x (y ∷ ys) → IsIn y (x ∷ xs) → x ≡ y
    first_same x y xs ys before before_too has has_too = elim has [
      | inl e ↦ e
      | inr later ↦ elim has_too [
        | inl e ↦ sym e
        | inr later_too ↦ absurd (apart x y (before y later_too) (before_too x later))
      ]
    ]

    -- two such lists with the same members are one
    pub one_in_pairs : (xs ys : List ℕ) → AllPairs R xs → AllPairs R ys
        → ((z : ℕ) → IsIn z xs → IsIn z ys) → ((z : ℕ) → IsIn z ys → IsIn z xs) → xs ≡ ys
    one_in_pairs [] [] pairs pairs_too all all_too = refl
    one_in_pairs [] (y ∷ ys) pairs pairs_too all all_too = absurd (all_too y (inl refl))
    one_in_pairs (x ∷ xs) [] pairs pairs_too all all_too = absurd (all x (inl refl))
    one_in_pairs (x ∷ xs) (y ∷ ys) pairs pairs_too all all_too =
        let before = first_of x xs pairs in
        let before_too = first_of y ys pairs_too in
        let first = first_same x y xs ys before before_too (all x (inl refl)) (all_too y (inl refl)) in
        let rest = one_in_pairs xs ys (rest_of x xs pairs) (rest_of y ys pairs_too) (rest_in x y xs ys before first all)
        (rest_in y x ys xs before_too (sym first) all_too) in
        λ i. first i ∷ rest i

-- ---- nodes

module _ (ids : IdSize) (facts : List FactValue) where
  abbrev Start : ℕ → Type 0
  Start = IsStart facts

  abbrev Step : ℕ → ℕ → Type 0
  Step from to = IsStepBy (IsStrong facts) ids facts from to

  -- what strong references reach, references reach
  pub held_reached : (node : ℕ) → IsHeld ids facts node → IsNotReached ids facts node → ⊥
  held_reached node held none =
      let walk = held.1 in
      none (
        held.0,
        record {
          some = walk.some;
          starts = walk.starts;
          steps = λ place small.
              let step = walk.steps place small in
              (record { via = step.0.via; position = step.0.position; edge = step.0.edge; holds = tt }, step.1);
          ends = walk.ends;
        },
      )

  pub not_each_other : (x y : ℕ) → Dominates ids facts x y × (x ≢ y) → Dominates ids facts y x × (y ≢ x) → ⊥
  not_each_other x y one other = one.1 (dominate_each_other Start Step x y ((same_dominates Start Step x y).1 one.0)
      ((same_dominates Start Step y x).1 other.0))

  pub one_dominators : (id : ℕ) (one other : List ℕ) → AreDominators ids facts id one → AreDominators ids facts id other → one ≡ other
  one_dominators id one other are too =
      one_in_pairs (λ one other. Dominates ids facts one other × (one ≢ other)) not_each_other one other are.inward too.inward
      (λ x has. in_from_Contains other x ((too.exact x).1 ((are.exact x).0 (Contains-from_in one x has))))
      (λ x has. in_from_Contains one x ((are.exact x).1 ((too.exact x).0 (Contains-from_in other x has))))

  dominators_held : (id : ℕ) (nodes : List ℕ) → AreDominators ids facts id nodes → (node : ℕ) → IsIn node nodes → IsHeld ids facts node
  dominators_held id nodes are node has = dominator_reached Start Step node id ((are.exact node).0 (Contains-from_in nodes node has))

-- ---- by two functions that are equal at these nodes

module _ (retained other : ℕ → Sum) where
  after_too : (x : ℕ) (xs : List ℕ) → retained x ≡ other x → ((node : ℕ) → IsIn node xs → retained node ≡ other node)
      → AllByRecursion (λ y. retained_cmp retained x y ≡ Less) xs → AllByRecursion (λ y. retained_cmp other x y ≡ Less) xs
  after_too x [] here same after = tt
  after_too x (y ∷ ys) here same after =
      let there = same y (inl refl) in
      let order : retained_cmp other x y ≡ retained_cmp retained x y = cc in
      (order ∙ after.0, after_too x ys here (λ node has. same node (inr has)) after.1)

  pub ordered_too : (xs : List ℕ) → ((node : ℕ) → IsIn node xs → retained node ≡ other node)
      → IsStrictlySortedBy (retained_cmp retained) xs → IsStrictlySortedBy (retained_cmp other) xs
  unfolding IsStrictlySortedBy
  ordered_too [] same sorted = tt
  ordered_too (x ∷ xs) same sorted =
      let later = λ (node : ℕ) (has : IsIn node xs). same node (inr has) in
      (after_too x xs (same x (inl refl)) later sorted.0, ordered_too xs later sorted.1)

  module _ (found : Findings) where
    line_too : (node : ℕ) → retained node ≡ other node → retained_line found retained node ≡ retained_line found other node
    unfolding retained_line
    line_too node same = ap (λ (s : Sum). sum_words s ++ codes " " ++ node_text found node ++ codes "\n") same

    lines_too : (front : List ℕ) (nodes : List ℕ) → ((node : ℕ) → IsIn node nodes → retained node ≡ other node)
        → flat_map (λ node. front ++ retained_line found retained node) nodes
        ≡ flat_map (λ node. front ++ retained_line found other node) nodes
    lines_too front [] same = refl
    lines_too front (node ∷ nodes) same =
        let first = line_too node (same node (inl refl)) in
        let rest = lines_too front nodes (λ later has. same later (inr has)) in
        λ i. (front ++ first i) ++ rest i

-- ---- the text

module _ (ids : IdSize) (facts : List FactValue) (agree : IsConsistent facts) (found : Findings) (retained other : ℕ → Sum)
    (are : AreRetained ids facts retained) (too : AreRetained ids facts other) where
  same_sums : (nodes : List ℕ) → ((node : ℕ) → IsIn node nodes → IsHeld ids facts node)
      → (node : ℕ) → IsIn node nodes → retained node ≡ other node
  same_sums nodes held node has =
      let is = held node has in
      one_sum ids facts agree (Dominates ids facts node) (retained node) (other node) (are node is) (too node is)

  -- the lines of the nodes of which something holds, the largest first
  module _ (Holds : ℕ → Type 0) (held : (node : ℕ) → Holds node → IsHeld ids facts node) where
    largest_same : (nodes : List ℕ) → AreLargestFirst retained Holds nodes → (node : ℕ) → IsIn node nodes → retained node ≡ other node
    largest_same nodes is = same_sums nodes (λ node has. held node ((is.exact node).0 (Contains-from_in nodes node has)))

    one_largest : (nodes others : List ℕ) → AreLargestFirst retained Holds nodes → AreLargestFirst other Holds others → nodes ≡ others
    one_largest nodes others is theirs =
        one_sorted (order_total other) nodes others (ordered_too retained other nodes (largest_same nodes is) is.ordered) theirs.ordered
        (λ x has. in_from_Contains others x ((theirs.exact x).1 ((is.exact x).0 (Contains-from_in nodes x has))))
        (λ x has. in_from_Contains nodes x ((is.exact x).1 ((theirs.exact x).0 (Contains-from_in others x has))))

    pub one_largest_lines : (front nodes others : List ℕ) → AreLargestFirst retained Holds nodes → AreLargestFirst other Holds others
        → flat_map (λ node. front ++ retained_line found retained node) nodes
        ≡ flat_map (λ node. front ++ retained_line found other node) others
    one_largest_lines front nodes others is theirs =
        lines_too retained other found front nodes (largest_same nodes is)
        ∙ ap (flat_map (λ node. front ++ retained_line found other node)) (one_largest nodes others is theirs)

  one_child_lines : (parent : Option ℕ) (nodes others : List ℕ) → AreChildren ids facts retained parent nodes
      → AreChildren ids facts other parent others → child_lines found retained nodes ≡ child_lines found other others
  one_child_lines parent nodes others is theirs =
      one_largest_lines (λ node. IsHeld ids facts node × HasParent ids facts node parent) (λ node both. both.0) (codes "  ") nodes others
      is theirs

  one_above_lines : (id : ℕ) (nodes others : List ℕ) → AreDominators ids facts id nodes → AreDominators ids facts id others
      → above_lines found retained nodes ≡ above_lines found other others
  one_above_lines id nodes others is theirs =
      lines_too retained other found [] nodes (same_sums nodes (dominators_held ids facts id nodes is))
      ∙ ap (above_lines found other) (one_dominators ids facts id nodes others is theirs)

  roots_once : (text others : List ℕ) → IsRootsText ids facts found retained text → IsRootsText ids facts found other others
      → text ≡ others
  roots_once text others is theirs =
      let total = one_sum ids facts agree (IsHeld ids facts) is.total theirs.total is.is_total theirs.is_total in
      let weakly = one_sum ids facts agree (IsWeaklyHeld ids facts) is.weakly theirs.weakly is.are_weakly theirs.are_weakly in
      let children = one_child_lines None is.children theirs.children is.are_children theirs.are_children in
      is.is ∙ (λ i. total_line (total i) ++ weakly_line (weakly i) ++ children i) ∙ sym theirs.is

  held_once : (id : ℕ) (text others : List ℕ) → IsHeldText ids facts found retained id text → IsHeldText ids facts found other id others
      → text ≡ others
  held_once id text others is theirs =
      let total = one_sum ids facts agree (IsHeld ids facts) is.total theirs.total is.is_total theirs.is_total in
      let above = one_above_lines id is.dominators theirs.dominators is.are_dominators theirs.are_dominators in
      let children = one_child_lines (Some id) is.children theirs.children is.are_children theirs.are_children in
      is.is ∙ (λ i. total_line (total i) ++ above i ++ children i) ∙ sym theirs.is

  node_once : (id : ℕ) (text others : List ℕ) → IsNodeText ids facts found retained id text
      → IsNodeText ids facts found other id others → text ≡ others
  node_once id text others (inl none) (inl theirs) = none.1 ∙ sym theirs.1
  node_once id text others (inl none) (inr (inl theirs)) = absurd (none.0 theirs.0)
  node_once id text others (inl none) (inr (inr (inl theirs))) = absurd (none.0 theirs.0)
  node_once id text others (inl none) (inr (inr (inr theirs))) = absurd (none.0 theirs.0)
  node_once id text others (inr (inl held)) (inl theirs) = absurd (theirs.0 held.0)
  node_once id text others (inr (inl held)) (inr (inl theirs)) = held_once id text others held.1 theirs.1
  node_once id text others (inr (inl held)) (inr (inr (inl theirs))) = absurd (theirs.1.1 held.1.held)
  node_once id text others (inr (inl held)) (inr (inr (inr theirs))) = absurd (held_reached ids facts id held.1.held theirs.1)
  node_once id text others (inr (inr (inl weakly))) (inl theirs) = absurd (theirs.0 weakly.0)
  node_once id text others (inr (inr (inl weakly))) (inr (inl theirs)) = absurd (weakly.1.1 theirs.1.held)
  node_once id text others (inr (inr (inl weakly))) (inr (inr (inl theirs))) = weakly.2 ∙ sym theirs.2
  node_once id text others (inr (inr (inl weakly))) (inr (inr (inr theirs))) = absurd (theirs.1 weakly.1.0)
  node_once id text others (inr (inr (inr none))) (inl theirs) = absurd (theirs.0 none.0)
  node_once id text others (inr (inr (inr none))) (inr (inl theirs)) = absurd (held_reached ids facts id theirs.1.held none.1)
  node_once id text others (inr (inr (inr none))) (inr (inr (inl theirs))) = absurd (none.1 theirs.1.0)
  node_once id text others (inr (inr (inr none))) (inr (inr (inr theirs))) = none.2 ∙ sym theirs.2

  -- what stands in the report, of the same findings
  abbrev IsEither : (ℕ → Sum) → ℕ → List ℕ → Type 0
  IsEither sums id text = ((id ≡ 0) × IsRootsText ids facts found sums text) ⊎ ((id ≢ 0) × IsNodeText ids facts found sums id text)

  pub either_once : (id : ℕ) (text others : List ℕ) → IsEither retained id text → IsEither other id others → text ≡ others
  either_once id text others (inl is) (inl theirs) = roots_once text others is.1 theirs.1
  either_once id text others (inl is) (inr theirs) = absurd (theirs.0 is.0)
  either_once id text others (inr is) (inl theirs) = absurd (is.0 theirs.0)
  either_once id text others (inr is) (inr theirs) = node_once id text others is.1 theirs.1

pub keeps_once : (ids : IdSize) (facts : List FactValue) → IsConsistent facts → (id : ℕ) (one other : List ℕ)
    → IsKeepsText ids facts id one → IsKeepsText ids facts id other → one ≡ other
keeps_once ids facts agree id one other is too =
    let found = one_findings ids facts agree is.found too.found is.are_found too.are_found in
    either_once ids facts agree too.found is.retained too.retained is.are_retained too.are_retained id one other
    (subst (λ (f : Findings). ((id ≡ 0) × IsRootsText ids facts f is.retained one) ⊎ ((id ≢ 0) × IsNodeText ids facts f is.retained id one))
    found is.is) too.is
