-- Parts, pieces and suspects are the same by all functions that have what each node retains.
use Rattle.std.specs.Prelude.{◌↔◌}
use Rattle.std.proofs.Common.{◌≡◌, ◌≤◌, ◌*◌, ◌∙◌, ℕ, List, [], ◌∷◌, Option, Some, None, refl, ap, subst, inl, inr, arith}
use Rattle.std.specs.List.{sum_by}
use Rattle.std.proofs.lemmas.List.Sums.{sum_by-cons}
use Rattle.hprof_values.specs.declared.ids.IdSize.{IdSize}
use Rattle.hprof_items.specs.FactValue.{FactValue}
use Rattle.hprof_rows.specs.Conflict.{IsConsistent}
use Rattle.hprof_dominators.specs.Walks.{IsOn}
use Rattle.hprof_retained.specs.Retained.{Dominates, IsHeld, Sum}
use Rattle.hprof_retained.proofs.OneSums.{one_sum}
use Rattle.hprof_keeps.specs.Order.{AreRetained}
use Rattle.hprof_suspects.specs.Groups.{IsBelow}
use Rattle.hprof_suspects.specs.Parts.{AddUp, IsLarge, IsPart, IsPiece, IsPieceSum, IsSingled, IsSuspect, Large, PieceSum, Roots, bytes_of}
use Rattle.hprof_suspects.proofs.NodeGroups.{below_head}

sums_same : (f g : ℕ → ℕ) (nodes : List ℕ) → ((node : ℕ) → IsOn node nodes → f node ≡ g node) → sum_by f nodes ≡ sum_by g nodes
sums_same f g [] same = refl
sums_same f g (node ∷ nodes) same =
    let one = sum_by-cons f node nodes in
    let other = sum_by-cons g node nodes in
    let here = same node (inl refl) in
    let rest = sums_same f g nodes (λ n on. same n (inr on)) in
    omega arith

module _ (ids : IdSize) (facts : List FactValue) (agree : IsConsistent facts) (total : Sum) where
  module _ (retained other : ℕ → Sum) (are : AreRetained ids facts retained) (too : AreRetained ids facts other) where
    pub same_sum : (node : ℕ) → IsHeld ids facts node → retained node ≡ other node
    same_sum node held = one_sum ids facts agree (Dominates ids facts node) (retained node) (other node) (are node held) (too node held)

    large_too : (node : ℕ) → IsHeld ids facts node → IsLarge ids facts retained total node → IsLarge ids facts other total node
    large_too node held large = subst (λ (s : Sum). total.bytes ≤ 10 * s.bytes) (same_sum node held) large

    add_too : (Holds Also : ℕ → Type 0) (bytes count : ℕ) → ((node : ℕ) → Holds node → IsHeld ids facts node)
        → ((node : ℕ) → Holds node ↔ Also node) → AddUp ids facts retained total Holds bytes count → AddUp ids facts other total Also
        bytes count
    add_too Holds Also bytes count held alike is = record {
      nodes = is.nodes;
      once = is.once;
      exact = λ node. (λ on. (alike node).0 ((is.exact node).0 on), λ also. (is.exact node).1 ((alike node).1 also));
      bytes_are = is.bytes_are ∙ sums_same (λ node. (retained node).bytes) (λ node. (other node).bytes) is.nodes
          (λ node on. ap (λ (s : Sum). s.bytes) (same_sum node (held node ((is.exact node).0 on))));
      count_is = is.count_is;
    }

  module _ (retained other : ℕ → Sum) (are : AreRetained ids facts retained) (too : AreRetained ids facts other) where
    singled_too : (above : Option ℕ) (node : ℕ) → IsSingled ids facts retained total above node → IsSingled ids facts other total above node
    singled_too above node (inl alone) = inl alone
    singled_too above node (inr (inl top)) = inr (inl top)
    singled_too above node (inr (inr only)) = inr (inr (λ rival below large alike.
        only rival below (large_too other retained too are rival (below_head ids facts above rival below).held large) alike))

    pub part_too : (part : Option ℕ) → IsPart ids facts retained total part → IsPart ids facts other total part
    part_too _ Roots = Roots
    part_too _ (Large above node is_part below large singled) =
        Large above node (part_too above is_part) below
        (large_too retained other are too node (below_head ids facts above node below).held large) (singled_too above node singled)

  module _ (retained other : ℕ → Sum) (are : AreRetained ids facts retained) (too : AreRetained ids facts other) where
    forth : (part : Option ℕ) → IsPart ids facts retained total part → IsPart ids facts other total part
    forth part is = part_too retained other are too part is

    back : (part : Option ℕ) → IsPart ids facts other total part → IsPart ids facts retained total part
    back part is = part_too other retained too are part is

    part_held : (part : Option ℕ) (node : ℕ) → IsPart ids facts retained total part → part ≡ Some node → IsHeld ids facts node
    part_held _ node Roots same = absurd cc
    part_held _ node (Large above own is_part below large singled) same =
        let node_is : own ≡ node = cc in
        subst (IsHeld ids facts) node_is (below_head ids facts above own below).held

    bytes_same : (part : Option ℕ) → IsPart ids facts retained total part
        → bytes_of ids facts retained total part ≡ bytes_of ids facts other total part
    bytes_same None is = refl
    bytes_same (Some node) is = ap (λ (s : Sum). s.bytes) (same_sum retained other are too node (part_held (Some node) node is refl))

    pub suspect_too : (part : Option ℕ) (pieces : ℕ) → IsSuspect ids facts retained total part pieces
        → IsSuspect ids facts other total part pieces
    suspect_too part pieces is = record {
      is_part = forth part is.is_part;
      has_pieces = record {
        below = is.has_pieces.below;
        count = is.has_pieces.count;
        are_below = add_too retained other are too (λ node. IsBelow ids facts part node × IsPart ids facts retained total (Some node))
            (λ node. IsBelow ids facts part node × IsPart ids facts other total (Some node)) is.has_pieces.below is.has_pieces.count
            (λ node both. (below_head ids facts part node both.0).held)
            (λ node. (λ both. (both.0, forth (Some node) both.1), λ both. (both.0, back (Some node) both.1))) is.has_pieces.are_below;
        is = is.has_pieces.is ∙ bytes_same part is.is_part;
      };
      enough = is.enough;
    }

    pub piece_sum_too : (part : Option ℕ) (sum : PieceSum) → IsPieceSum ids facts retained total part sum
        → IsPieceSum ids facts other total part sum
    piece_sum_too part sum is = record {
      some = is.some;
      add_up = add_too retained other are too (IsPiece ids facts retained total part sum.label)
          (IsPiece ids facts other total part sum.label)
          sum.bytes sum.count (λ node piece. (below_head ids facts part node piece.0).held)
          (λ node. (
            λ piece. (piece.0, λ is_part. piece.1 (back (Some node) is_part), piece.2),
            λ piece. (piece.0, λ is_part. piece.1 (forth (Some node) is_part), piece.2),
          )) is.add_up;
    }
