-- The pieces of all parts add up to the total: each part but the roots is right below one part.
use Rattle.std.specs.Prelude.{◌↔◌, AllPairs}
use Rattle.std.proofs.Common.{◌≡◌, ◌≢◌, ◌⊎◌, ◌+◌, ◌++◌, ◌∙◌, ℕ, suc, List, [], ◌∷◌, Option, Some, None, refl, sym, ap, subst, inl, inr}
use Rattle.std.proofs.Common.{arith}
use Rattle.std.specs.List.{sum_by}
use Rattle.std.proofs.lemmas.List.Sums.{sum_by-append, sum_by-cons}
use Rattle.hprof_values.specs.declared.ids.IdSize.{IdSize}
use Rattle.hprof_items.specs.FactValue.{FactValue}
use Rattle.hprof_dominators.specs.Retained.{IsOnce}
use Rattle.hprof_dominators.specs.Walks.{IsOn}
use Rattle.hprof_dominators.proofs.SumsOver.{on_back, on_either, on_front, once_append}
use Rattle.hprof_histogram.proofs.Members.{Contains-from_in, IsIn, in_from_Contains}
use Rattle.hprof_reach.specs.Reaching.{IsStart, IsStepBy}
use Rattle.hprof_weak.specs.Weak.{IsStrong}
use Rattle.hprof_retained.specs.Retained.{HasParent, Sum}
use Rattle.hprof_retained.proofs.OneParent.{one_parent}
use Rattle.hprof_retained.proofs.OneSums.{same_sum_by}
use Rattle.hprof_suspects.specs.AllParts.{AreAllParts}
use Rattle.hprof_suspects.specs.Groups.{Above, HasHead, IsBelow, IsHead, Itself, Joins}
use Rattle.hprof_suspects.specs.Parts.{HasPieces, IsPart, Large, Roots, bytes_of}
use Rattle.hprof_suspects.specs.SuspectsText.{Suspect}

-- the first is before each of the others, and these are too
first_pairs : {A : Type 0} (R : A → A → Type 0) (x : A) (xs : List A) → AllPairs R (x ∷ xs) → (y : A) → IsIn y xs → R x y
first_pairs R x xs pairs y on =
    let at = Contains-from_in xs y on in
    let low = at.1 in
    subst (R x) at.2 (pairs 0 (suc at.0) y (omega arith) (omega arith))

rest_pairs : {A : Type 0} (R : A → A → Type 0) (x : A) (xs : List A) → AllPairs R (x ∷ xs) → AllPairs R xs
rest_pairs R x xs pairs = λ i j d less low. pairs (suc i) (suc j) d (omega arith) (omega arith)

module _ (ids : IdSize) (facts : List FactValue) where
  -- ---- one part above

  pub same_parent : (node : ℕ) (one other : Option ℕ) → HasParent ids facts node one → HasParent ids facts node other → one ≡ other
  same_parent node one other is too = one_parent (IsStart facts) (IsStepBy (IsStrong facts) ids facts) node one other is too

  top_head : (node top : ℕ) → HasHead ids facts node top → IsHead ids facts node → top ≡ node
  top_head _ _ (Itself node own) is = refl
  top_head _ _ (Above node parent head joins rest) is = absurd (is.topmost parent joins)

  through : (node top : ℕ) → HasHead ids facts node top → (parent : ℕ) → Joins ids facts node parent → HasHead ids facts parent top
  through _ _ (Itself node own) parent joins = absurd (own.topmost parent joins)
  through _ _ (Above node above head joins_above rest) parent joins =
      let both : Some above ≡ Some parent = same_parent node (Some above) (Some parent) joins_above.below joins.below in
      let same : above ≡ parent = cc in
      subst (λ (p : ℕ). HasHead ids facts p head) same rest

  pub one_head : (node one : ℕ) → HasHead ids facts node one → (other : ℕ) → HasHead ids facts node other → one ≡ other
  one_head _ _ (Itself node own) other too = sym (top_head node other too own)
  one_head _ _ (Above node parent head joins rest) other too = one_head parent head rest other (through node other too parent joins)

  pub one_above : (one other : Option ℕ) (node : ℕ) → IsBelow ids facts one node → IsBelow ids facts other node → one ≡ other
  one_above None None node is too = refl
  one_above None (Some group) node is too =
      let clash : None ≡ Some too.1.0 = same_parent node None (Some too.1.0) is.1 too.1.1 in absurd cc
  one_above (Some group) None node is too =
      let clash : None ≡ Some is.1.0 = same_parent node None (Some is.1.0) too.1 is.1.1 in absurd cc
  one_above (Some group) (Some other) node is too =
      let both : Some too.1.0 ≡ Some is.1.0 = same_parent node (Some too.1.0) (Some is.1.0) too.1.1 is.1.1 in
      let same : too.1.0 ≡ is.1.0 = cc in
      ap Some (one_head is.1.0 group is.1.2 other (subst (λ (p : ℕ). HasHead ids facts p other) same too.1.2))

  module _ (retained : ℕ → Sum) (total : Sum) where
    abbrev Part : Option ℕ → Type 0
    Part part = IsPart ids facts retained total part

    abbrev Pieces : Suspect → Type 0
    Pieces part = HasPieces ids facts retained total part.part part.pieces

    abbrev bytes : ℕ → ℕ
    bytes node = (retained node).bytes

    -- ---- the nodes that are parts, and those right below parts

    record Gathered (parts : List Suspect) : Type 0 where
      pieces : ℕ
      pieces_are : pieces ≡ sum_by (λ part. part.pieces) parts
      below : List ℕ
      once : IsOnce below
      exact : (node : ℕ) → IsOn node below ↔ ((part : Suspect) × IsIn part parts × IsBelow ids facts part.part node × Part (Some node))
      add_up : pieces + sum_by bytes below ≡ sum_by (λ part. bytes_of ids facts retained total part.part) parts

    gathered : (parts : List Suspect) → AllPairs (λ one other. one.part ≢ other.part) parts
        → ((part : Suspect) → IsIn part parts → Pieces part) → Gathered parts
    gathered [] apart each = record {
      pieces = 0;
      pieces_are = refl;
      below = [];
      once = tt;
      exact = λ node. (λ on. absurd on, λ is. absurd is.1);
      add_up = refl;
    }
    gathered (part ∷ parts) apart each =
        let rest = gathered parts (rest_pairs (λ one other. one.part ≢ other.part) part parts apart) (λ p on. each p (inr on)) in
        let own = each part (inl refl) in
        let nodes = own.are_below.nodes in
        record {
          pieces = part.pieces + rest.pieces;
          pieces_are = (let all = sum_by-cons (λ (p : Suspect). p.pieces) part parts in let old = rest.pieces_are in omega arith);
          below = nodes ++ rest.below;
          once = once_append nodes rest.below own.are_below.once rest.once (λ node front back.
              let here = (own.are_below.exact node).0 front in
              let there = (rest.exact node).0 back in
              first_pairs (λ one other. one.part ≢ other.part) part parts apart there.0 there.1
              (one_above part.part there.0.part node here.0 there.2));
          exact = λ node. (
            λ on. elim (on_either node nodes rest.below on) [
              | inl front ↦ let here = (own.are_below.exact node).0 front in (part, inl refl, here.0, here.1)
              | inr back ↦ let there = (rest.exact node).0 back in (there.0, inr there.1, there.2, there.3)
            ],
            λ is. elim is.1 [
              | inl same ↦ on_front node nodes rest.below ((own.are_below.exact node).1
                  (subst (λ (p : Suspect). IsBelow ids facts p.part node) same is.2, is.3))
              | inr later ↦ on_back node nodes rest.below ((rest.exact node).1 (is.0, later, is.2, is.3))
            ],
          );
          add_up = (
              let all = sum_by-cons (λ (p : Suspect). bytes_of ids facts retained total p.part) part parts in
              let both = sum_by-append bytes nodes rest.below in
              let here = own.is in
              let mine = own.are_below.bytes_are in
              let old = rest.add_up in
              omega arith
              );
        }

    abbrev all_bytes : List Suspect → ℕ
    all_bytes parts = sum_by (λ part. bytes_of ids facts retained total part.part) parts

    abbrev WithRoots : List Suspect → List ℕ → Type 0
    WithRoots parts nodes = (((part : Suspect) × IsIn part parts × (part.part ≡ None)) ×
        (all_bytes parts ≡ total.bytes + sum_by bytes nodes))
        ⊎ (((part : Suspect) → IsIn part parts → part.part ≢ None) × (all_bytes parts ≡ sum_by bytes nodes))

    record Named (parts : List Suspect) : Type 0 where
      nodes : List ℕ
      once : IsOnce nodes
      exact : (node : ℕ) → IsOn node nodes ↔ ((part : Suspect) × IsIn part parts × (part.part ≡ Some node))
      sum : WithRoots parts nodes

    roots_named : (part : Suspect) (parts : List Suspect) → ((other : Suspect) → IsIn other parts → part.part ≢ other.part)
        → part.part ≡ None
        → Named parts → Named (part ∷ parts)
    roots_named part parts apart none rest = record {
      nodes = rest.nodes;
      once = rest.once;
      exact = λ node. (
        λ on. let was = (rest.exact node).0 on in (was.0, inr was.1, was.2),
        λ is. elim is.1 [
          | inl same ↦
              let clash : Some node ≡ None = sym is.2 ∙ ap (λ (p : Suspect). p.part) same ∙ none in absurd cc
          | inr later ↦ (rest.exact node).1 (is.0, later, is.2)
        ],
      );
      sum = inl ((part, inl refl, none), added rest.sum);
    } where
      added : WithRoots parts rest.nodes → all_bytes (part ∷ parts) ≡ total.bytes + sum_by bytes rest.nodes
      added (inl roots) = absurd (apart roots.0.0 roots.0.1 (none ∙ sym roots.0.2))
      added (inr others) =
          let all = sum_by-cons (λ (p : Suspect). bytes_of ids facts retained total p.part) part parts in
          let own = ap (bytes_of ids facts retained total) none in
          let old = others.1 in
          omega arith

    node_named : (part : Suspect) (parts : List Suspect) → ((other : Suspect) → IsIn other parts → part.part ≢ other.part) → (node : ℕ)
        → part.part ≡ Some node → Named parts → Named (part ∷ parts)
    node_named part parts apart node is rest = record {
      nodes = node ∷ rest.nodes;
      once = (λ on. let was = (rest.exact node).0 on in apart was.0 was.1 (is ∙ sym was.2), rest.once);
      exact = λ other. (
        λ on. elim on [
          | inl same ↦ (part, inl refl, is ∙ ap Some (sym same))
          | inr later ↦ let was = (rest.exact other).0 later in (was.0, inr was.1, was.2)
        ],
        λ has. elim has.1 [
          | inl same ↦
              let both : Some other ≡ Some node = sym has.2 ∙ ap (λ (p : Suspect). p.part) same ∙ is in
              let equal : other ≡ node = cc in
              inl equal
          | inr later ↦ inr ((rest.exact other).1 (has.0, later, has.2))
        ],
      );
      sum = added rest.sum;
    } where
      added : WithRoots parts rest.nodes → WithRoots (part ∷ parts) (node ∷ rest.nodes)
      added (inl roots) =
          let all = sum_by-cons (λ (p : Suspect). bytes_of ids facts retained total p.part) part parts in
          let own = ap (bytes_of ids facts retained total) is in
          let front = sum_by-cons bytes node rest.nodes in
          let old = roots.1 in
          inl ((roots.0.0, inr roots.0.1, roots.0.2), omega arith)
      added (inr others) =
          let all = sum_by-cons (λ (p : Suspect). bytes_of ids facts retained total p.part) part parts in
          let own = ap (bytes_of ids facts retained total) is in
          let front = sum_by-cons bytes node rest.nodes in
          let old = others.1 in
          inr (
            λ other on none. elim on [
              | inl same ↦
                  let clash : Some node ≡ None = sym is ∙ ap (λ (p : Suspect). p.part) (sym same) ∙ none in absurd cc
              | inr later ↦ others.0 other later none
            ],
            omega arith,
          )

    all_named : (parts : List Suspect) → AllPairs (λ one other. one.part ≢ other.part) parts → Named parts
    all_named [] apart = record {
      nodes = [];
      once = tt;
      exact = λ node. (λ on. absurd on, λ is. absurd is.1);
      sum = inr (λ part on. absurd on, refl);
    }
    all_named (part ∷ parts) apart =
        go part.part refl (all_named parts (rest_pairs (λ one other. one.part ≢ other.part) part parts apart)) where
          go : (own : Option ℕ) → part.part ≡ own → Named parts → Named (part ∷ parts)
          go None is rest = roots_named part parts (first_pairs (λ one other. one.part ≢ other.part) part parts apart) is rest
          go (Some node) is rest = node_named part parts (first_pairs (λ one other. one.part ≢ other.part) part parts apart) node is rest

    -- ---- all

    pub pieces_add_up : (parts : List Suspect) → AreAllParts ids facts retained total parts
        → sum_by (λ part. part.pieces) parts ≡ total.bytes
    pieces_add_up parts are = by_roots named.sum where
      part_of : (part : Suspect) → IsIn part parts → Part part.part × Pieces part
      part_of part on = are.right part (Contains-from_in parts part on)

      all_pieces : Gathered parts
      all_pieces = gathered parts are.once (λ part on. (part_of part on).1)

      named : Named parts
      named = all_named parts are.once

      above_of : (some : Option ℕ) (node : ℕ) → Part some → some ≡ Some node
          → (above : Option ℕ) × Part above × IsBelow ids facts above node
      above_of _ node Roots same = absurd cc
      above_of _ node (Large above own is_part below large singled) same =
          let node_is : own ≡ node = cc in
          (above, is_part, subst (IsBelow ids facts above) node_is below)

      same_sums : sum_by bytes all_pieces.below ≡ sum_by bytes named.nodes
      same_sums = same_sum_by bytes (λ node. Part (Some node)) all_pieces.below named.nodes all_pieces.once named.once
          (λ node. (
            λ on. ((all_pieces.exact node).0 on).3,
            λ part.
                let above = above_of (Some node) node part refl in
                let at = are.all above.0 above.1 in
                (all_pieces.exact node).1 (record { part = above.0; pieces = at.0 }, in_from_Contains parts _ at.1, above.2, part),
          ))
          (λ node. (
            λ on. let has = (named.exact node).0 on in subst Part has.2 (part_of has.0 has.1).0,
            λ part.
                let at = are.all (Some node) part in
                (named.exact node).1 (record { part = Some node; pieces = at.0 }, in_from_Contains parts _ at.1, refl),
          ))

      by_roots : WithRoots parts named.nodes → sum_by (λ part. part.pieces) parts ≡ total.bytes
      by_roots (inl roots) =
          let all = roots.1 in
          let up = all_pieces.add_up in
          let pieces = all_pieces.pieces_are in
          let same = same_sums in
          omega arith
      by_roots (inr others) =
          let at = are.all None Roots in
          absurd (others.0 (record { part = None; pieces = at.0 }) (in_from_Contains parts _ at.1) refl)
