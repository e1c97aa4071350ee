-- What is right below a group, by places: it retains no more than the group together.
use Rattle.std.proofs.Common.{◌≡◌, ◌<◌, ◌≤◌, ◌∙◌, ℕ, zero, suc, List, Some, None, refl, sym, ap, subst, arith}
use Rattle.hprof_values.specs.declared.ids.IdSize.{IdSize}
use Rattle.hprof_items.specs.FactValue.{FactValue}
use Rattle.hprof_rows.specs.Conflict.{IsConsistent}
use Rattle.hprof_retained.specs.Retained.{IsHeld, Sum}
use Rattle.hprof_retained.specs.Tree.{IsTreeOf, count_of, node_at, place_of, sum_at, total_of}
use Rattle.hprof_retained.specs.declared.retained.Retained.{Retained}
use Rattle.hprof_keeps.specs.Order.{node_of, retained_in}
use Rattle.hprof_keeps.proofs.Held.{are_retained, sum_there}
use Rattle.hprof_keeps.proofs.Places as places
use Rattle.hprof_suspects.specs.Groups.{IsBelow}
use Rattle.hprof_suspects.specs.Heads.{AreHeads, head_in, up}
use Rattle.hprof_suspects.specs.Parts.{AddUp, bytes_of}
use Rattle.hprof_suspects.proofs.HeadPlaces as by_place
use Rattle.hprof_suspects.proofs.NodeGroups.{below_head}
use Rattle.hprof_suspects.proofs.NodeParts.{fits}

module _ (ids : IdSize) (facts : List FactValue) (retained : Retained) (tree : IsTreeOf ids facts retained) where
  abbrev Place : ℕ → Type 0
  Place = by_place.IsPlace ids facts retained tree

  -- what the part at a place retains
  pub bytes_at : (place : ℕ) → place < count_of retained
      → (sum_at retained place).bytes ≡ bytes_of ids facts (retained_in retained) (total_of retained) (node_of retained place)
  bytes_at zero low = refl
  bytes_at (suc place) low =
      ap (λ (s : Sum). s.bytes) (sum_there ids facts retained tree (suc place) (omega arith) low)
      ∙ sym (ap (bytes_of ids facts (retained_in retained) (total_of retained)) (places.node_of_some retained (suc place) (omega arith)))

  -- a place, or 0, is told by its node
  pub same_group : (one other : ℕ) → one < count_of retained → other < count_of retained → node_of retained one ≡ node_of retained other
      → one ≡ other
  same_group zero zero low other_low same = refl
  same_group zero (suc other) low other_low same =
      let clash : None ≡ Some (node_at retained (suc other)) = same ∙ places.node_of_some retained (suc other) (omega arith) in absurd cc
  same_group (suc one) zero low other_low same =
      let clash : None ≡ Some (node_at retained (suc one)) = sym same ∙ places.node_of_some retained (suc one) (omega arith) in absurd cc
  same_group (suc one) (suc other) low other_low same =
      let both : Some (node_at retained (suc one)) ≡ Some (node_at retained (suc other)) =
      sym (places.node_of_some retained (suc one) (omega arith)) ∙ same ∙ places.node_of_some retained (suc other) (omega arith) in
      let nodes : node_at retained (suc one) ≡ node_at retained (suc other) = cc in
      places.one_place ids facts retained tree (suc one) (suc other) (omega arith, low) (omega arith, other_low) nodes

  module _ (heads : List ℕ) (are : AreHeads ids facts retained heads) where
    abbrev head : ℕ → ℕ
    head place = head_in heads place

    abbrev over : ℕ → ℕ
    over place = head (up retained place)

    -- the place of what is right below a group
    pub record IsBelowAt (group node : ℕ) : Type 0 where
      pub place : ℕ
      pub is : Place place
      pub node_is : node_at retained place ≡ node
      pub own : head place ≡ place
      pub group_is : over place ≡ group

    pub at_below : (group node : ℕ) → group < count_of retained → IsBelow ids facts (node_of retained group) node → IsBelowAt group node
    at_below group node low below =
        let found = tree.found node (below_head ids facts (node_of retained group) node below).held in
        let place : ℕ = place_of retained node in
        let is : Place place = (found.0, found.1) in
        let here = by_place.over_is ids facts retained tree heads are (node_of retained group) place is
        (subst (IsBelow ids facts (node_of retained group)) (sym found.2) below) in
        let less = by_place.over_less ids facts retained tree heads are place is in
        let place_low = is.1 in
        record {
          place = place;
          is = is;
          node_is = found.2;
          own = here.0;
          group_is = same_group (over place) group (omega arith) low (sym here.1);
        }

    -- ---- what is right below a group retains no more than it

    held_group : (group : ℕ) → group < count_of retained → (node : ℕ) → node_of retained group ≡ Some node → IsHeld ids facts node
    held_group zero low node same = absurd cc
    held_group (suc group) low node same =
        let both : Some (node_at retained (suc group)) ≡ Some node =
        sym (places.node_of_some retained (suc group) (omega arith)) ∙ same in
        let node_is : node_at retained (suc group) ≡ node = cc in
        subst (IsHeld ids facts) node_is (tree.held (suc group) (omega arith) low).0

    pub below_fits : IsConsistent facts → (group : ℕ) → group < count_of retained → (Holds : ℕ → Type 0) (bytes count : ℕ)
        → AddUp ids facts (retained_in retained) (total_of retained) Holds bytes count
        → ((node : ℕ) → Holds node → IsBelow ids facts (node_of retained group) node) → bytes ≤ (sum_at retained group).bytes
    below_fits agree group low Holds bytes count add below =
        let sum = add.bytes_are in
        let within = fits ids facts agree (retained_in retained) (are_retained ids facts retained tree) (total_of retained) tree.total
        (node_of retained group) (held_group group low) add.nodes add.once (λ node on. below node ((add.exact node).0 on)) in
        let own = bytes_at group low in
        omega arith
