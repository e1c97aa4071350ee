-- Groups by places: each place has one head, and what is right below a group.
use Rattle.std.proofs.Common.{◌≡◌, ◌<◌, ◌≤◌, ◌∙◌, ℕ, zero, suc, List, Option, Some, None, refl, sym, ap, subst, inl, inr, arith}
use Rattle.std.proofs.lemmas.Bool.{cases_lt}
use Rattle.hprof_values.specs.declared.ids.IdSize.{IdSize}
use Rattle.hprof_items.specs.FactValue.{FactValue}
use Rattle.hprof_dominators.specs.Above.{IsAboveOrAt, up_in}
use Rattle.hprof_dominators.proofs.Climbing.{up_one}
use Rattle.hprof_retained.specs.Retained.{HasParent}
use Rattle.hprof_retained.specs.Tree.{IsTreeOf, above_in, count_of, node_at}
use Rattle.hprof_retained.specs.declared.retained.Retained.{Retained}
use Rattle.hprof_keeps.specs.Order.{node_of}
use Rattle.hprof_keeps.proofs.Places as places
use Rattle.hprof_suspects.specs.Groups.{Above, HasHead, IsBelow, IsHead, Itself, Joins}
use Rattle.hprof_suspects.specs.Heads.{AreHeads, HeadsFit, JoinsAbove, head_in, up}

-- the group that a place is right below has a place, whatever the heads are
pub over_low : (retained : Retained) (heads : List ℕ) → HeadsFit retained heads → (place : ℕ) → 0 < place → place < count_of retained
    → head_in heads (up retained place) < count_of retained
over_low retained heads fit place some low =
    let less = retained.falls.less place some in fit.low (up retained place) (omega arith)

module _ (ids : IdSize) (facts : List FactValue) (retained : Retained) (tree : IsTreeOf ids facts retained) where
  abbrev pub IsPlace : ℕ → Type 0
  IsPlace place = (0 < place) × (place < count_of retained)

  -- ---- the parent

  -- its place is the one right above
  pub parent_place : (place parent : ℕ) → IsPlace place → HasParent ids facts (node_at retained place) (Some parent)
      → (0 < up retained place) × (node_at retained (up retained place) ≡ parent)
  parent_place place parent is has =
      let on = places.place_above ids facts retained tree parent place is has.dominates in
      let some : node_of retained on.0 ≡ Some parent = places.node_of_some retained on.0 on.1.0 ∙ ap Some on.2 in
      let same : up retained place ≡ on.0 = places.is_parent ids facts retained tree place on.0 is on.1.1
      (subst (HasParent ids facts (node_at retained place)) (sym some) has) in
      let above_some = on.1.0 in
      (omega arith, ap (node_at retained) same ∙ on.2)

  pub above_place : (place : ℕ) → IsPlace place → 0 < up retained place → IsPlace (up retained place)
  above_place place is some =
      let less = tree.falls.less place is.0 in
      let low = is.1 in
      (some, omega arith)

  pub has_parent : (place : ℕ) → IsPlace place → 0 < up retained place
      → HasParent ids facts (node_at retained place) (Some (node_at retained (up retained place)))
  has_parent place is some =
      let above = above_place place is some in
      subst (HasParent ids facts (node_at retained place)) (places.node_of_some retained (up retained place) some)
      (places.parent_is ids facts retained tree place (up retained place) is above.1 refl)

  joins_above : (place parent : ℕ) → IsPlace place → Joins ids facts (node_at retained place) parent → JoinsAbove ids facts retained place
  joins_above place parent is joins =
      let at = parent_place place parent is joins.below in
      (at.0, subst (Joins ids facts (node_at retained place)) (sym at.1) joins)

  module _ (heads : List ℕ) (are : AreHeads ids facts retained heads) where
    abbrev pub head : ℕ → ℕ
    head place = head_in heads place

    -- ---- the head

    pub head_node : (place : ℕ) → IsPlace place → ¬ (JoinsAbove ids facts retained place) → IsHead ids facts (node_at retained place)
    head_node place is apart = record {
      held = (tree.held place is.0 is.1).0;
      topmost = λ parent joins. apart (joins_above place parent is joins);
    }

    pub record HasItsHead (place : ℕ) : Type 0 where
      pub some : 0 < head place
      pub low : head place ≤ place
      pub own : head (head place) ≡ head place
      pub above : IsAboveOrAt (above_in retained) (head place) place
      pub has : HasHead ids facts (node_at retained place) (node_at retained (head place))

    own_head : (place : ℕ) → IsPlace place → ¬ (JoinsAbove ids facts retained place) → head place ≡ place → HasItsHead place
    own_head place is apart same = record {
      some = let some = is.0 in omega arith;
      low = omega arith;
      own = ap head same;
      above = (0, sym same);
      has = subst (λ (h : ℕ). HasHead ids facts (node_at retained place) (node_at retained h)) (sym same)
          (Itself (node_at retained place) (head_node place is apart));
    }

    same_head : (place : ℕ) → IsPlace place → JoinsAbove ids facts retained place → head place ≡ head (up retained place)
        → HasItsHead (up retained place) → HasItsHead place
    same_head place is joins same above = record {
      some = let some = above.some in omega arith;
      low = let low = above.low in let less = tree.falls.less place is.0 in omega arith;
      own = ap head same ∙ above.own ∙ sym same;
      above = subst (λ (h : ℕ). IsAboveOrAt (above_in retained) h place) (sym same)
          (up_one (up_in (above_in retained)) (head (up retained place)) place above.above);
      has = subst (λ (h : ℕ). HasHead ids facts (node_at retained place) (node_at retained h)) (sym same)
          (Above (node_at retained place) (node_at retained (up retained place)) (node_at retained (head (up retained place))) joins.1
          above.has);
    }

    its_head : (most place : ℕ) → place ≤ most → IsPlace place → HasItsHead place
    its_head zero place low is = let some = is.0 in absurd (omega arith)
    its_head (suc most) place low is = elim (are.each place is.0 is.1) [
      | inl joins ↦
          let less = tree.falls.less place is.0 in
          same_head place is joins.0 joins.1
          (its_head most (up retained place) (omega arith) (above_place place is joins.0.0))
      | inr apart ↦ own_head place is apart.0 apart.1
    ]

    pub has_its_head : (place : ℕ) → IsPlace place → HasItsHead place
    has_its_head place is = its_head place place (omega arith) is

    -- and no other
    pub head_is : (node top : ℕ) → HasHead ids facts node top → (place : ℕ) → IsPlace place → node_at retained place ≡ node
        → node_at retained (head place) ≡ top
    head_is _ _ (Itself node is) place at same = elim (are.each place at.0 at.1) [
      | inl joins ↦ absurd (is.topmost (node_at retained (up retained place))
          (subst (λ (n : ℕ). Joins ids facts n (node_at retained (up retained place))) same joins.0.1))
      | inr apart ↦ ap (node_at retained) apart.1 ∙ same
    ]
    head_is _ _ (Above node parent top joins rest) place at same =
        let here : Joins ids facts (node_at retained place) parent = subst (λ (n : ℕ). Joins ids facts n parent) (sym same) joins in
        let above = parent_place place parent at here.below in
        elim (are.each place at.0 at.1) [
          | inl on ↦
              ap (node_at retained) on.1 ∙ head_is parent top rest (up retained place) (above_place place at above.0) above.1
          | inr apart ↦ absurd (apart.0 (joins_above place parent at here))
        ]

    -- a place is its own head exactly if its node is a head
    pub is_head : (place : ℕ) → IsPlace place → head place ≡ place → IsHead ids facts (node_at retained place)
    is_head place is own = elim (are.each place is.0 is.1) [
      | inl joins ↦
          let less = tree.falls.less place is.0 in
          let low = (has_its_head (up retained place) (above_place place is joins.0.0)).low in
          let same = joins.1 in
          absurd (omega arith)
      | inr apart ↦ head_node place is apart.0
    ]

    pub own_of_head : (place : ℕ) → IsPlace place → IsHead ids facts (node_at retained place) → head place ≡ place
    own_of_head place is top = elim (are.each place is.0 is.1) [
      | inl joins ↦ absurd (top.topmost (node_at retained (up retained place)) joins.0.1)
      | inr apart ↦ apart.1
    ]

    -- ---- right below a group

    -- the place of the group that a place is right below; 0 right below the roots
    abbrev pub over : ℕ → ℕ
    over place = head (up retained place)

    pub over_less : (place : ℕ) → IsPlace place → over place < place
    over_less place is =
        let less = tree.falls.less place is.0 in
        elim (cases_lt 0 (up retained place)) [
          | inl some ↦ let low = (has_its_head (up retained place) (above_place place is some)).low in omega arith
          | inr none ↦
              let at : up retained place ≡ 0 = omega arith in
              let top = ap head at ∙ are.top in
              omega arith
        ]

    -- it is its own head
    pub over_own : (place : ℕ) → IsPlace place → 0 < over place → IsPlace (over place) × (head (over place) ≡ over place)
    over_own place is some = elim (cases_lt 0 (up retained place)) [
      | inl above ↦
          let its = has_its_head (up retained place) (above_place place is above) in
          let less = over_less place is in
          let low = is.1 in
          ((some, omega arith), its.own)
      | inr none ↦
          let at : up retained place ≡ 0 = omega arith in
          let top = ap head at ∙ are.top in
          absurd (omega arith)
    ]

    pub below_over : (place : ℕ) → IsPlace place → head place ≡ place
        → IsBelow ids facts (node_of retained (over place)) (node_at retained place)
    below_over place is own = elim (cases_lt 0 (up retained place)) [
      | inl some ↦
          let above = above_place place is some in
          let its = has_its_head (up retained place) above in
          subst (λ (part : Option ℕ). IsBelow ids facts part (node_at retained place))
          (sym (places.node_of_some retained (over place) its.some))
          (is_head place is own, (node_at retained (up retained place), has_parent place is some, its.has))
      | inr none ↦
          let at : up retained place ≡ 0 = omega arith in
          let top : over place ≡ 0 = ap head at ∙ are.top in
          subst (λ (q : ℕ). IsBelow ids facts (node_of retained q) (node_at retained place)) (sym top)
          (is_head place is own, places.parent_is ids facts retained tree place 0 is (let some = is.0 in let low = is.1 in omega arith) at)
    ]

    pub over_is : (part : Option ℕ) (place : ℕ) → IsPlace place → IsBelow ids facts part (node_at retained place)
        → (head place ≡ place) × (part ≡ node_of retained (over place))
    over_is None place is below =
        let at = places.is_parent ids facts retained tree place 0 is (let some = is.0 in let low = is.1 in omega arith) below.1 in
        let top : over place ≡ 0 = ap head at ∙ are.top in
        (own_of_head place is below.0, ap (node_of retained) (sym top))
    over_is (Some group) place is below =
        let at = parent_place place below.1.0 is below.1.1 in
        let above = above_place place is at.0 in
        let same = head_is below.1.0 group below.1.2 (up retained place) above at.1 in
        let some = (has_its_head (up retained place) above).some in
        (own_of_head place is below.0, sym (places.node_of_some retained (over place) some ∙ ap Some same))
