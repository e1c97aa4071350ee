-- What the parts right below each place retain, place by place.
use Rattle.std.proofs.Common.{◌≡◌, ◌<◌, ◌≤◌, ◌+◌, ◌∙◌, ℕ, Bool, List, Option, Some, length, replicate, refl, sym, ap, subst, inl, inr}
use Rattle.std.proofs.Common.{arith, slice_index, slice_set, get_or-set_other, get_or-set_same}
use Rattle.std.proofs.lemmas.Bool.{cases_eq}
use Rattle.std.proofs.lemmas.List.{get_or-replicate, length-replicate}
use Rattle.std.proofs.Math.ListN.{length-set}
use Rattle.hprof_values.specs.declared.ids.IdSize.{IdSize}
use Rattle.hprof_items.specs.FactValue.{FactValue}
use Rattle.hprof_rows.specs.Conflict.{IsConsistent}
use Rattle.hprof_retained.specs.Tree.{IsTreeOf, count_of, node_at, sum_at, total_of}
use Rattle.hprof_retained.specs.declared.retained.Retained.{Retained}
use Rattle.hprof_keeps.specs.Order.{node_of, retained_in}
use Rattle.hprof_keeps.proofs.Places as places
use Rattle.hprof_suspects.specs.Groups.{IsBelow}
use Rattle.hprof_suspects.specs.Heads.{AreHeads, head_in}
use Rattle.hprof_suspects.specs.Parts.{IsPart, Large, Roots}
use Rattle.hprof_suspects.specs.PartPlaces.{AreParts, IsMarked, IsPartAt, over_in}
use Rattle.hprof_suspects.specs.Pieces.{ArePartSums, IsPartBelow, SumsFit}
use Rattle.hprof_suspects.proofs.HeadPlaces as by_place
use Rattle.hprof_suspects.proofs.PartSums as sums
use Rattle.hprof_suspects.proofs.SumsSoFar.{Adds, IsTakenTo, sum_alike, sum_begin, sum_more, sum_same}

-- ---- whatever the sums are

pub sums_fit_begin : (retained : Retained) (sums : List ℕ) → sums ≡ replicate (count_of retained) 0 → SumsFit retained sums
sums_fit_begin retained sums zeros = record {
  as_many = ap length zeros ∙ length-replicate (count_of retained) 0;
  low = λ place low.
      let none = ap (λ l. slice_index l place) zeros ∙ get_or-replicate (count_of retained) place 0 0 low in omega arith;
}

pub sums_fit_more : (retained : Retained) (sums : List ℕ) (group sum : ℕ) → group < count_of retained
    → sum ≤ (sum_at retained group).bytes → SumsFit retained sums → SumsFit retained (slice_set sums group sum)
sums_fit_more retained sums group sum within small so = record {
  as_many = length-set sums group sum ∙ so.as_many;
  low = λ place low. elim (cases_eq place group) [
    | inl same ↦
        let put = ap (slice_index (slice_set sums group sum)) same
        ∙ get_or-set_same sums group sum 0 (let many = so.as_many in omega arith) in
        let own = ap (λ p. (sum_at retained p).bytes) same in
        omega arith
    | inr apart ↦ let keeps = get_or-set_other sums group place sum 0 apart in let was = so.low place low in omega arith
  ];
}

-- ---- sums of parts

-- a part right below a group
abbrev pub IsPartOf : Retained → List ℕ → List Bool → ℕ → ℕ → Type 0
IsPartOf retained heads parts group place = IsMarked parts place × (over_in retained heads place ≡ group)

-- of each place what the parts before a bound retain that are right below it
pub record AreBelowTo (ids : IdSize) (facts : List FactValue) (retained : Retained) (heads : List ℕ) (parts : List Bool) (sums : List ℕ)
    (done : ℕ) : Type 0 where
  pub as_many : length sums ≡ count_of retained
  pub each : (group : ℕ) → group < count_of retained → (count : ℕ)
      × Adds ids facts retained (IsTakenTo retained (IsPartOf retained heads parts group) done) (slice_index sums group) count

module _ (ids : IdSize) (facts : List FactValue) (retained : Retained) (tree : IsTreeOf ids facts retained) (heads : List ℕ)
    (are : AreHeads ids facts retained heads) (parts : List Bool) (marked : AreParts ids facts retained parts) where
  abbrev TakesPart : ℕ → ℕ → Type 0
  TakesPart group place = IsPartOf retained heads parts group place

  -- a part is the head of its group
  pub part_head : (place : ℕ) → 0 < place → place < count_of retained → IsPartAt ids facts retained place → head_in heads place ≡ place
  part_head place some low part = go (node_of retained place) part (sym (places.node_of_some retained place some)) where
    go : (at : Option ℕ) → IsPart ids facts (retained_in retained) (total_of retained) at → Some (node_at retained place) ≡ at
        → head_in heads place ≡ place
    go _ Roots same = absurd cc
    go _ (Large above node is_part below large singled) same =
        let node_is : node ≡ node_at retained place = cc in
        (by_place.over_is ids facts retained tree heads are above place (some, low) (subst (IsBelow ids facts above) node_is below)).0

  part_below : (group done node : ℕ) → IsTakenTo retained (TakesPart group) done node → IsPartBelow ids facts retained group node
  part_below group done node taken =
      let place = taken.place in
      let part = (marked.exact place taken.within).0 taken.takes.0 in
      let own = part_head place taken.some taken.within part in
      let below = by_place.below_over ids facts retained tree heads are place (taken.some, taken.within) own in
      let node_is : node_of retained place ≡ Some node = places.node_of_some retained place taken.some ∙ ap Some taken.node_is in (
        subst (IsBelow ids facts (node_of retained group)) taken.node_is
            (subst (λ (g : ℕ). IsBelow ids facts (node_of retained g) (node_at retained place)) taken.takes.1 below),
        subst (IsPart ids facts (retained_in retained) (total_of retained)) node_is part,
      )

  below_part : (group node : ℕ) → group < count_of retained → IsPartBelow ids facts retained group node
      → IsTakenTo retained (TakesPart group) (count_of retained) node
  below_part group node low is =
      let at = sums.at_below ids facts retained tree heads are group node low is.0 in
      let node_is : node_of retained at.place ≡ Some node = places.node_of_some retained at.place at.is.0 ∙ ap Some at.node_is in
      record {
        place = at.place;
        some = at.is.0;
        within = at.is.1;
        before = at.is.1;
        takes = (
          (marked.exact at.place at.is.1).1 (subst (IsPart ids facts (retained_in retained) (total_of retained)) (sym node_is) is.1),
          at.group_is,
        );
        node_is = at.node_is;
      }

  -- ---- the sums of the places so far

  abbrev ArePartSumsTo : List ℕ → ℕ → Type 0
  ArePartSumsTo sums done = AreBelowTo ids facts retained heads parts sums done

  pub pieces_begin : (sums : List ℕ) → sums ≡ replicate (count_of retained) 0 → ArePartSumsTo sums 1
  pieces_begin sums zeros = record {
    as_many = ap length zeros ∙ length-replicate (count_of retained) 0;
    each = λ group low.
        let none = ap (λ l. slice_index l group) zeros ∙ get_or-replicate (count_of retained) group 0 0 low in (
          0,
          subst (λ (b : ℕ). Adds ids facts retained (IsTakenTo retained (TakesPart group) 1) b 0) (sym none)
              (sum_begin ids facts retained (TakesPart group)),
        );
  }

  pub pieces_same : (sums : List ℕ) (done : ℕ) → ¬ (IsMarked parts done) → ArePartSumsTo sums done → ArePartSumsTo sums (done + 1)
  pieces_same sums done none so = record {
    as_many = so.as_many;
    each = λ group low.
        let was = so.each group low in
        (was.0, sum_same ids facts retained (TakesPart group) done (slice_index sums group) was.0 (λ takes. none takes.0) was.1);
  }

  module _ (part_sums : List ℕ) (done : ℕ) (some : 0 < done) (low : done < count_of retained) (part : IsMarked parts done)
      (so : ArePartSumsTo part_sums done) where
    abbrev group : ℕ
    group = over_in retained heads done

    abbrev new : ℕ
    new = slice_index part_sums group + (sum_at retained done).bytes

    pub group_low : group < count_of retained
    group_low = let less = by_place.over_less ids facts retained tree heads are done (some, low) in omega arith

    more : (count : ℕ) × Adds ids facts retained (IsTakenTo retained (TakesPart group) (done + 1))
        (slice_index part_sums group + (sum_at retained done).bytes) count
    more =
        let was = so.each group group_low in
        (was.0 + 1, sum_more ids facts retained (TakesPart group) tree done (slice_index part_sums group) was.0 some low (part, refl) was.1)

    pub pieces_fit : IsConsistent facts → slice_index part_sums group + (sum_at retained done).bytes ≤ (sum_at retained group).bytes
    pieces_fit agree =
        sums.below_fits ids facts retained tree heads are agree group group_low (IsTakenTo retained (TakesPart group) (done + 1))
        (slice_index part_sums group + (sum_at retained done).bytes) more.0 more.1
        (λ node taken. (part_below group (done + 1) node taken).0)

    pub pieces_more : ArePartSumsTo (slice_set part_sums group (slice_index part_sums group + (sum_at retained done).bytes)) (done + 1)
    pieces_more = record {
      as_many = length-set part_sums group new ∙ so.as_many;
      each = λ other other_low. elim (cases_eq other group) [
        | inl same ↦
            let put = ap (slice_index (slice_set part_sums group new)) same ∙ get_or-set_same part_sums group new 0
            (omega (arith, so.as_many)) in (
              more.0,
              subst (λ (b : ℕ). Adds ids facts retained (IsTakenTo retained (TakesPart other) (done + 1)) b more.0) (sym put)
                  (subst (λ (g : ℕ). Adds ids facts retained (IsTakenTo retained (TakesPart g) (done + 1)) new more.0) (sym same) more.1),
            )
        | inr apart ↦
            let keeps = get_or-set_other part_sums group other new 0 apart in
            let was = so.each other other_low in (
              was.0,
              subst (λ (b : ℕ). Adds ids facts retained (IsTakenTo retained (TakesPart other) (done + 1)) b was.0) (sym keeps)
                  (sum_same ids facts retained (TakesPart other) done (slice_index part_sums other) was.0 (λ takes. apart (sym takes.1))
                  was.1),
            )
      ];
    }

  pub pieces_end : (sums : List ℕ) (done : ℕ) → done ≡ count_of retained → ArePartSumsTo sums done → ArePartSums ids facts retained sums
  pieces_end sums done all so = record {
    as_many = so.as_many;
    each = λ group low.
        let was = so.each group low in (
          was.0,
          sum_alike ids facts retained (IsTakenTo retained (TakesPart group) done) (IsPartBelow ids facts retained group)
              (slice_index sums group) was.0 (λ node. (
                part_below group done node,
                λ is. subst (λ (d : ℕ). IsTakenTo retained (TakesPart group) d node) (sym all) (below_part group node low is),
              )) was.1,
        );
  }
