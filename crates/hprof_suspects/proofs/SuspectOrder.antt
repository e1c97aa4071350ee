-- Suspects in order.
use Rattle.std.specs.Prelude.{Contains, map}
use Rattle.std.proofs.Common.{◌≡◌, ◌<◌, ◌≤◌, ◌==◌, ◌∙◌, ℕ, zero, suc, Bool, true, List, Option, Some, get_or, refl, sym, ap, subst, arith}
use Rattle.std.proofs.Common.{slice_index}
use Rattle.std.specs.Cmp.{IsTotalOrder}
use Rattle.std.specs.List.{All, IsDistinct}
use Rattle.std.specs.List.Sorted.{IsPermutation, IsSorted, IsStrictlySortedBy}
use Rattle.std.specs.Ordering.{nat_cmp, ordering_then}
use Rattle.std.specs.declared.cmp.Ordering.TheVariants.{Equal}
use Rattle.std.proofs.lemmas.Bool.{ne_eqb}
use Rattle.std.proofs.lemmas.Cmp.{back_total, nat_cmp_total, nat_eq_equiv, on_total, then_total}
use Rattle.std.proofs.lemmas.List.{get_or_default}
use Rattle.std.proofs.lemmas.List.Elements.{All-from_recursion}
use Rattle.std.proofs.lemmas.List.Sorted.{Contains-permutation, IsPermutation-sym}
use Rattle.std.proofs.lemmas.Map.Keys.{IsDistinct-IsPermutation, IsDistinct-from_apart}
use Rattle.hprof_values.specs.declared.ids.IdSize.{IdSize}
use Rattle.hprof_items.specs.FactValue.{FactValue}
use Rattle.hprof_histogram.proofs.Joining.{all_from_in}
use Rattle.hprof_histogram.proofs.Members.{Contains-from_in, IsIn, in_from_Contains, in_map}
use Rattle.hprof_histogram.proofs.RowOrder.{then_tied, tied_numbers}
use Rattle.hprof_keeps.specs.Order.{node_of, retained_in}
use Rattle.hprof_keeps.proofs.Places as places
use Rattle.hprof_rows.specs.Conflict.{IsConsistent}
use Rattle.hprof_by_label.proofs.Joined.{bytes_within}
use Rattle.hprof_retained.proofs.NodeLists.{held_dumped}
use Rattle.hprof_retained.specs.Retained.{Dominates, IsHeld}
use Rattle.hprof_retained.specs.Tree.{IsTreeOf, count_of, node_at, place_of, sum_at, total_of}
use Rattle.hprof_retained.specs.declared.retained.Retained.{Retained}
use Rattle.hprof_retained.proofs.OneSums.{same_sum_by}
use Rattle.hprof_suspects.specs.Parts.{AddUp, IsPart, IsSuspect, Large, Roots}
use Rattle.hprof_suspects.specs.PartPlaces.{AreParts}
use Rattle.hprof_suspects.specs.Pieces.{ArePartSums, IsPartBelow}
use Rattle.hprof_suspects.specs.SuspectPlaces.{AreSuspectsTo, IsSuspectAt, IsWithin, suspect_of, suspect_place_cmp}
use Rattle.hprof_suspects.specs.SuspectsText.{AreSuspects, Suspect, id_of, suspect_cmp}
use Rattle.hprof_suspects.specs.declared.suspects.SuspectPlace.{SuspectPlace}
use Rattle.hprof_suspects.proofs.NodeSome.{held_is_node}
use Rattle.hprof_suspects.proofs.PartSums.{bytes_at}
use Rattle.hprof_suspects.proofs.NodeGroups.{below_head}
use Rattle.hprof_suspects.proofs.SortedLists.{all_rise, images_rise, map_back}

pub suspects_total : IsTotalOrder suspect_place_cmp
suspects_total =
    then_total (back_total (on_total (λ (suspect : SuspectPlace). suspect.pieces) nat_cmp_total))
    (on_total (λ (suspect : SuspectPlace). suspect.node) nat_cmp_total)

abbrev same_node : SuspectPlace → SuspectPlace → Bool
same_node one other = one.node == other.node

tied : (one other : SuspectPlace) → suspect_place_cmp one other ≡ Equal → same_node one other ≡ true
tied one other e = tied_numbers one.node other.node (then_tied (nat_cmp other.pieces one.pieces) (nat_cmp one.node other.node) e)

-- ---- whatever the facts are

module _ (retained : Retained) (parts : List Bool) (sums : List ℕ) (before after : List SuspectPlace)
    (are : AreSuspectsTo retained parts sums (count_of retained) before) (same : IsPermutation before after) where
  pub suspect_each : (suspect : SuspectPlace) → IsIn suspect after → IsSuspectAt retained parts sums (count_of retained) suspect
  suspect_each suspect on =
      (are.exact suspect).0 (Contains-permutation after before suspect (IsPermutation-sym before after same)
      (Contains-from_in after suspect on))

  pub all_low : All (λ suspect. suspect.place < count_of retained) after
  all_low =
      let IsLow : SuspectPlace → Type 0 = λ suspect. suspect.place < count_of retained in
      All-from_recursion IsLow after (all_from_in IsLow after (λ suspect on. (suspect_each suspect on).before))

-- ---- of a tree of facts

module _ (ids : IdSize) (facts : List FactValue) (retained : Retained) (tree : IsTreeOf ids facts retained) where
  -- what a place retains is not more than all
  bytes_low : IsConsistent facts → (place : ℕ) → place < count_of retained → (sum_at retained place).bytes ≤ (sum_at retained 0).bytes
  bytes_low agree zero low = omega arith
  bytes_low agree (suc place) low =
      bytes_within ids facts agree (Dominates ids facts (node_at retained (suc place))) (IsHeld ids facts)
      (sum_at retained (suc place)).bytes
      (sum_at retained 0).bytes (held_dumped ids facts agree) (λ x dominates. dominates.reached) (tree.sums (suc place) (omega arith) low).0
      tree.total.0

  -- places have different identifiers
  pub one_id : (one other : ℕ) → one < other → other < count_of retained → id_of (node_of retained one) ≡ id_of (node_of retained other) → ⊥
  one_id zero other less low same =
      let some = ap id_of (places.node_of_some retained other (omega arith)) in
      (held_is_node ids facts (node_at retained other) (tree.held other (omega arith) low).0).0 (sym (same ∙ some))
  one_id (suc one) other less low same =
      let first = ap id_of (places.node_of_some retained (suc one) (omega arith)) in
      let second = ap id_of (places.node_of_some retained other (omega arith)) in
      let equal = places.one_place ids facts retained tree (suc one) other (omega arith, omega arith) (omega arith, low)
      (sym first ∙ same ∙ second) in
      absurd (omega arith)

  -- a part has a place
  pub part_place : 0 < count_of retained → (part : Option ℕ) → IsPart ids facts (retained_in retained) (total_of retained) part
      → (place : ℕ) × (place < count_of retained) × (node_of retained place ≡ part)
  part_place some _ Roots = (0, some, refl)
  part_place some _ (Large above node is_part below large singled) =
      let found = tree.found node (below_head ids facts above node below).held in
      (place_of retained node, found.1, places.node_of_some retained (place_of retained node) found.0 ∙ ap Some found.2)

  pub one_add : (Holds : ℕ → Type 0) (one other count other_count : ℕ)
      → AddUp ids facts (retained_in retained) (total_of retained) Holds one count
      → AddUp ids facts (retained_in retained) (total_of retained) Holds other other_count → one ≡ other
  one_add Holds one other count other_count is too =
      is.bytes_are
      ∙ same_sum_by (λ node. (retained_in retained node).bytes) Holds is.nodes too.nodes is.once too.once is.exact too.exact ∙ sym
      too.bytes_are

  -- sorted, they are still within
  pub all_within : IsConsistent facts → (parts : List Bool) (sums : List ℕ) (before after : List SuspectPlace)
      → AreSuspectsTo retained parts sums (count_of retained) before → IsPermutation before after → All (IsWithin retained) after
  all_within agree parts sums before after are same =
      All-from_recursion (IsWithin retained) after
      (all_from_in (IsWithin retained) after (λ suspect on.
      let is = suspect_each retained parts sums before after are same suspect on in
      let most = bytes_low agree suspect.place is.before in
      let all = is.pieces in
      (is.before, omega arith)))

  module _ (parts : List Bool) (marked : AreParts ids facts retained parts) (sums : List ℕ) (below : ArePartSums ids facts retained sums)
    where
      is_suspect : (suspect : SuspectPlace) → IsSuspectAt retained parts sums (count_of retained) suspect
          → IsSuspect ids facts (retained_in retained) (total_of retained) (node_of retained suspect.place) suspect.pieces
      is_suspect suspect is =
          let adds = below.each suspect.place is.before in
          record {
            is_part = (marked.exact suspect.place is.before).0 is.part;
            has_pieces = record {
              below = slice_index sums suspect.place;
              count = adds.0;
              are_below = adds.1;
              is = is.pieces ∙ bytes_at ids facts retained tree suspect.place is.before;
            };
            enough = is.enough;
          }

      suspect_at : (place pieces : ℕ) → place < count_of retained
          → IsSuspect ids facts (retained_in retained) (total_of retained) (node_of retained place) pieces
          → IsSuspectAt retained parts sums (count_of retained)
          (record { place = place; node = id_of (node_of retained place); pieces = pieces })
      suspect_at place pieces low is =
          let adds = below.each place low in
          let one = one_add (IsPartBelow ids facts retained place) is.has_pieces.below (slice_index sums place) is.has_pieces.count adds.0
          is.has_pieces.are_below adds.1 in
          let own = bytes_at ids facts retained tree place low in
          let all = is.has_pieces.is in
          record {
            before = low;
            part = (marked.exact place low).1 is.is_part;
            pieces = omega arith;
            enough = is.enough;
            node = refl;
          }

      -- all of them in order
      pub listed_suspects : 0 < count_of retained → (suspects : List SuspectPlace)
          → ((suspect : SuspectPlace) → IsIn suspect suspects → IsSuspectAt retained parts sums (count_of retained) suspect)
          → ((suspect : SuspectPlace) → IsSuspectAt retained parts sums (count_of retained) suspect → IsIn suspect suspects)
          → IsStrictlySortedBy suspect_place_cmp suspects
          → AreSuspects ids facts (retained_in retained) (total_of retained) (map (suspect_of retained) suspects)
      listed_suspects some suspects each keeps rise = record {
        ordered = images_rise (suspect_of retained) suspect_place_cmp suspect_cmp suspects
            (λ one other on on_too.
            let node = (each one on).node in
            let other_node = (each other on_too).node in
            λ i. ordering_then (nat_cmp other.pieces one.pieces) (nat_cmp (node i) (other_node i))) rise;
        right = λ suspect has.
            let back = map_back (suspect_of retained) suspects suspect
            (in_from_Contains (map (suspect_of retained) suspects) suspect has) in
            subst (λ (s : Suspect). IsSuspect ids facts (retained_in retained) (total_of retained) s.part s.pieces) back.2
            (is_suspect back.0 (each back.0 back.1));
        all = λ part pieces is.
            let at = part_place some part is.is_part in
            let P : Option ℕ → Type 0 = λ p. IsSuspect ids facts (retained_in retained) (total_of retained) p pieces in
            let new : SuspectPlace = record { place = at.0; node = id_of (node_of retained at.0); pieces = pieces } in
            let there = in_map (suspect_of retained) suspects new (keeps new (suspect_at at.0 pieces at.1 (subst P (sym at.2) is))) in
            subst (λ (p : Option ℕ). Contains (map (suspect_of retained) suspects) (record { part = p; pieces = pieces })) at.2
            (Contains-from_in (map (suspect_of retained) suspects) (suspect_of retained new) there);
      }

      -- ---- sorted

      module _ (before after : List SuspectPlace) (are : AreSuspectsTo retained parts sums (count_of retained) before)
          (same : IsPermutation before after) where
        apart : IsDistinct same_node before
        apart = IsDistinct-from_apart same_node before (λ i j d less low.
            let one = get_or before i d in
            let other = get_or before j d in
            let one_there = (are.exact one).0 (i, omega arith, get_or_default before i one d (omega arith)) in
            let other_there = (are.exact other).0 (j, low, get_or_default before j other d low) in
            ne_eqb one.node other.node (λ nodes.
            one_id one.place other.place (are.ascend i j d less low) other_there.before (sym one_there.node ∙ nodes ∙ other_there.node)))

        -- sorted, they are the suspects
        pub are_suspects : 0 < count_of retained → IsSorted suspect_place_cmp after
            → AreSuspects ids facts (retained_in retained) (total_of retained) (map (suspect_of retained) after)
        are_suspects some sorted =
            listed_suspects some after (λ suspect on. suspect_each retained parts sums before after are same suspect on)
            (λ suspect is. in_from_Contains after suspect (Contains-permutation before after suspect same ((are.exact suspect).1 is)))
            (all_rise suspect_place_cmp suspects_total same_node tied after sorted
            (IsDistinct-IsPermutation same_node (λ one other. nat_eq_equiv.symm _ _) before after same apart))
