-- Rows, label by label, and that they are the rows of all labels.
use Rattle.std.proofs.Common.{◌≡◌, ◌<◌, ◌+◌, ◌++◌, ◌∙◌, ℕ, false, List, [], ◌∷◌, length, refl, sym, ap, subst, inl, inr, arith, slice_index}
use Rattle.std.specs.Prelude.{Contains}
use Rattle.std.specs.List.{IsDistinct}
use Rattle.std.specs.List.Sorted.{IsPermutation, IsStrictlySortedBy}
use Rattle.std.proofs.lemmas.Bool.{cases_eq, false_from_ne_true}
use Rattle.std.proofs.lemmas.List.Elements.{Contains-append_left, Contains-push, Contains-push_cases}
use Rattle.std.proofs.lemmas.List.Sorted.{Contains-permutation, IsPermutation-sym}
use Rattle.std.proofs.lemmas.Slice.Eq.{bytes_eq-Decides}
use Rattle.hprof_values.specs.declared.ids.IdSize.{IdSize}
use Rattle.hprof_items.specs.FactValue.{FactValue}
use Rattle.hprof_rows.specs.Conflict.{IsConsistent}
use Rattle.hprof_dominators.specs.Walks.{IsOn}
use Rattle.hprof_histogram.proofs.Joining.{all_from_in}
use Rattle.hprof_histogram.proofs.Members.{Contains-from_in, IsIn, all_in, in_from_Contains}
use Rattle.hprof_retained.specs.Tree.{IsTreeOf, place_of}
use Rattle.hprof_retained.specs.declared.retained.Retained.{Retained}
use Rattle.hprof_by_label.specs.LabelRows.{AreRows, IsHeldWith, IsRow, RowValue, row_cmp}
use Rattle.hprof_by_label.specs.Labels.{AreNodeLabels, label_at, label_count, label_text}
use Rattle.hprof_by_label.specs.NodeLabel.{IsNodeLabel}
use Rattle.hprof_by_label.specs.RowValues.{AreRowsTo, row_at, same_label}
use Rattle.hprof_by_label.specs.Sums.{AreOwnSums, AreRetainedSums}
use Rattle.hprof_by_label.specs.declared.node_labels.NodeLabels.{NodeLabels}
use Rattle.hprof_by_label.proofs.OneLabel.{one_node_label}

-- one more that differs from all
distinct_more : (xs : List RowValue) (y : RowValue) → IsDistinct same_label xs → ((x : RowValue) → IsIn x xs → same_label x y ≡ false)
    → IsDistinct same_label (xs ++ y ∷ [])
unfolding IsDistinct
distinct_more [] y apart each = (tt, tt)
distinct_more (x ∷ xs) y apart each = (
  all_from_in (λ z. same_label x z ≡ false) (xs ++ y ∷ []) (λ z on. elim (Contains-push_cases xs y z (Contains-from_in
      (xs ++ y ∷ []) z on)) [
        | inl before ↦ all_in (λ w. same_label x w ≡ false) xs z apart.0 (in_from_Contains xs z before)
        | inr last ↦ subst (λ w. same_label x w ≡ false) last (each x (inl refl))
      ]),
  distinct_more xs y apart.1 (λ z on. each z (inr on)),
)

nothing_distinct : IsDistinct same_label []
unfolding IsDistinct
nothing_distinct = tt

module _ (labels : NodeLabels) (bytes counts retained : List ℕ) where
  abbrev row : ℕ → RowValue
  row number = row_at labels bytes counts retained number

  pub rows_begin : AreRowsTo labels bytes counts retained 0 []
  rows_begin = record {
    right = λ row has. absurd (in_from_Contains [] row has);
    all = λ number low some. absurd (omega arith);
    apart = nothing_distinct;
  }

  module _ (done : ℕ) (rows : List RowValue) (so : AreRowsTo labels bytes counts retained done rows) where
    pub rows_skipped : slice_index counts done ≡ 0 → AreRowsTo labels bytes counts retained (done + 1) rows
    rows_skipped none = record {
      right = λ row has. let at = so.right row has in let low = at.1 in (at.0, omega arith, at.2, at.3);
      all = λ number low some. elim (cases_eq number done) [
        | inl same ↦ let here = ap (slice_index counts) same in absurd (omega arith)
        | inr other ↦ so.all number (omega arith) some
      ];
      apart = so.apart;
    }

    pub rows_added : ((one other : ℕ) → one < label_count labels → other < label_count labels
        → label_text labels one ≡ label_text labels other
        → one ≡ other) → done < label_count labels → 0 < slice_index counts done
        → AreRowsTo labels bytes counts retained (done + 1) (rows ++ row_at labels bytes counts retained done ∷ [])
    rows_added apart below some_here = record {
      right = λ one has. elim (Contains-push_cases rows (row done) one has) [
        | inl before ↦ let at = so.right one before in let low = at.1 in (at.0, omega arith, at.2, at.3)
        | inr last ↦ (done, omega arith, some_here, sym last)
      ];
      all = λ number low some. elim (cases_eq number done) [
        | inl same ↦ subst (λ n. Contains (rows ++ row done ∷ []) (row n)) (sym same) (Contains-push rows (row done))
        | inr other ↦ Contains-append_left rows (row done ∷ []) (row number) (so.all number (omega arith) some)
      ];
      apart = distinct_more rows (row done) so.apart (λ one on.
          let at = so.right one (Contains-from_in rows one on) in
          let low = at.1 in
          false_from_ne_true (same_label one (row done)) (λ same.
          let texts = sym (ap (λ (r : RowValue). r.label) at.3) ∙ (bytes_eq-Decides one.label (label_text labels done)).0 same in
          let numbers = apart at.0 done (omega arith) below texts in
          omega arith));
    }

  module _ (ids : IdSize) (facts : List FactValue) (agree : IsConsistent facts) (tree : Retained) (tree_is : IsTreeOf ids facts tree)
      (are : AreNodeLabels facts tree labels) (own : AreOwnSums ids facts labels bytes counts)
      (kept : AreRetainedSums ids facts labels retained) where
    -- the first of some
    first_of_some : (nodes : List ℕ) → 0 < length nodes → (node : ℕ) × IsOn node nodes
    first_of_some [] some = absurd (omega arith)
    first_of_some (node ∷ nodes) some = (node, inl refl)

    not_none : (node : ℕ) (nodes : List ℕ) → IsOn node nodes → 0 < length nodes
    not_none node [] on = absurd on
    not_none node (first ∷ nodes) on = omega arith

    row_right : (number : ℕ) → number < label_count labels → 0 < slice_index counts number
        → IsRow ids facts (row_at labels bytes counts retained number)
    row_right number low some =
        let sum = own.own number low in
        let many = sum.1.is in
        let node = first_of_some sum.1.nodes (omega arith) in
        record { some = (node.0, (sum.1.exact node.0).0 node.1); own = sum; retained = kept.retained number low }

    row_there : (label : List ℕ) (node : ℕ) → IsHeldWith ids facts label node → (number : ℕ) × (number < label_count labels)
        × (0 < slice_index counts number) × (label_text labels number ≡ label)
    row_there label node with_it =
        let found = tree_is.found node with_it.0 in
        let place = place_of tree node in
        let number = label_at labels place in
        let within = are.within place found.0 found.1 in
        let right = subst (λ n. IsNodeLabel facts n (label_text labels number)) found.2 (are.right place found.0 found.1) in
        let text = one_node_label facts agree node (label_text labels number) label right with_it.1 in
        let sum = own.own number within in
        let some = not_none node sum.1.nodes ((sum.1.exact node).1 (with_it.0, right)) in
        let many = sum.1.is in
        (number, within, omega arith, text)

    pub are_rows : (before after : List RowValue) → AreRowsTo labels bytes counts retained (label_count labels) before
        → IsPermutation before after → IsStrictlySortedBy row_cmp after → AreRows ids facts after
    are_rows before after so same sorted = record {
      ordered = sorted;
      right = λ one has.
          let at = so.right one (Contains-permutation after before one (IsPermutation-sym before after same) has) in
          subst (IsRow ids facts) (sym at.3) (row_right at.0 at.1 at.2);
      all = λ label node with_it.
          let there = row_there label node with_it in (
            row there.0,
            Contains-permutation before after (row there.0) same (so.all there.0 there.1 there.2),
            there.3,
          );
    }
