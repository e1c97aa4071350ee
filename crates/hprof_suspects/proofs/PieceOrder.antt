-- The lines of a part in order.
use Rattle.std.specs.Prelude.{Contains, map}
use Rattle.std.proofs.Common.{◌≡◌, ◌≢◌, ◌<◌, ◌≤◌, ◌+◌, ◌*◌, ◌++◌, ◌∙◌, ℕ, Bool, true, false, List, [], ◌∷◌, get_or, length, refl, sym, ap}
use Rattle.std.proofs.Common.{subst, inl, inr, arith, slice_index}
use Rattle.std.specs.Cmp.{IsTotalOrder}
use Rattle.std.specs.Cmp.Lexicographic.{slice_cmp}
use Rattle.std.specs.List.{All, IsDistinct}
use Rattle.std.specs.List.Sorted.{IsPermutation, IsSorted}
use Rattle.std.specs.Ordering.{is_eq, nat_cmp, ordering_then}
use Rattle.std.specs.Str.{bytes_eq}
use Rattle.std.specs.declared.cmp.Ordering.TheVariants.{Equal}
use Rattle.std.proofs.lemmas.Bool.{cases_eq}
use Rattle.std.proofs.lemmas.Cmp.{back_total, nat_cmp_total, nat_list_cmp_total, nat_list_eq_equiv, on_total, then_total}
use Rattle.std.proofs.lemmas.List.{get_or_default}
use Rattle.std.proofs.lemmas.List.Elements.{All-from_recursion, Contains-append_cases, Contains-append_left, Contains-append_right}
use Rattle.std.proofs.lemmas.List.Quantifiers.{all_pairs_push}
use Rattle.std.proofs.lemmas.List.Sorted.{Contains-permutation, IsPermutation-sym}
use Rattle.std.proofs.lemmas.Map.Keys.{IsDistinct-IsPermutation, IsDistinct-from_apart}
use Rattle.std.proofs.lemmas.Map.Text.{is_eq-slice_cmp}
use Rattle.std.proofs.lemmas.Slice.Eq.{bytes_eq-Decides}
use Rattle.hprof_values.specs.declared.ids.IdSize.{IdSize}
use Rattle.hprof_items.specs.FactValue.{FactValue}
use Rattle.hprof_rows.specs.Conflict.{IsConsistent}
use Rattle.hprof_dominators.specs.Walks.{IsOn}
use Rattle.hprof_histogram.proofs.Joining.{all_from_in}
use Rattle.hprof_histogram.proofs.Members.{Contains-from_in, IsIn, in_from_Contains, in_map}
use Rattle.hprof_histogram.proofs.RowOrder.{then_tied}
use Rattle.hprof_keeps.specs.Order.{node_of, retained_in}
use Rattle.hprof_retained.specs.Tree.{IsTreeOf, place_of, total_of}
use Rattle.hprof_retained.specs.declared.retained.Retained.{Retained}
use Rattle.hprof_retained.proofs.OneSums.{one_count}
use Rattle.hprof_by_label.specs.Labels.{AreNodeLabels, label_at, label_count, label_text}
use Rattle.hprof_by_label.specs.NodeLabel.{IsNodeLabel}
use Rattle.hprof_by_label.specs.declared.node_labels.NodeLabels.{NodeLabels}
use Rattle.hprof_suspects.specs.LabelSums.{AreLabelSums, AreLinesTo, IsLineTo, line_cmp, sum_of}
use Rattle.hprof_suspects.specs.Parts.{AddUp, IsPiece, IsPieceSum, PieceSum}
use Rattle.hprof_suspects.specs.SuspectsText.{ArePieceSums, piece_cmp}
use Rattle.hprof_suspects.specs.declared.piece_lines.PieceLine.{PieceLine}
use Rattle.hprof_suspects.proofs.NodeGroups.{below_head}
use Rattle.hprof_suspects.proofs.PlaceLabels.{label_is}
use Rattle.hprof_suspects.proofs.SortedLists.{all_rise, images_rise, map_back}
use Rattle.hprof_suspects.proofs.SuspectOrder.{one_add}

-- ---- label by label

module _ (bytes counts : List ℕ) (pieces : ℕ) where
  pub lines_begin : AreLinesTo bytes counts pieces 0 []
  lines_begin = record {
    ascend = λ i j d less low. absurd (omega arith);
    exact = λ line. (λ has. absurd (in_from_Contains [] line has), λ is. let before = is.before in absurd (omega arith));
  }

  module _ (done : ℕ) (lines : List PieceLine) (so : AreLinesTo bytes counts pieces done lines) where
    later : (line : PieceLine) → IsLineTo bytes counts pieces done line → IsLineTo bytes counts pieces (done + 1) line
    later line is = record {
      before = let before = is.before in omega arith;
      bytes_are = is.bytes_are;
      count_is = is.count_is;
      some = is.some;
      enough = is.enough;
    }

    earlier : (line : PieceLine) → IsLineTo bytes counts pieces (done + 1) line → line.label ≢ done → IsLineTo bytes counts pieces done line
    earlier line is apart = record {
      before = let before = is.before in omega arith;
      bytes_are = is.bytes_are;
      count_is = is.count_is;
      some = is.some;
      enough = is.enough;
    }

    -- the label has no line
    pub lines_same : ((line : PieceLine) → IsLineTo bytes counts pieces (done + 1) line → line.label ≢ done)
        → AreLinesTo bytes counts pieces (done + 1) lines
    lines_same none = record {
      ascend = so.ascend;
      exact = λ line. (
        λ has. later line ((so.exact line).0 has),
        λ is. (so.exact line).1 (earlier line is (none line is)),
      );
    }

    pub no_pieces : slice_index counts done ≡ 0 → AreLinesTo bytes counts pieces (done + 1) lines
    no_pieces none = lines_same (λ line is same. is.some (is.count_is ∙ ap (slice_index counts) same ∙ none))

    pub too_small : ¬ (pieces ≤ 10 * slice_index bytes done) → AreLinesTo bytes counts pieces (done + 1) lines
    too_small small = lines_same (λ line is same.
        small (subst (λ (n : ℕ). pieces ≤ 10 * n) (is.bytes_are ∙ ap (slice_index bytes) same) is.enough))

    pub line_more : (new : PieceLine) → new.label ≡ done → IsLineTo bytes counts pieces (done + 1) new
        → AreLinesTo bytes counts pieces (done + 1) (lines ++ new ∷ [])
    line_more new at is = record {
      ascend = all_pairs_push (λ one other. one.label < other.label) lines new so.ascend (λ k d low.
          let one = get_or lines k d in
          let before = ((so.exact one).0 (k, low, get_or_default lines k one d low)).before in
          omega arith);
      exact = λ line. (
        λ has. elim (Contains-append_cases lines (new ∷ []) line has) [
          | inl old ↦ later line ((so.exact line).0 old)
          | inr last ↦ elim (in_from_Contains (new ∷ []) line last) [
            | inl same ↦ subst (IsLineTo bytes counts pieces (done + 1)) (sym same) is
            | inr never ↦ absurd never
          ]
        ],
        λ other. elim (cases_eq line.label done) [
          | inl same ↦
              Contains-append_right lines (new ∷ []) line
              (Contains-from_in (new ∷ []) line (inl (same_line line new (same ∙ sym at) other is)))
          | inr apart ↦ Contains-append_left lines (new ∷ []) line ((so.exact line).1 (earlier line other apart))
        ],
      );
    } where
      same_line : (one other : PieceLine) → one.label ≡ other.label → IsLineTo bytes counts pieces (done + 1) one
          → IsLineTo bytes counts pieces (done + 1) other → one ≡ other
      same_line one other label is too =
          let own = is.bytes_are ∙ ap (slice_index bytes) label ∙ sym too.bytes_are in
          let count = is.count_is ∙ ap (slice_index counts) label ∙ sym too.count_is in
          λ i. record { label = label i; bytes = own i; count = count i }

-- ---- the order

module _ (labels : NodeLabels) where
  pub lines_total : IsTotalOrder (line_cmp labels)
  lines_total =
      then_total (back_total (on_total (λ (line : PieceLine). line.bytes) nat_cmp_total))
      (then_total (back_total (on_total (λ (line : PieceLine). line.count) nat_cmp_total))
      (on_total (λ (line : PieceLine). label_text labels line.label) nat_list_cmp_total))

  abbrev same_text : PieceLine → PieceLine → Bool
  same_text one other = bytes_eq (label_text labels one.label) (label_text labels other.label)

  tied : (one other : PieceLine) → line_cmp labels one other ≡ Equal → same_text one other ≡ true
  tied one other e =
      let texts = slice_cmp nat_cmp (label_text labels one.label) (label_text labels other.label) in
      let last = then_tied (nat_cmp other.count one.count) texts
      (then_tied (nat_cmp other.bytes one.bytes) (ordering_then (nat_cmp other.count one.count) texts) e) in
      sym (is_eq-slice_cmp (label_text labels one.label) (label_text labels other.label)) ∙ ap is_eq last

not_true : (b : Bool) → ¬ (b ≡ true) → b ≡ false
not_true true none = absurd (none refl)
not_true false none = refl

module _ (ids : IdSize) (facts : List FactValue) (agree : IsConsistent facts) (retained : Retained) (tree : IsTreeOf ids facts retained)
    (labels : NodeLabels) (labelled : AreNodeLabels facts retained labels) (part : ℕ) (bytes counts : List ℕ)
    (sums : AreLabelSums ids facts retained labels part bytes counts) (pieces : ℕ) (before after : List PieceLine)
    (are : AreLinesTo bytes counts pieces (label_count labels) before) (same : IsPermutation before after) where
  abbrev Piece : List ℕ → ℕ → Type 0
  Piece label node = IsPiece ids facts (retained_in retained) (total_of retained) (node_of retained part) label node

  abbrev Sums : PieceSum → Type 0
  Sums sum = IsPieceSum ids facts (retained_in retained) (total_of retained) (node_of retained part) sum

  line_each : (line : PieceLine) → IsIn line after → IsLineTo bytes counts pieces (label_count labels) line
  line_each line on =
      (are.exact line).0 (Contains-permutation after before line (IsPermutation-sym before after same) (Contains-from_in after line on))

  pub all_labels : All (λ line. line.label < label_count labels) after
  all_labels =
      All-from_recursion (λ line. line.label < label_count labels) after
      (all_from_in (λ line. line.label < label_count labels) after (λ line on. (line_each line on).before))

  apart : IsDistinct (same_text labels) before
  apart = IsDistinct-from_apart (same_text labels) before (λ i j d less low.
      let one = get_or before i d in
      let other = get_or before j d in
      let one_there = (are.exact one).0 (i, omega arith, get_or_default before i one d (omega arith)) in
      let other_there = (are.exact other).0 (j, low, get_or_default before j other d low) in
      let rises = are.ascend i j d less low in
      not_true (same_text labels one other) (λ yes.
      let text = (bytes_eq-Decides (label_text labels one.label) (label_text labels other.label)).0 yes in
      let number = labelled.apart one.label other.label one_there.before other_there.before text in
      absurd (omega arith)))

  is_sum : (line : PieceLine) → IsLineTo bytes counts pieces (label_count labels) line
      → Sums (sum_of labels line) × (pieces ≤ 10 * line.bytes)
  is_sum line is =
      let Adds : ℕ → ℕ → Type 0 =
      AddUp ids facts (retained_in retained) (total_of retained) (Piece (label_text labels line.label)) in
      let adds = sums.each line.label is.before in (
        record {
          some = is.some;
          add_up = subst (λ (b : ℕ). Adds b line.count) (sym is.bytes_are)
              (subst (λ (n : ℕ). Adds (slice_index bytes line.label) n) (sym is.count_is) adds);
        },
        is.enough,
      )

  -- the number of the label of a sum
  sum_label : (sum : PieceSum) → Sums sum → (label : ℕ) × (label < label_count labels) × (label_text labels label ≡ sum.label)
  sum_label sum is = go is.add_up.nodes (λ node on. (is.add_up.exact node).0 on) is.add_up.count_is where
    go : (nodes : List ℕ) → ((node : ℕ) → IsOn node nodes → Piece sum.label node) → sum.count ≡ length nodes
        → (label : ℕ) × (label < label_count labels) × (label_text labels label ≡ sum.label)
    go [] each none = absurd (is.some none)
    go (node ∷ nodes) each many =
        let piece = each node (inl refl) in
        let found = tree.found node (below_head ids facts (node_of retained part) node piece.0).held in
        let place = place_of retained node in (
          label_at labels place,
          labelled.within place found.0 found.1,
          label_is facts agree retained labels labelled place found.0 found.1 sum.label
              (subst (λ (n : ℕ). IsNodeLabel facts n sum.label) (sym found.2) piece.2),
        )

  line_of : (sum : PieceSum) → Sums sum → pieces ≤ 10 * sum.bytes
      → (line : PieceLine) × IsLineTo bytes counts pieces (label_count labels) line × (sum_of labels line ≡ sum)
  line_of sum is enough =
      let at = sum_label sum is in
      let adds = sums.each at.0 at.1 in
      let add_up = subst (λ (l : List ℕ). AddUp ids facts (retained_in retained) (total_of retained) (Piece l) (slice_index bytes at.0)
      (slice_index counts at.0)) at.2 adds in
      let own = one_add ids facts retained tree (Piece sum.label) sum.bytes (slice_index bytes at.0) sum.count (slice_index counts at.0)
      is.add_up add_up in
      let count = one_count (Piece sum.label) sum.count (slice_index counts at.0)
      (record { nodes = is.add_up.nodes; once = is.add_up.once; exact = is.add_up.exact; is = is.add_up.count_is })
      (record { nodes = add_up.nodes; once = add_up.once; exact = add_up.exact; is = add_up.count_is }) in (
        record { label = at.0; bytes = sum.bytes; count = sum.count },
        record { before = at.1; bytes_are = own; count_is = count; some = is.some; enough = enough },
        λ i. record { label = at.2 i; bytes = sum.bytes; count = sum.count },
      )

  pub are_piece_sums : IsSorted (line_cmp labels) after
      → ArePieceSums ids facts (retained_in retained) (total_of retained) (node_of retained part) pieces (map (sum_of labels) after)
  are_piece_sums sorted = record {
    ordered = images_rise (sum_of labels) (line_cmp labels) piece_cmp after (λ one other on on_too. refl)
        (all_rise (line_cmp labels) (lines_total labels) (same_text labels) (tied labels) after sorted
        (IsDistinct-IsPermutation (same_text labels) (λ one other. nat_list_eq_equiv.symm (label_text labels one.label)
        (label_text labels other.label)) before after same apart));
    right = λ sum has.
        let back = map_back (sum_of labels) after sum (in_from_Contains (map (sum_of labels) after) sum has) in
        subst (λ (s : PieceSum). Sums s × (pieces ≤ 10 * s.bytes)) back.2 (is_sum back.0 (line_each back.0 back.1));
    all = λ sum is enough.
        let line = line_of sum is enough in
        let on = Contains-permutation before after line.0 same ((are.exact line.0).1 line.1) in
        let there = in_map (sum_of labels) after line.0 (in_from_Contains after line.0 on) in
        subst (Contains (map (sum_of labels) after)) line.2 (Contains-from_in (map (sum_of labels) after) (sum_of labels line.0) there);
  }
