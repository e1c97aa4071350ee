-- The pieces of a part by the numbers of their labels, place by place.
use Rattle.std.proofs.Common.{◌≡◌, ◌<◌, ◌≤◌, ◌+◌, ◌∙◌, ℕ, Bool, List, Some, length, replicate, refl, sym, ap, subst, subst₂, inl, inr}
use Rattle.std.proofs.Common.{arith, slice_index, slice_set, get_or-set_other, get_or-set_same}
use Rattle.std.proofs.lemmas.Bool.{cases_eq}
use Rattle.std.proofs.lemmas.List.{get_or-replicate, length-replicate}
use Rattle.std.proofs.Math.ListN.{length-set}
use Rattle.hprof_values.specs.declared.ids.IdSize.{IdSize}
use Rattle.hprof_items.specs.FactValue.{FactValue}
use Rattle.hprof_rows.specs.Conflict.{IsConsistent}
use Rattle.hprof_retained.specs.Tree.{IsTreeOf, count_of, node_at, sum_at, total_of}
use Rattle.hprof_retained.specs.declared.retained.Retained.{Retained}
use Rattle.hprof_keeps.specs.Order.{node_of, retained_in}
use Rattle.hprof_keeps.proofs.Places as places
use Rattle.hprof_by_label.specs.Labels.{AreNodeLabels, label_at, label_count, label_text}
use Rattle.hprof_by_label.specs.NodeLabel.{IsNodeLabel}
use Rattle.hprof_by_label.specs.declared.node_labels.NodeLabels.{NodeLabels}
use Rattle.hprof_suspects.specs.Groups.{IsBelow}
use Rattle.hprof_suspects.specs.Heads.{AreHeads}
use Rattle.hprof_suspects.specs.LabelSums.{AreLabelSums, IsPieceAt}
use Rattle.hprof_suspects.specs.Parts.{IsPart, IsPiece}
use Rattle.hprof_suspects.specs.PartPlaces.{AreParts}
use Rattle.hprof_suspects.proofs.HeadPlaces as by_place
use Rattle.hprof_suspects.proofs.PartSums as sums
use Rattle.hprof_suspects.proofs.PlaceLabels.{label_is}
use Rattle.hprof_suspects.proofs.SumsSoFar.{Adds, IsTakenTo, sum_alike, sum_begin, sum_more, sum_same}

-- a piece with the label
abbrev pub IsPieceWith : Retained → NodeLabels → List ℕ → List Bool → ℕ → ℕ → ℕ → Type 0
IsPieceWith retained labels heads parts part label place = IsPieceAt retained heads parts part place × (label_at labels place ≡ label)

-- of each label the sums over the pieces before a bound
pub record AreLabelSumsTo (ids : IdSize) (facts : List FactValue) (retained : Retained) (labels : NodeLabels) (heads : List ℕ)
    (parts : List Bool) (part : ℕ) (bytes counts : List ℕ) (done : ℕ) : Type 0 where
  pub as_many : length bytes ≡ label_count labels
  pub as_many_counts : length counts ≡ label_count labels
  pub few : (label : ℕ) → label < label_count labels → slice_index counts label < done
  pub each : (label : ℕ) → label < label_count labels
      → Adds ids facts retained (IsTakenTo retained (IsPieceWith retained labels heads parts part label) done) (slice_index bytes label)
      (slice_index counts label)

-- ---- counts, whatever the facts are

pub few_begin : (counts : List ℕ) (count : ℕ) → counts ≡ replicate count 0 → (label : ℕ) → label < count → slice_index counts label < 1
few_begin counts count zeros label low =
    let none = ap (λ l. slice_index l label) zeros ∙ get_or-replicate count label 0 0 low in omega arith

pub few_more : (counts : List ℕ) (label done : ℕ) → label < length counts
    → ((other : ℕ) → other < length counts → slice_index counts other < done) → (other : ℕ) → other < length counts
    → slice_index (slice_set counts label (slice_index counts label + 1)) other < done + 1
few_more counts label done low few other other_low = elim (cases_eq other label) [
  | inl same ↦
      let put = ap (slice_index (slice_set counts label (slice_index counts label + 1))) same
      ∙ get_or-set_same counts label (slice_index counts label + 1) 0 low in
      let own = few label low in
      omega arith
  | inr apart ↦
      let keeps = get_or-set_other counts label other (slice_index counts label + 1) 0 apart in let own = few other other_low in omega arith
]

-- ---- sums of facts

module _ (ids : IdSize) (facts : List FactValue) (agree : IsConsistent facts) (retained : Retained) (tree : IsTreeOf ids facts retained)
    (labels : NodeLabels) (labelled : AreNodeLabels facts retained labels) (heads : List ℕ) (are : AreHeads ids facts retained heads)
    (parts : List Bool) (marked : AreParts ids facts retained parts) (part : ℕ) (part_low : part < count_of retained) where
  abbrev Takes : ℕ → ℕ → Type 0
  Takes label place = IsPieceWith retained labels heads parts part label place

  abbrev Piece : ℕ → ℕ → Type 0
  Piece label node = IsPiece ids facts (retained_in retained) (total_of retained) (node_of retained part) (label_text labels label) node

  abbrev So : List ℕ → List ℕ → ℕ → Type 0
  So bytes counts done = AreLabelSumsTo ids facts retained labels heads parts part bytes counts done

  piece_there : (label done node : ℕ) → IsTakenTo retained (Takes label) done node → Piece label node
  piece_there label done node taken =
      let place = taken.place in
      let is = taken.takes.0 in
      let below = by_place.below_over ids facts retained tree heads are place (taken.some, taken.within) is.own in
      let node_is : node_of retained place ≡ Some node = places.node_of_some retained place taken.some ∙ ap Some taken.node_is in (
        subst (IsBelow ids facts (node_of retained part)) taken.node_is
            (subst (λ (g : ℕ). IsBelow ids facts (node_of retained g) (node_at retained place)) is.over below),
        λ is_part. is.no_part ((marked.exact place taken.within).1
            (subst (IsPart ids facts (retained_in retained) (total_of retained)) (sym node_is) is_part)),
        subst (λ (n : ℕ). IsNodeLabel facts n (label_text labels label)) taken.node_is
            (subst (λ (l : ℕ). IsNodeLabel facts (node_at retained place) (label_text labels l)) taken.takes.1
            (labelled.right place taken.some taken.within)),
      )

  there_piece : (label node : ℕ) → label < label_count labels → Piece label node → IsTakenTo retained (Takes label) (count_of retained) node
  there_piece label node low piece =
      let at = sums.at_below ids facts retained tree heads are part node part_low piece.0 in
      let node_is : node_of retained at.place ≡ Some node = places.node_of_some retained at.place at.is.0 ∙ ap Some at.node_is in
      let text = label_is facts agree retained labels labelled at.place at.is.0 at.is.1 (label_text labels label)
      (subst (λ (n : ℕ). IsNodeLabel facts n (label_text labels label)) (sym at.node_is) piece.2) in
      record {
        place = at.place;
        some = at.is.0;
        within = at.is.1;
        before = at.is.1;
        takes = (
          record {
            own = at.own;
            over = at.group_is;
            no_part = λ mark. piece.1
                (subst (IsPart ids facts (retained_in retained) (total_of retained)) node_is ((marked.exact at.place at.is.1).0 mark));
          },
          labelled.apart (label_at labels at.place) label (labelled.within at.place at.is.0 at.is.1) low text,
        );
        node_is = at.node_is;
      }

  pub labels_begin : (bytes counts : List ℕ) → bytes ≡ replicate (label_count labels) 0 → counts ≡ replicate (label_count labels) 0
      → So bytes counts 1
  labels_begin bytes counts zeros zero_counts = record {
    as_many = ap length zeros ∙ length-replicate (label_count labels) 0;
    as_many_counts = ap length zero_counts ∙ length-replicate (label_count labels) 0;
    few = λ label low.
        let none = ap (λ l. slice_index l label) zero_counts ∙ get_or-replicate (label_count labels) label 0 0 low in omega arith;
    each = λ label low.
        let none = ap (λ l. slice_index l label) zeros ∙ get_or-replicate (label_count labels) label 0 0 low in
        let none_counted = ap (λ l. slice_index l label) zero_counts ∙ get_or-replicate (label_count labels) label 0 0 low in
        subst₂ (Adds ids facts retained (IsTakenTo retained (Takes label) 1)) (sym none) (sym none_counted)
        (sum_begin ids facts retained (Takes label));
  }

  module _ (bytes counts : List ℕ) (done : ℕ) (so : So bytes counts done) where
    pub labels_same : ¬ (IsPieceAt retained heads parts part done) → So bytes counts (done + 1)
    labels_same none = record {
      as_many = so.as_many;
      as_many_counts = so.as_many_counts;
      few = λ label low. let few = so.few label low in omega arith;
      each = λ label low.
          sum_same ids facts retained (Takes label) done (slice_index bytes label) (slice_index counts label) (λ takes. none takes.0)
          (so.each label low);
    }

    module _ (some : 0 < done) (low : done < count_of retained) (piece : IsPieceAt retained heads parts part done) where
      abbrev label : ℕ
      label = label_at labels done

      abbrev new : ℕ
      new = slice_index bytes label + (sum_at retained done).bytes

      abbrev new_count : ℕ
      new_count = slice_index counts label + 1

      pub label_low : label < label_count labels
      label_low = labelled.within done some low

      more : Adds ids facts retained (IsTakenTo retained (Takes label) (done + 1)) new new_count
      more =
          sum_more ids facts retained (Takes label) tree done (slice_index bytes label) (slice_index counts label) some low (piece, refl)
          (so.each label label_low)

      pub labels_fit : new ≤ (sum_at retained part).bytes
      labels_fit =
          sums.below_fits ids facts retained tree heads are agree part part_low (IsTakenTo retained (Takes label) (done + 1)) new
          new_count more
          (λ node taken. (piece_there label (done + 1) node taken).0)

      pub labels_more : So (slice_set bytes label new) (slice_set counts label new_count) (done + 1)
      labels_more = record {
        as_many = length-set bytes label new ∙ so.as_many;
        as_many_counts = length-set counts label new_count ∙ so.as_many_counts;
        few = λ other other_low. elim (cases_eq other label) [
          | inl same ↦
              let put = ap (slice_index (slice_set counts label new_count)) same
              ∙ get_or-set_same counts label new_count 0 (omega (arith, so.as_many_counts, label_low)) in
              let few = so.few label label_low in
              omega arith
          | inr apart ↦
              let keeps = get_or-set_other counts label other new_count 0 apart in let few = so.few other other_low in omega arith
        ];
        each = λ other other_low. elim (cases_eq other label) [
          | inl same ↦
              let put = ap (slice_index (slice_set bytes label new)) same
              ∙ get_or-set_same bytes label new 0 (omega (arith, so.as_many, label_low)) in
              let put_count = ap (slice_index (slice_set counts label new_count)) same
              ∙ get_or-set_same counts label new_count 0 (omega (arith, so.as_many_counts, label_low)) in
              subst₂ (Adds ids facts retained (IsTakenTo retained (Takes other) (done + 1))) (sym put) (sym put_count)
              (subst (λ (l : ℕ). Adds ids facts retained (IsTakenTo retained (Takes l) (done + 1)) new new_count) (sym same) more)
          | inr apart ↦
              let keeps = get_or-set_other bytes label other new 0 apart in
              let keeps_count = get_or-set_other counts label other new_count 0 apart in
              subst₂ (Adds ids facts retained (IsTakenTo retained (Takes other) (done + 1))) (sym keeps) (sym keeps_count)
              (sum_same ids facts retained (Takes other) done (slice_index bytes other) (slice_index counts other)
              (λ takes. apart (sym takes.1)) (so.each other other_low))
        ];
      }

  pub labels_end : (bytes counts : List ℕ) (done : ℕ) → done ≡ count_of retained → So bytes counts done
      → AreLabelSums ids facts retained labels part bytes counts
  labels_end bytes counts done all so = record {
    as_many = so.as_many;
    as_many_counts = so.as_many_counts;
    each = λ label low.
        sum_alike ids facts retained (IsTakenTo retained (Takes label) done) (Piece label) (slice_index bytes label)
        (slice_index counts label)
        (λ node. (
          piece_there label done node,
          λ piece. subst (λ (d : ℕ). IsTakenTo retained (Takes label) d node) (sym all) (there_piece label node low piece),
        )) (so.each label low);
  }
