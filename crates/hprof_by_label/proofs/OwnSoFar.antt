-- The sums over the nodes of each label, number by number.
use Rattle.std.proofs.Common.{◌≡◌, ◌≢◌, ◌<◌, ◌≤◌, ◌+◌, ◌*◌, ◌^◌, ◌∙◌, ℕ, List, length, refl, sym, ap, subst, inl, inr, arith, replicate}
use Rattle.std.proofs.Common.{slice_index, slice_set, get_or-set_other, get_or-set_same}
use Rattle.std.proofs.lemmas.Bool.{cases_eq}
use Rattle.std.proofs.lemmas.List.{get_or-replicate, length-replicate}
use Rattle.std.proofs.Math.ListN.{length-set}
use Rattle.hprof_values.specs.declared.ids.IdSize.{IdSize}
use Rattle.hprof_items.specs.FactValue.{FactValue}
use Rattle.hprof_rows.specs.Conflict.{IsConsistent}
use Rattle.hprof_dominators.specs.Tree as tree
use Rattle.hprof_numbers.specs.Numbered.{nodes_in}
use Rattle.hprof_retained.specs.Retained.{IsHeld, IsSizeOf, IsSumOver, Sum}
use Rattle.hprof_retained.specs.Tree.{IsTreeOf, node_at, place_of}
use Rattle.hprof_retained.specs.declared.retained.Retained.{Retained}
use Rattle.hprof_by_label.specs.LabelRows.{IsHeldWith}
use Rattle.hprof_by_label.specs.Labels.{AreNodeLabels, label_at, label_count, label_text}
use Rattle.hprof_by_label.specs.NodeLabel.{IsNodeLabel}
use Rattle.hprof_by_label.specs.Sums.{AreOwnSums}
use Rattle.hprof_by_label.specs.declared.node_labels.NodeLabels.{NodeLabels}
use Rattle.hprof_by_label.proofs.Joined.{both, sum_of_none, sum_of_one, sums_alike, sums_joined}
use Rattle.hprof_by_label.proofs.Labelled.{numbered_node, numbered_place, one_number}
use Rattle.hprof_by_label.proofs.OneLabel.{one_node_label}

-- one of the numbers below a bound is that of the node, which has that label
abbrev pub IsOwnTo : Retained → NodeLabels → ℕ → ℕ → ℕ → Type 0
IsOwnTo retained labels label done node = (number : ℕ) × (number < done) × (numbered_node retained number ≡ node)
    × (0 < numbered_place retained number) × (label_at labels (numbered_place retained number) ≡ label)

-- the sums over so many numbers are small enough
pub record AreCountedTo (labels : NodeLabels) (bytes counts : List ℕ) (done : ℕ) : Type 0 where
  pub as_many : length bytes ≡ label_count labels
  pub as_many_counts : length counts ≡ label_count labels
  pub few : (label : ℕ) → label < label_count labels → slice_index counts label ≤ done
  pub small : (label : ℕ) → label < label_count labels → slice_index bytes label + done ≤ done * 2 ^ 64

module _ (labels : NodeLabels) where
  zero_at : (sums : List ℕ) → sums ≡ replicate (label_count labels) 0 → (label : ℕ) → label < label_count labels
      → slice_index sums label ≡ 0
  zero_at sums are label low = ap (λ l. slice_index l label) are ∙ get_or-replicate (label_count labels) label 0 0 low

  pub counted_begin : (bytes counts : List ℕ) → bytes ≡ replicate (label_count labels) 0 → counts ≡ replicate (label_count labels) 0
      → AreCountedTo labels bytes counts 0
  counted_begin bytes counts bytes_are counts_are = record {
    as_many = ap length bytes_are ∙ length-replicate (label_count labels) 0;
    as_many_counts = ap length counts_are ∙ length-replicate (label_count labels) 0;
    few = λ label low. let none = zero_at counts counts_are label low in omega arith;
    small = λ label low. let none = zero_at bytes bytes_are label low in omega arith;
  }

  module _ (bytes counts : List ℕ) (done : ℕ) (so : AreCountedTo labels bytes counts done) where
    pub counted_none : AreCountedTo labels bytes counts (done + 1)
    counted_none = record {
      as_many = so.as_many;
      as_many_counts = so.as_many_counts;
      few = λ label low. let few = so.few label low in omega arith;
      small = λ label low. let small = so.small label low in omega arith;
    }

    module _ (here size : ℕ) (within : here < label_count labels) where
      abbrev pub new_bytes : List ℕ
      new_bytes = slice_set bytes here (slice_index bytes here + size)

      abbrev pub new_counts : List ℕ
      new_counts = slice_set counts here (slice_index counts here + 1)

      pub put_bytes : slice_index new_bytes here ≡ slice_index bytes here + size
      put_bytes = let many = so.as_many in get_or-set_same bytes here (slice_index bytes here + size) 0 (omega arith)

      pub put_counts : slice_index new_counts here ≡ slice_index counts here + 1
      put_counts = let many = so.as_many_counts in get_or-set_same counts here (slice_index counts here + 1) 0 (omega arith)

      pub kept_bytes : (label : ℕ) → label ≢ here → slice_index new_bytes label ≡ slice_index bytes label
      kept_bytes label other = get_or-set_other bytes here label (slice_index bytes here + size) 0 other

      pub kept_counts : (label : ℕ) → label ≢ here → slice_index new_counts label ≡ slice_index counts label
      kept_counts label other = get_or-set_other counts here label (slice_index counts here + 1) 0 other

      pub counted_more : size < 2 ^ 64 → AreCountedTo labels new_bytes new_counts (done + 1)
      counted_more fits = record {
        as_many = length-set bytes here (slice_index bytes here + size) ∙ so.as_many;
        as_many_counts = length-set counts here (slice_index counts here + 1) ∙ so.as_many_counts;
        few = λ label low. let before = so.few label low in elim (cases_eq label here) [
          | inl same ↦ let put = ap (slice_index new_counts) same ∙ put_counts in let old = ap (slice_index counts) same in omega arith
          | inr other ↦ let kept = kept_counts label other in omega arith
        ];
        small = λ label low. let before = so.small label low in elim (cases_eq label here) [
          | inl same ↦ let put = ap (slice_index new_bytes) same ∙ put_bytes in let old = ap (slice_index bytes) same in omega arith
          | inr other ↦ let kept = kept_bytes label other in omega arith
        ];
      }

module _ (ids : IdSize) (facts : List FactValue) (retained : Retained) (labels : NodeLabels) where
  -- the sums over the numbers below a bound
  abbrev pub AreOwnTo : (bytes counts : List ℕ) → ℕ → Type 0
  AreOwnTo bytes counts done = (label : ℕ) → label < label_count labels → IsSumOver ids facts (IsOwnTo retained labels label done)
      (record { bytes = slice_index bytes label; objects = slice_index counts label })

  pub own_begin : (bytes counts : List ℕ) → bytes ≡ replicate (label_count labels) 0 → counts ≡ replicate (label_count labels) 0
      → AreOwnTo bytes counts 0
  own_begin bytes counts bytes_are counts_are label low =
      let none = sum_of_none ids facts (IsOwnTo retained labels label 0) (λ node own. let less = own.1 in omega arith) in
      subst (IsSumOver ids facts (IsOwnTo retained labels label 0))
      (λ i. record {
        bytes = sym (zero_at labels bytes bytes_are label low) i;
        objects = sym (zero_at labels counts counts_are label low) i;
      }) none

  module _ (done : ℕ) where
    -- a number that is not of the label
    own_skipped : (label : ℕ) (sum : Sum)
        → (0 < numbered_place retained done → label_at labels (numbered_place retained done) ≡ label → ⊥)
        → IsSumOver ids facts (IsOwnTo retained labels label done) sum → IsSumOver ids facts (IsOwnTo retained labels label (done + 1)) sum
    own_skipped label sum other =
        sums_alike ids facts (IsOwnTo retained labels label done) (IsOwnTo retained labels label (done + 1)) sum (λ node. (
          λ own. let low = own.1 in (own.0, omega arith, own.2, own.3, own.4),
          λ own. let low = own.1 in elim (cases_eq own.0 done) [
            | inl same ↦
                absurd (other (subst (λ n. 0 < numbered_place retained n) same own.3)
                (subst (λ n. label_at labels (numbered_place retained n) ≡ label) same own.4))
            | inr before ↦ (own.0, omega arith, own.2, own.3, own.4)
          ],
        ))

    -- one that is
    own_added : IsTreeOf ids facts retained → (label size : ℕ) (sum : Sum) → 0 < numbered_place retained done
        → label_at labels (numbered_place retained done) ≡ label → IsSizeOf ids facts (numbered_node retained done) size
        → IsSumOver ids facts (IsOwnTo retained labels label done) sum
        → IsSumOver ids facts (IsOwnTo retained labels label (done + 1)) (both sum (record { bytes = size; objects = 1 }))
    own_added tree_is label size sum some here is_size before =
        sums_joined (IsOwnTo retained labels label done) (λ node. node ≡ numbered_node retained done) (IsOwnTo retained labels label
        (done + 1))
        (λ node own same.
        let place = own.3 in
        let one = one_place own.0 place in
        let this = one_place done some in
        let places = sym one ∙ ap (place_of retained) (own.2 ∙ same) ∙ this in
        let numbers = one_number retained own.0 done place places in
        let low = own.1 in
        omega arith)
        (λ node. (
          λ own. let low = own.1 in elim (cases_eq own.0 done) [
            | inl same ↦ inr (sym own.2 ∙ ap (numbered_node retained) same)
            | inr other ↦ inl (own.0, omega arith, own.2, own.3, own.4)
          ],
          λ either. elim either [
            | inl own ↦ let low = own.1 in (own.0, omega arith, own.2, own.3, own.4)
            | inr same ↦ (done, omega arith, sym same, some, here)
          ],
        ))
        ids facts sum (record { bytes = size; objects = 1 }) before (sum_of_one ids facts (numbered_node retained done) size is_size) where
          -- the place of the node with a number
          one_place : (number : ℕ) → 0 < numbered_place retained number
              → place_of retained (numbered_node retained number) ≡ numbered_place retained number
          one_place number place =
              let at = retained.numbered.new number place in
              let same = ap (slice_index (nodes_in retained.nodes)) at.1 in
              sym (ap (place_of retained) same) ∙ (tree_is.held (numbered_place retained number) place at.0).1

  pub own_more_none : (bytes counts : List ℕ) (done : ℕ) → AreOwnTo bytes counts done → numbered_place retained done ≡ 0
      → AreOwnTo bytes counts (done + 1)
  own_more_none bytes counts done so none label low =
      own_skipped done label _ (λ some is. absurd (omega arith)) (so label low)

  module _ (bytes counts : List ℕ) (done size : ℕ) (tree_is : IsTreeOf ids facts retained) (counted : AreCountedTo labels bytes counts done)
      (so : AreOwnTo bytes counts done) (some : 0 < numbered_place retained done)
      (within : label_at labels (numbered_place retained done) < label_count labels)
      (is_size : IsSizeOf ids facts (numbered_node retained done) size) where
    abbrev here : ℕ
    here = label_at labels (numbered_place retained done)

    abbrev sum_of : ℕ → Sum
    sum_of label = record {
      bytes = slice_index (new_bytes labels bytes counts done counted here size within) label;
      objects = slice_index (new_counts labels bytes counts done counted here size within) label;
    }

    pub own_more : AreOwnTo (new_bytes labels bytes counts done counted (label_at labels (numbered_place retained done)) size within)
        (new_counts labels bytes counts done counted (label_at labels (numbered_place retained done)) size within) (done + 1)
    own_more label low = elim (cases_eq label here) [
      | inl same ↦
          subst (λ l. IsSumOver ids facts (IsOwnTo retained labels l (done + 1)) (sum_of l)) (sym same)
          (subst (IsSumOver ids facts (IsOwnTo retained labels here (done + 1)))
          (λ i. record {
            bytes = sym (put_bytes labels bytes counts done counted here size within) i;
            objects = sym (put_counts labels bytes counts done counted here size within) i;
          })
          (own_added done tree_is here size (record { bytes = slice_index bytes here; objects = slice_index counts here }) some refl is_size
          (so here within)))
      | inr other ↦
          subst (IsSumOver ids facts (IsOwnTo retained labels label (done + 1)))
          (λ i. record {
            bytes = sym (kept_bytes labels bytes counts done counted here size within label other) i;
            objects = sym (kept_counts labels bytes counts done counted here size within label other) i;
          })
          (own_skipped done label (record { bytes = slice_index bytes label; objects = slice_index counts label })
          (λ place is. other (sym is)) (so label low))
    ]

  -- the sums over all numbers are those over all nodes
  pub own_end : (bytes counts : List ℕ) (done : ℕ) → IsConsistent facts → IsTreeOf ids facts retained → AreNodeLabels facts retained labels
      → length (nodes_in retained.nodes) ≤ done → AreCountedTo labels bytes counts done → AreOwnTo bytes counts done
      → AreOwnSums ids facts labels bytes counts
  own_end bytes counts done agree tree_is are all counted so = record {
    as_many = counted.as_many;
    as_many_counts = counted.as_many_counts;
    own = λ label low.
        sums_alike ids facts (IsOwnTo retained labels label done) (IsHeldWith ids facts (label_text labels label))
        (record { bytes = slice_index bytes label; objects = slice_index counts label }) (λ node. (forth label node, back label low node))
        (so label low);
  } where
    forth : (label node : ℕ) → IsOwnTo retained labels label done node → IsHeldWith ids facts (label_text labels label) node
    forth label node own =
        let at = retained.numbered.new own.0 own.3 in
        let place = numbered_place retained own.0 in
        let there : node_at retained place ≡ node = ap (slice_index (nodes_in retained.nodes)) at.1 ∙ own.2 in
        let P : ℕ → Type 0 = λ n. IsHeld ids facts n × IsNodeLabel facts n (label_text labels label) in
        subst P there (
          (tree_is.held place own.3 at.0).0,
          subst (λ l. IsNodeLabel facts (node_at retained place) (label_text labels l)) own.4
              (are.right place own.3 at.0),
        )

    back : (label : ℕ) → label < label_count labels → (node : ℕ) → IsHeldWith ids facts (label_text labels label) node
        → IsOwnTo retained labels label done node
    back label low node with_it =
        let found = tree_is.found node with_it.0 in
        let place = place_of retained node in
        let old = retained.numbered.old place found.0 found.1 in
        let number = tree.number_at retained.tree place in
        let less = old.0 in
        let at : numbered_place retained number ≡ place = old.1 in
        let text = one_node_label facts agree node (label_text labels (label_at labels place)) (label_text labels label)
        (subst (λ n. IsNodeLabel facts n (label_text labels (label_at labels place))) found.2
        (are.right place found.0 found.1)) with_it.1 in
        let some = found.0 in (
          number,
          omega arith,
          found.2,
          omega arith,
          ap (label_at labels) at ∙ are.apart (label_at labels place) label (are.within place found.0 found.1) low text,
        )
