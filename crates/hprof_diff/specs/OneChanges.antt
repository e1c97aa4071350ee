-- The changes of labels are a difference.
use Rattle.std.proofs.Common.{◌≡◌, ◌≢◌, ◌⊎◌, inl, inr, ℕ, Bool, true, false, cond, List, [], ◌∷◌, ◌++◌, map, not, refl, sym, ap, subst, ◌∙◌}
use Rattle.std.proofs.Common.{◌==◌, ◌&&◌, eq-eqb}
use Rattle.std.specs.Prelude.{bytes_eq}
use Rattle.std.specs.Cmp.{IsTotalOrder}
use Rattle.std.specs.List.{AllByRecursion, IsDistinct, filter}
use Rattle.std.specs.List.Sorted.{IsPermutation, IsStrictlySortedBy}
use Rattle.std.specs.Ordering.{on}
use Rattle.std.specs.declared.cmp.Ordering.{Ordering}
use Rattle.std.specs.declared.cmp.Ordering.TheVariants.{Less, Equal}
use Rattle.std.proofs.lemmas.Bool.{both_ways, eqb-true}
use Rattle.std.proofs.lemmas.Cmp.{on_total}
use Rattle.std.proofs.lemmas.List.{map-append}
use Rattle.std.proofs.lemmas.List.Elements.{filter-append}
use Rattle.std.proofs.lemmas.List.Sorted.{Contains-permutation, IsPermutation-sym}
use Rattle.std.proofs.lemmas.Slice.Eq.{bytes_eq-Decides}
use Rattle.hprof_values.specs.declared.ids.IdSize.{IdSize}
use Rattle.hprof_items.specs.FactValue.{FactValue}
use Rattle.hprof_histogram.proofs.Members.{IsIn, in_from_Contains, Contains-from_in, in_back, in_filter, in_front, in_map, one_sorted}
use Rattle.hprof_diff.specs.declared.counted.Counted.{Counted}
use Rattle.hprof_diff.specs.declared.label_counts.LabelCounts.{LabelCounts}
use Rattle.hprof_diff.specs.Counts.{AreTotals, Totals}
use Rattle.hprof_diff.specs.Difference.{ChangeValue, Differs, IsDifference, change_cmp, change_of}
use Rattle.hprof_diff.specs.Changes.{changes_among, differs}
use Rattle.hprof_diff.specs.Kept.{has_label, labels_in, totals_in}
use Rattle.hprof_diff.specs.ChangeOrder.{change_cmp_total, same_label, tied_labels}
use Rattle.hprof_histogram.proofs.Joining.{join_one}
use Rattle.hprof_diff.specs.KeptLabels.{in_labels, label_in, none_kept}
use Rattle.hprof_diff.specs.OneTotal.{HasNone, counted_or_none, labels_of}

-- ---- whether a change differs

apart : (n m : ℕ) → (n == m) ≡ false → n ≢ m
apart n m e same = both_ways (n == m) e (eq-eqb n m same)

some_differ : (change : ChangeValue) → differs change ≡ true → Differs change.bytes change.count
some_differ change e = by_test (change.bytes.old == change.bytes.new) (change.count.old == change.count.new) refl refl e where
  by_test : (b d : Bool) → (change.bytes.old == change.bytes.new) ≡ b → (change.count.old == change.count.new) ≡ d
      → not (b && d) ≡ true → Differs change.bytes change.count
  by_test false d e f h = inl (apart change.bytes.old change.bytes.new e)
  by_test true false e f h = inr (apart change.count.old change.count.new f)
  by_test true true e f h = absurd (both_ways false refl h)

differ_some : (change : ChangeValue) → Differs change.bytes change.count → differs change ≡ true
differ_some change differ = by_test (change.bytes.old == change.bytes.new) (change.count.old == change.count.new) refl refl where
  by_test : (b d : Bool) → (change.bytes.old == change.bytes.new) ≡ b → (change.count.old == change.count.new) ≡ d → not (b && d) ≡ true
  by_test false d e f = refl
  by_test true false e f = refl
  by_test true true e f = elim differ [
    | inl other ↦ absurd (other (eqb-true change.bytes.old change.bytes.new e))
    | inr other ↦ absurd (other (eqb-true change.count.old change.count.new f))
  ]

-- ---- members

in_parts : {X : Type 0} (xs ys : List X) (x : X) → IsIn x (xs ++ ys) → IsIn x xs ⊎ IsIn x ys
in_parts [] ys x has = inr has
in_parts (y ∷ xs) ys x (inl e) = inl (inl e)
in_parts (y ∷ xs) ys x (inr later) = elim (in_parts xs ys x later) [ inl has ↦ inl (inr has) | inr has ↦ inr has ]

-- a member of those that pass is a member, and passes
in_passed : {X : Type 0} (p : X → Bool) (xs : List X) (x : X) → IsIn x (filter p xs) → IsIn x xs × (p x ≡ true)
in_passed p [] x has = absurd has
in_passed p (y ∷ xs) x has = by_test (p y) refl has (in_passed p xs x) where
  by_test : (b : Bool) → p y ≡ b → IsIn x (cond b (y ∷ filter p xs) (filter p xs)) → (IsIn x (filter p xs) → IsIn x xs × (p x ≡ true))
      → IsIn x (y ∷ xs) × (p x ≡ true)
  by_test true e (inl same) later = (inl same, ap p same ∙ e)
  by_test true e (inr rest) later = let found = later rest in (inr found.0, found.1)
  by_test false e rest later = let found = later rest in (inr found.0, found.1)

-- what a member of an image is of
record IsImage {X Y : Type 0} (f : X → Y) (xs : List X) (y : Y) : Type 0 where
  pub x : X
  pub has : IsIn x xs
  pub is : y ≡ f x

in_image : {X Y : Type 0} (f : X → Y) (xs : List X) (y : Y) → IsIn y (map f xs) → IsImage f xs y
in_image f [] y has = absurd has
in_image f (x ∷ xs) y (inl e) = record { x = x; has = inl refl; is = e }
in_image f (x ∷ xs) y (inr later) = let found = in_image f xs y later in record { x = found.x; has = inr found.has; is = found.is }

-- ---- distinct ones

all_filter : {X : Type 0} (P : X → Type 0) (test : X → Bool) (xs : List X) → AllByRecursion P xs → AllByRecursion P (filter test xs)
all_filter P test [] all = tt
all_filter P test (x ∷ xs) all = by_test (all_filter P test xs all.1) (test x) where
  by_test : AllByRecursion P (filter test xs) → (b : Bool) → AllByRecursion P (cond b (x ∷ filter test xs) (filter test xs))
  by_test rest true = (all.0, rest)
  by_test rest false = rest

distinct_filter : {X : Type 0} (same : X → X → Bool) (test : X → Bool) (xs : List X) → IsDistinct same xs → IsDistinct same (filter test xs)
unfolding IsDistinct
distinct_filter same test [] apart = tt
distinct_filter same test (x ∷ xs) apart = by_test (distinct_filter same test xs apart.1) (test x) where
  by_test : IsDistinct same (filter test xs) → (b : Bool) → IsDistinct same (cond b (x ∷ filter test xs) (filter test xs))
  by_test rest true = (all_filter (λ y. same x y ≡ false) test xs apart.0, rest)
  by_test rest false = rest

all_append : {X : Type 0} (P : X → Type 0) (xs ys : List X) → AllByRecursion P xs → AllByRecursion P ys → AllByRecursion P (xs ++ ys)
all_append P [] ys all others = others
all_append P (x ∷ xs) ys all others = (all.0, all_append P xs ys all.1 others)

all_not : (x : List ℕ) (ys : List (List ℕ)) → (IsIn x ys → ⊥) → AllByRecursion (λ y. bytes_eq x y ≡ false) ys
all_not x [] none = tt
all_not x (y ∷ ys) none = (by_test (bytes_eq x y) refl, all_not x ys (λ has. none (inr has))) where
  by_test : (b : Bool) → bytes_eq x y ≡ b → b ≡ false
  by_test false e = refl
  by_test true e = absurd (none (inl ((bytes_eq-Decides x y).0 e)))

distinct_append : (xs ys : List (List ℕ)) → IsDistinct bytes_eq xs → IsDistinct bytes_eq ys → ((x : List ℕ) → IsIn x xs → IsIn x ys → ⊥)
    → IsDistinct bytes_eq (xs ++ ys)
unfolding IsDistinct
distinct_append [] ys one other none = other
distinct_append (x ∷ xs) ys one other none = (
  all_append (λ y. bytes_eq x y ≡ false) xs ys one.0 (all_not x ys (none x (inl refl))),
  distinct_append xs ys one.1 other (λ y has. none y (inr has)),
)

module _ (old new : Totals) where
  labels_after : (label : List ℕ) (labels : List (List ℕ)) → AllByRecursion (λ other. bytes_eq label other ≡ false) labels
      → AllByRecursion (λ other. same_label (change_of old new label) other ≡ false) (map (change_of old new) labels)
  labels_after label [] apart = tt
  labels_after label (other ∷ labels) apart = (apart.0, labels_after label labels apart.1)

  changes_apart : (labels : List (List ℕ)) → IsDistinct bytes_eq labels → IsDistinct same_label (map (change_of old new) labels)
  unfolding IsDistinct
  changes_apart [] apart = tt
  changes_apart (label ∷ labels) apart = (labels_after label labels apart.0, changes_apart labels apart.1)

  -- the changes of different labels are of different labels
  pub among_apart : (labels : List (List ℕ)) → IsDistinct bytes_eq labels → IsDistinct same_label (changes_among old new labels)
  among_apart labels apart = distinct_filter same_label differs (map (change_of old new) labels) (changes_apart labels apart)

  -- those of some labels, and of others
  pub among_append : (labels others : List (List ℕ))
      → changes_among old new labels ++ changes_among old new others ≡ changes_among old new (labels ++ others)
  among_append labels others =
      sym (filter-append differs (map (change_of old new) labels) (map (change_of old new) others))
      ∙ ap (filter differs) (sym (map-append (change_of old new) labels others))

  -- ---- what is a difference

  in_among : (labels : List (List ℕ)) (change : ChangeValue) → IsIn change (changes_among old new labels)
      → (change ≡ change_of old new change.label) × Differs change.bytes change.count
  in_among labels change has =
      let passed = in_passed differs (map (change_of old new) labels) change has in
      let image = in_image (change_of old new) labels change passed.0 in
      let label : change.label ≡ image.x = ap (λ (c : ChangeValue). c.label) image.is in
      (image.is ∙ ap (change_of old new) (sym label), some_differ change passed.1)

  among_has : (labels : List (List ℕ)) (label : List ℕ) → IsIn label labels
      → Differs (change_of old new label).bytes (change_of old new label).count
      → IsIn (change_of old new label) (changes_among old new labels)
  among_has labels label has differ =
      in_filter differs (map (change_of old new) labels) (change_of old new label) (differ_some (change_of old new label) differ)
      (in_map (change_of old new) labels label has)

  -- the changes of labels in order, where all that differ are among them
  pub among_is_difference : (labels : List (List ℕ)) (changes : List ChangeValue) → IsPermutation (changes_among old new labels) changes
      → IsStrictlySortedBy change_cmp changes
      → ((label : List ℕ) → Differs (change_of old new label).bytes (change_of old new label).count → IsIn label labels)
      → IsDifference old new changes
  among_is_difference labels changes moved sorted all = record {
    ascend = sorted;
    is = λ change has.
        in_among labels change (in_from_Contains (changes_among old new labels) change
        (Contains-permutation changes (changes_among old new labels) change
        (IsPermutation-sym (changes_among old new labels) changes moved) has));
    all = λ label differ.
        Contains-permutation (changes_among old new labels) changes (change_of old new label) moved
        (Contains-from_in (changes_among old new labels) (change_of old new label) (among_has labels label (all label differ) differ));
  }

  -- ---- there is no other

  member_of_other : (one other : List ChangeValue) → IsDifference old new one → IsDifference old new other → (change : ChangeValue)
      → IsIn change one → IsIn change other
  member_of_other one other is is_too change has =
      let of = is.is change (Contains-from_in one change has) in
      let differ = subst (λ (c : ChangeValue). Differs c.bytes c.count) of.0 of.1 in
      subst (λ (c : ChangeValue). IsIn c other) (sym of.0)
      (in_from_Contains other (change_of old new change.label) (is_too.all change.label differ))

  pub one_difference : (one other : List ChangeValue) → IsDifference old new one → IsDifference old new other → one ≡ other
  one_difference one other is is_too =
      one_sorted change_cmp_total one other is.ascend is_too.ascend (member_of_other one other is is_too)
      (member_of_other other one is_too is)

  -- ---- there is one

  -- labels by the order of their changes
  abbrev label_cmp : List ℕ → List ℕ → Ordering
  label_cmp = on (change_of old new) change_cmp

  label_cmp_total : IsTotalOrder label_cmp
  label_cmp_total = on_total (change_of old new) change_cmp_total

  tied_same : (label other : List ℕ) → label_cmp label other ≡ Equal → label ≡ other
  tied_same label other e = (bytes_eq-Decides label other).0 (tied_labels (change_of old new label) (change_of old new other) e)

  -- those of some labels that differ, in order
  record InOrder (labels : List (List ℕ)) : Type 0 where
    pub sorted : List (List ℕ)
    pub ascend : IsStrictlySortedBy label_cmp sorted
    pub differ : (label : List ℕ) → IsIn label sorted → differs (change_of old new label) ≡ true
    pub all : (label : List ℕ) → IsIn label labels → differs (change_of old new label) ≡ true → IsIn label sorted

  one_more : (label : List ℕ) (labels : List (List ℕ)) → differs (change_of old new label) ≡ true → InOrder labels
      → InOrder (label ∷ labels)
  one_more label labels of_it before =
      let more = join_one label_cmp label_cmp_total tied_same label before.sorted before.ascend in
      record {
        sorted = more.all;
        ascend = more.sorted;
        differ = λ other has. elim (more.only other has) [
          | inl same ↦ ap (λ (l : List ℕ). differs (change_of old new l)) same ∙ of_it
          | inr had ↦ before.differ other had
        ];
        all = λ other has differ. elim has [
          | inl same ↦ subst (λ (l : List ℕ). IsIn l more.all) (sym same) more.has
          | inr later ↦ more.keeps other (before.all other later differ)
        ];
      }

  one_less : (label : List ℕ) (labels : List (List ℕ)) → differs (change_of old new label) ≡ false → InOrder labels
      → InOrder (label ∷ labels)
  one_less label labels of_it before = record {
    sorted = before.sorted;
    ascend = before.ascend;
    differ = before.differ;
    all = λ other has differ. elim has [
      | inl same ↦ absurd (both_ways _ of_it (ap (λ (l : List ℕ). differs (change_of old new l)) (sym same) ∙ differ))
      | inr later ↦ before.all other later differ
    ];
  }

  in_order : (labels : List (List ℕ)) → InOrder labels
  unfolding IsStrictlySortedBy
  in_order [] = record {
    sorted = [];
    ascend = tt;
    differ = λ label has. absurd has;
    all = λ label has differ. absurd has;
  }
  in_order (label ∷ labels) = by_test (differs (change_of old new label)) refl (in_order labels) where
    by_test : (b : Bool) → differs (change_of old new label) ≡ b → InOrder labels → InOrder (label ∷ labels)
    by_test true e before = one_more label labels e before
    by_test false e before = one_less label labels e before

  after_map : (label : List ℕ) (labels : List (List ℕ)) → AllByRecursion (λ other. label_cmp label other ≡ Less) labels
      → AllByRecursion (λ other. change_cmp (change_of old new label) other ≡ Less) (map (change_of old new) labels)
  after_map label [] after = tt
  after_map label (other ∷ labels) after = (after.0, after_map label labels after.1)

  changes_sorted : (labels : List (List ℕ)) → IsStrictlySortedBy label_cmp labels
      → IsStrictlySortedBy change_cmp (map (change_of old new) labels)
  unfolding IsStrictlySortedBy
  changes_sorted [] sorted = tt
  changes_sorted (label ∷ labels) sorted = (after_map label labels sorted.0, changes_sorted labels sorted.1)

  -- where all labels that differ are among some, there is a difference
  difference_among : (labels : List (List ℕ))
      → ((label : List ℕ) → Differs (change_of old new label).bytes (change_of old new label).count → IsIn label labels)
      → (changes : List ChangeValue) × IsDifference old new changes
  difference_among labels among =
      let made = in_order labels in (
        map (change_of old new) made.sorted,
        record {
          ascend = changes_sorted made.sorted made.ascend;
          is = λ change has.
              let image = in_image (change_of old new) made.sorted change
              (in_from_Contains (map (change_of old new) made.sorted) change has) in
              let label : change.label ≡ image.x = ap (λ (c : ChangeValue). c.label) image.is in (
                image.is ∙ ap (change_of old new) (sym label),
                some_differ change (ap differs image.is ∙ made.differ image.x image.has),
              );
          all = λ label differ.
              Contains-from_in (map (change_of old new) made.sorted) (change_of old new label)
              (in_map (change_of old new) made.sorted label
              (made.all label (among label differ) (differ_some (change_of old new label) differ)));
        },
      )

  -- what has no objects in either does not differ
  same_none : (label : List ℕ) → HasNone old label → HasNone new label
      → Differs (change_of old new label).bytes (change_of old new label).count → ⊥
  same_none label none none_too differ = elim differ [
    | inl other ↦ other (none.1 ∙ sym none_too.1)
    | inr other ↦ other (none.0 ∙ sym none_too.0)
  ]

  pub difference_exists : (ids other_ids : IdSize) (facts other_facts : List FactValue) → AreTotals ids facts old
      → AreTotals other_ids other_facts new → (changes : List ChangeValue) × IsDifference old new changes
  difference_exists ids other_ids facts other_facts is is_too =
      let labels = labels_of is.label is.rows in
      let others = labels_of is_too.label is_too.rows in
      difference_among (labels ++ others) (λ label differ. elim (counted_or_none ids facts old is label) [
        | inl has ↦ in_front labels others label has
        | inr none ↦ elim (counted_or_none other_ids other_facts new is_too label) [
          | inl has ↦ in_back labels others label has
          | inr none_too ↦ absurd (same_none label none none_too differ)
        ]
      ])

-- ---- the labels that are kept of two heaps

module _ (old new : LabelCounts) where
  -- the labels of the newer one alone
  abbrev pub new_labels : List (List ℕ)
  new_labels = filter (λ label. not (has_label old label)) (labels_in new)

  abbrev pub both_labels : List (List ℕ)
  both_labels = labels_in old ++ new_labels

  -- the changes of the older one's labels, and then those of the newer one's alone
  pub gathered : (one all : List ChangeValue) → one ≡ changes_among (totals_in old) (totals_in new) (labels_in old)
      → all ≡ one ++ changes_among (totals_in old) (totals_in new) new_labels
      → all ≡ changes_among (totals_in old) (totals_in new) both_labels
  gathered one all is more =
      more ∙ ap (λ (l : List ChangeValue). l ++ changes_among (totals_in old) (totals_in new) new_labels) is
      ∙ among_append (totals_in old) (totals_in new) (labels_in old) new_labels

  not_false : (b : Bool) → not b ≡ true → b ≡ false
  not_false true e = absurd (both_ways false refl e)
  not_false false e = refl

  -- each once
  pub both_distinct : IsDistinct bytes_eq (labels_in old) → IsDistinct bytes_eq (labels_in new) → IsDistinct bytes_eq both_labels
  both_distinct one other =
      distinct_append (labels_in old) new_labels one (distinct_filter bytes_eq (λ label. not (has_label old label)) (labels_in new) other)
      (λ label has has_too. both_ways (has_label old label)
      (not_false (has_label old label) (in_passed (λ label. not (has_label old label)) (labels_in new) label has_too).1)
      (label_in old label has))

  -- and all that differ
  pub differ_in_both : (label : List ℕ) → Differs (change_of (totals_in old) (totals_in new) label).bytes
      (change_of (totals_in old) (totals_in new) label).count → IsIn label both_labels
  differ_in_both label differ = by_test (has_label old label) (has_label new label) refl refl where
    by_test : (b d : Bool) → has_label old label ≡ b → has_label new label ≡ d → IsIn label both_labels
    by_test true d e f = in_front (labels_in old) new_labels label (in_labels old label e)
    by_test false true e f =
        in_back (labels_in old) new_labels label
        (in_filter (λ l. not (has_label old l)) (labels_in new) label (ap not e) (in_labels new label f))
    by_test false false e f =
        let none = none_kept old label e in
        let none_too = none_kept new label f in
        absurd (same_none (totals_in old) (totals_in new) label
        (ap (λ (c : Counted). c.count) none, ap (λ (c : Counted). c.bytes) none)
        (ap (λ (c : Counted). c.count) none_too, ap (λ (c : Counted). c.bytes) none_too) differ)

  -- so there is a difference
  pub kept_difference : (changes : List ChangeValue) × IsDifference (totals_in old) (totals_in new) changes
  kept_difference = difference_among (totals_in old) (totals_in new) both_labels differ_in_both

-- what is kept of one heap, and the facts of another, have a difference
pub growth_exists : (old : LabelCounts) (ids : IdSize) (facts : List FactValue) (new : Totals) → AreTotals ids facts new
    → (changes : List ChangeValue) × IsDifference (totals_in old) new changes
growth_exists old ids facts new is = difference_among (totals_in old) new (labels_in old ++ others) among where
  others : List (List ℕ)
  others = labels_of is.label is.rows

  among : (label : List ℕ) → Differs (change_of (totals_in old) new label).bytes (change_of (totals_in old) new label).count
      → IsIn label (labels_in old ++ others)
  among label differ = by_test (has_label old label) refl (counted_or_none ids facts new is label) where
    by_test : (b : Bool) → has_label old label ≡ b → IsIn label others ⊎ HasNone new label → IsIn label (labels_in old ++ others)
    by_test true e either = in_front (labels_in old) others label (in_labels old label e)
    by_test false e (inl has) = in_back (labels_in old) others label has
    by_test false e (inr none) =
        let none_too = none_kept old label e in
        absurd (same_none (totals_in old) new label
        (ap (λ (c : Counted). c.count) none_too, ap (λ (c : Counted). c.bytes) none_too) none differ)
