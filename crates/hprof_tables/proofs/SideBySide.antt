-- Two lists of keys and contents, side by side: where they differ first is known from what is left of both.
use Rattle.std.proofs.Common.{◌≡◌, ◌≢◌, ◌<◌, ℕ, List, [], ◌∷◌, Option, Some, None, refl, sym, ap, subst, ◌∙◌, inl, inr, arith}
use Rattle.std.specs.declared.cmp.Ordering.TheVariants.{Less, Equal, Greater}
use Rattle.std.specs.Cmp.{nat_cmp_is}
use Rattle.std.specs.Iterator.{YieldsFirstBy}
use Rattle.std.specs.Ordering.{nat_cmp}
use Rattle.std.proofs.lemmas.Bool.{cases_order}
use Rattle.std.proofs.lemmas.Map.Lookups.{exact_unsigned}
use Rattle.hprof_tables.specs.SideBySide.{DifferAt, IsFirstDifference}
use Rattle.hprof_tables.specs.SortedRows.{row_at, IsAscending}
use Rattle.hprof_tables.proofs.SortedRows.{AreKeys-weaker, ascending_head, ascending_tail, less_from, row_at-here, row_at-past, row_at-none}

-- a row that was taken, and those behind it
abbrev pub behind : {R : Type 0} → (R → List ℕ) → Option (ℕ × R) → List (ℕ × List ℕ) → List (ℕ × List ℕ)
behind content None rows = []
behind content (Some row) rows = (row.0, content row.1) ∷ rows

-- where what is left differs first, all do
abbrev pub Follows : (all all_others rows others : List (ℕ × List ℕ)) → Type 0
Follows all all_others rows others = (found : Option ℕ) → IsFirstDifference rows others found → IsFirstDifference all all_others found

-- lists in which the same keys differ
abbrev SameDifferences : (rows others left left_others : List (ℕ × List ℕ)) → Type 0
SameDifferences rows others left left_others = ((key : ℕ) → DifferAt rows others key → DifferAt left left_others key)
    × ((key : ℕ) → DifferAt left left_others key → DifferAt rows others key)

same_first : (rows others left left_others : List (ℕ × List ℕ)) → SameDifferences rows others left left_others
    → Follows rows others left left_others
same_first rows others left left_others same None first = λ key differ. first key (same.0 key differ)
same_first rows others left left_others same (Some key) first =
    (same.1 key first.0, λ lower lt differ. first.1 lower lt (same.0 lower differ))

-- no key of a list is below its first
pub below_first : (key : ℕ) (row : ℕ × List ℕ) (rows : List (ℕ × List ℕ)) → IsAscending (row ∷ rows) → key < row.0
    → row_at key (row ∷ rows) ≡ None
below_first key row rows up lt =
    row_at-none key (row ∷ rows) (
      (λ e. omega arith),
      AreKeys-weaker (λ k. row.0 < k) (λ k. key ≢ k) rows (λ k h e. omega arith)
          (ascending_head row rows up),
    )

-- behind the first row of either list the others are found as before
past_row : (row : ℕ × List ℕ) (rows others : List (ℕ × List ℕ)) (key : ℕ) → key ≢ row.0 → DifferAt (row ∷ rows) others key
    → DifferAt rows others key
past_row row rows others key past d = record {
  content = d.content;
  other = d.other;
  has_content = sym (row_at-past key row rows past) ∙ d.has_content;
  has_other = d.has_other;
  differ = d.differ;
}

before_row : (row : ℕ × List ℕ) (rows others : List (ℕ × List ℕ)) (key : ℕ) → key ≢ row.0 → DifferAt rows others key
    → DifferAt (row ∷ rows) others key
before_row row rows others key past d = record {
  content = d.content;
  other = d.other;
  has_content = row_at-past key row rows past ∙ d.has_content;
  has_other = d.has_other;
  differ = d.differ;
}

turned : (rows others : List (ℕ × List ℕ)) (key : ℕ) → DifferAt rows others key → DifferAt others rows key
turned rows others key d = record {
  content = d.other;
  other = d.content;
  has_content = d.has_other;
  has_other = d.has_content;
  differ = λ e. d.differ (sym e);
}

-- they do not differ at a key that one has not
not_missed : (rows others : List (ℕ × List ℕ)) (key other : ℕ) → row_at key others ≡ None → DifferAt rows others other → other ≢ key
not_missed rows others key other none d same =
    let e : None ≡ Some d.other = sym (ap (λ (k : ℕ). row_at k others) same ∙ none) ∙ d.has_other in absurd cc

-- a row whose key the others do not have makes no difference
skipped : (row : ℕ × List ℕ) (rows others : List (ℕ × List ℕ)) → row_at row.0 others ≡ None
    → SameDifferences (row ∷ rows) others rows others
skipped row rows others none = (
  λ key d. past_row row rows others key (not_missed (row ∷ rows) others row.0 key none d) d,
  λ key d. before_row row rows others key (not_missed rows others row.0 key none d) d,
)

skip : (row : ℕ × List ℕ) (rows : List (ℕ × List ℕ)) (other : ℕ × List ℕ) (others : List (ℕ × List ℕ)) → IsAscending (other ∷ others)
    → row.0 < other.0
    → Follows (row ∷ rows) (other ∷ others) rows (other ∷ others)
skip row rows other others up lt =
    same_first (row ∷ rows) (other ∷ others) rows (other ∷ others)
    (skipped row rows (other ∷ others) (below_first row.0 other others up lt))

skip_other : (row : ℕ × List ℕ) (rows : List (ℕ × List ℕ)) (other : ℕ × List ℕ) (others : List (ℕ × List ℕ)) → IsAscending (row ∷ rows)
    → other.0 < row.0
    → Follows (row ∷ rows) (other ∷ others) (row ∷ rows) others
skip_other row rows other others up lt =
    let s = skipped other others (row ∷ rows) (below_first other.0 row rows up lt) in
    same_first (row ∷ rows) (other ∷ others) (row ∷ rows) others (
      λ key d. turned others (row ∷ rows) key (s.0 key (turned (row ∷ rows) (other ∷ others) key d)),
      λ key d. turned (other ∷ others) (row ∷ rows) key (s.1 key (turned (row ∷ rows) others key d)),
    )

-- nor does one that both have
pub no_more : (row : ℕ × List ℕ) (rows : List (ℕ × List ℕ)) → IsAscending (row ∷ rows) → row_at row.0 rows ≡ None
no_more row rows up = row_at-none row.0 rows (AreKeys-weaker (λ k. row.0 < k) (λ k. row.0 ≢ k) rows (λ k h e. omega arith)
    (ascending_head row rows up))

skip_both : (row : ℕ × List ℕ) (rows : List (ℕ × List ℕ)) (other : ℕ × List ℕ) (others : List (ℕ × List ℕ)) → IsAscending (row ∷ rows)
    → IsAscending (other ∷ others)
    → row.0 ≡ other.0 → row.1 ≡ other.1 → Follows (row ∷ rows) (other ∷ others) rows others
skip_both row rows other others up more key content =
    let none : row_at row.0 others ≡ None = ap (λ (k : ℕ). row_at k others) key ∙ no_more other others more in
    same_first (row ∷ rows) (other ∷ others) rows others (
      λ k d.
          let past : k ≢ row.0 = λ same.
          let mine : Some row.1 ≡ Some d.content = sym (row_at-here k row rows same) ∙ d.has_content in
          let its : Some other.1 ≡ Some d.other = sym (row_at-here k other others (same ∙ key)) ∙ d.has_other in
          let one : d.content ≡ d.other = cc in
          d.differ one in
          let beyond : k ≢ other.0 = λ same. past (same ∙ sym key) in
          turned others rows k (past_row other others rows k beyond
          (turned rows (other ∷ others) k (past_row row rows (other ∷ others) k past d))),
      λ k d.
          let past : k ≢ row.0 = not_missed rows others row.0 k none d in
          let beyond : k ≢ other.0 = λ same. past (same ∙ sym key) in
          before_row row rows (other ∷ others) k past
          (turned (other ∷ others) rows k (before_row other others rows k beyond (turned rows others k d))),
    )

-- the first difference is at the first row of both
differ_here : (row : ℕ × List ℕ) (rows : List (ℕ × List ℕ)) (other : ℕ × List ℕ) (others : List (ℕ × List ℕ)) → IsAscending (row ∷ rows)
    → row.0 ≡ other.0 → row.1 ≢ other.1 → IsFirstDifference (row ∷ rows) (other ∷ others) (Some row.0)
differ_here row rows other others up key differ = (
  record {
    content = row.1;
    other = other.1;
    has_content = row_at-here row.0 row rows refl;
    has_other = row_at-here row.0 other others key;
    differ = differ;
  },
  λ lower lt found. let e : None ≡ Some found.content = sym (below_first lower row rows up lt) ∙ found.has_content in absurd cc,
)

none_left : (others : List (ℕ × List ℕ)) → IsFirstDifference [] others None
none_left others key found = let e : None ≡ Some found.content = found.has_content in absurd cc

no_others_left : (rows : List (ℕ × List ℕ)) → IsFirstDifference rows [] None
no_others_left rows key found = let e : None ≡ Some found.other = found.has_other in absurd cc

-- ---- going over both

pub greater_from : (key other : ℕ) → nat_cmp key other ≡ Greater → other < key
greater_from key other e = elim (cases_order key other) [
  | inl same ↦ let e2 : Equal ≡ nat_cmp key other = nat_cmp_is key other Equal same in absurd cc
  | inr apart ↦ elim apart [
    | inl lt ↦ let e2 : Less ≡ nat_cmp key other = nat_cmp_is key other Less lt in absurd cc
    | inr gt ↦ gt
  ]
]

-- the first row was taken, and it and those behind it are all
pub taken : {R S : Type 0} (content : R → List ℕ) (left : S → List (ℕ × List ℕ)) (old : S) (first : Option (ℕ × R)) (new : S)
    → YieldsFirstBy (λ row. (row.0, content row.1)) left old first new → left old ≡ behind content first (left new)
taken content left old None new yields = yields.0
taken content left old (Some row) new yields = yields

-- what is left of both, behind rows that make no difference
pub record Walk (all all_others rows others : List (ℕ × List ℕ)) : Type 0 where
  pub ascending : IsAscending rows
  pub others_ascending : IsAscending others
  pub follows : Follows all all_others rows others

module _ (all all_others : List (ℕ × List ℕ)) where
  pub walk_begins : (rows others : List (ℕ × List ℕ)) → all ≡ rows → all_others ≡ others → IsAscending all → IsAscending all_others
      → Walk all all_others rows others
  walk_begins rows others e e_others up more = record {
    ascending = subst IsAscending e up;
    others_ascending = subst IsAscending e_others more;
    follows = λ found first. rw (e, e_others) first;
  }

  pub walk_taken : {R : Type 0} (content : R → List ℕ) (first other_first : Option (ℕ × R)) (row other : ℕ × R)
      (rows others : List (ℕ × List ℕ))
      → Walk all all_others (behind content first rows) (behind content other_first others) → first ≡ Some row → other_first ≡ Some other
      → Walk all all_others ((row.0, content row.1) ∷ rows) ((other.0, content other.1) ∷ others)
  walk_taken {R = R} content first other_first row other rows others walk is other_is =
      subst (λ (o : Option (ℕ × R)). Walk all all_others ((row.0, content row.1) ∷ rows) (behind content o others)) other_is
      (subst (λ (f : Option (ℕ × R)). Walk all all_others (behind content f rows) (behind content other_first others)) is walk)

  pub walk_ends : {R : Type 0} (content : R → List ℕ) (first : Option (ℕ × R)) (rows others : List (ℕ × List ℕ))
      → Walk all all_others (behind content first rows) others → first ≡ None → IsFirstDifference all all_others None
  walk_ends {R = R} content first rows others walk is =
      walk.follows None (subst (λ (f : Option (ℕ × R)). IsFirstDifference (behind content f rows) others None) (sym is) (none_left others))

  pub others_end : {R : Type 0} (content : R → List ℕ) (other_first : Option (ℕ × R)) (rows others : List (ℕ × List ℕ))
      → Walk all all_others rows (behind content other_first others) → other_first ≡ None → IsFirstDifference all all_others None
  others_end {R = R} content other_first rows others walk is =
      walk.follows None (subst (λ (f : Option (ℕ × R)). IsFirstDifference rows (behind content f others) None) (sym is)
      (no_others_left rows))

  module _ (row other : ℕ × List ℕ) (rows others : List (ℕ × List ℕ)) (walk : Walk all all_others (row ∷ rows) (other ∷ others)) where
    pub walk_less : (rest : List (ℕ × List ℕ)) → nat_cmp row.0 other.0 ≡ Less → rows ≡ rest → Walk all all_others rest (other ∷ others)
    walk_less rest less e = subst (λ (l : List (ℕ × List ℕ)). Walk all all_others l (other ∷ others)) e (record {
      ascending = ascending_tail row rows walk.ascending;
      others_ascending = walk.others_ascending;
      follows = λ found first. walk.follows found
          (skip row rows other others walk.others_ascending (less_from row.0 other.0 less) found first);
    })

    pub walk_greater : (rest : List (ℕ × List ℕ)) → nat_cmp row.0 other.0 ≡ Greater → others ≡ rest → Walk all all_others (row ∷ rows) rest
    walk_greater rest greater e = subst (λ (l : List (ℕ × List ℕ)). Walk all all_others (row ∷ rows) l) e (record {
      ascending = walk.ascending;
      others_ascending = ascending_tail other others walk.others_ascending;
      follows = λ found first. walk.follows found
          (skip_other row rows other others walk.ascending (greater_from row.0 other.0 greater) found first);
    })

    pub walk_equal : (rest rest_others : List (ℕ × List ℕ)) → nat_cmp row.0 other.0 ≡ Equal → row.1 ≡ other.1 → rows ≡ rest
        → others ≡ rest_others
        → Walk all all_others rest rest_others
    walk_equal rest rest_others equal content e e_others =
        subst (λ (l : List (ℕ × List ℕ)). Walk all all_others l rest_others) e
        (subst (λ (l : List (ℕ × List ℕ)). Walk all all_others rows l) e_others (record {
          ascending = ascending_tail row rows walk.ascending;
          others_ascending = ascending_tail other others walk.others_ascending;
          follows = λ found first. walk.follows found
              (skip_both row rows other others walk.ascending walk.others_ascending (exact_unsigned row.0 other.0 equal) content found
              first);
        }))

    pub walk_differs : nat_cmp row.0 other.0 ≡ Equal → row.1 ≢ other.1 → IsFirstDifference all all_others (Some row.0)
    walk_differs equal differ =
        walk.follows (Some row.0) (differ_here row rows other others walk.ascending (exact_unsigned row.0 other.0 equal) differ)
