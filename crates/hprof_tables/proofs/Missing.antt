-- The rows that one of two lists lacks: they are known from what is left of both.
use Rattle.std.proofs.Common.{◌≡◌, ◌≢◌, ◌<◌, ◌≤◌, ◌++◌, ℕ, List, [], ◌∷◌, length, Option, Some, None, Result, Ok, Err, refl, sym, ap, subst}
use Rattle.std.proofs.Common.{◌∙◌, inl, inr, arith}
use Rattle.std.specs.Prelude.{OnErr}
use Rattle.std.specs.declared.cmp.Ordering.TheVariants.{Less, Equal, Greater}
use Rattle.std.specs.Ordering.{nat_cmp}
use Rattle.std.proofs.lemmas.Bool.{cases_order, cases_lt}
use Rattle.std.proofs.lemmas.List.{append-nil, append_assoc}
use Rattle.std.proofs.lemmas.Map.Lookups.{exact_unsigned}
use Rattle.hprof_tables.specs.Relation.{contents_of}
use Rattle.hprof_tables.specs.SideBySide.{AreMissing, LacksOne, only_other}
use Rattle.hprof_tables.specs.SortedRows.{row_at, IsAscending, AreKeys}
use Rattle.hprof_tables.proofs.SideBySide.{behind, below_first, greater_from}
use Rattle.hprof_tables.proofs.SortedRows.{AreKeys-weaker, ascending_cons, ascending_head, ascending_tail, less_from, row_at-here}
use Rattle.hprof_tables.proofs.SortedRows.{row_at-past, row_at-none}

neither : (found : Option (List ℕ)) → only_other found None ≡ None
neither None = refl
neither (Some content) = refl

-- rows in order of which none is found up to a key are above it
above : (bound : ℕ) (rows : List (ℕ × List ℕ)) → IsAscending rows → ((key : ℕ) → key ≤ bound → row_at key rows ≡ None)
    → AreKeys (λ key. bound < key) rows
above bound [] up none = tt
above bound (row ∷ rows) up none = elim (cases_lt bound row.0) [
  | inl lt ↦ (lt, AreKeys-weaker (λ key. row.0 < key) (λ key. bound < key) rows (λ key h. omega arith) (ascending_head row rows up))
  | inr le ↦ let e : None ≡ Some row.1 = sym (none row.0 le) ∙ row_at-here row.0 row rows refl in absurd cc
]

-- none is found up to the first key among those behind it
none_up_to : (key : ℕ) (row : ℕ × List ℕ) (rows : List (ℕ × List ℕ)) → IsAscending (row ∷ rows) → key ≤ row.0 → row_at key rows ≡ None
none_up_to key row rows up le =
    row_at-none key rows (AreKeys-weaker (λ k. row.0 < k) (λ k. key ≢ k) rows (λ k h e. omega arith) (ascending_head row rows up))

-- ---- what only the others have

-- what only one of two has is there, and not in the other
only_is : (found other : Option (List ℕ)) (content : List ℕ) → only_other found other ≡ Some content → (other ≡ Some content)
    × (found ≡ None)
only_is None other content e = (e, refl)
only_is (Some row) other content e = absurd cc

only_nothing : (found other : Option (List ℕ)) (content : List ℕ) → other ≡ None → only_other found other ≡ Some content → ⊥
only_nothing found other content none e =
    let is : None ≡ Some content = sym (neither found) ∙ ap (only_other found) (sym none) ∙ e in cc

-- a row of the others at a key at which the rows have none
lacks_one : (rows others : List (ℕ × List ℕ)) (key : ℕ) (content : List ℕ) → only_other (row_at key rows) (row_at key others) ≡ Some content
    → LacksOne rows others
lacks_one rows others key content e = let is = only_is (row_at key rows) (row_at key others) content e in (key, content, is.0, is.1)

-- where a row is missing the rows lack it
pub missing_lacks : {V : Type 0} (content : V → List ℕ) (rows others : List (ℕ × List ℕ)) (missing : List (ℕ × V))
    → AreMissing rows others (contents_of content missing) → 0 < length missing → LacksOne rows others
missing_lacks content rows others [] are some = absurd (omega (arith, some))
missing_lacks content rows others (row ∷ missing) are some =
    lacks_one rows others row.0 (content row.1)
    (sym (are.each row.0) ∙ row_at-here row.0 (row.0, content row.1) (contents_of content missing) refl)

-- where they lack none, none is missing
pub lacks_none : {V : Type 0} (content : V → List ℕ) (rows others : List (ℕ × List ℕ)) (missing : List (ℕ × V))
    → AreMissing rows others (contents_of content missing) → (LacksOne rows others → ⊥) → length missing ≡ 0
lacks_none content rows others [] are none = refl
lacks_none content rows others (row ∷ missing) are none =
    absurd (none (missing_lacks content rows others (row ∷ missing) are (omega arith)))

-- what holds in any case holds where memory is refused
pub on_err : {A E P : Type 0} (r : Result A E) → P → OnErr r P
on_err (Ok done) p = tt
on_err (Err e) p = p

-- ---- a step

row_skipped : (row : ℕ × List ℕ) (rows others : List (ℕ × List ℕ)) → row_at row.0 others ≡ None → (key : ℕ)
    → only_other (row_at key rows) (row_at key others) ≡ only_other (row_at key (row ∷ rows)) (row_at key others)
row_skipped row rows others none key = elim (cases_order key row.0) [
  | inl same ↦
      let its : row_at key others ≡ None = ap (λ (k : ℕ). row_at k others) same ∙ none in
      ap (only_other (row_at key rows)) its ∙ neither (row_at key rows)
      ∙ sym (ap (only_other (row_at key (row ∷ rows))) its ∙ neither (row_at key (row ∷ rows)))
  | inr apart ↦
      let past : key ≢ row.0 = λ same. elim apart [ inl lt ↦ omega arith | inr gt ↦ omega arith ] in
      ap (λ (found : Option (List ℕ)). only_other found (row_at key others)) (sym (row_at-past key row rows past))
]

pair_skipped : (row : ℕ × List ℕ) (rows : List (ℕ × List ℕ)) (other : ℕ × List ℕ) (others : List (ℕ × List ℕ))
    → IsAscending (other ∷ others)
    → row.0 ≡ other.0 → (key : ℕ)
    → only_other (row_at key rows) (row_at key others) ≡ only_other (row_at key (row ∷ rows)) (row_at key (other ∷ others))
pair_skipped row rows other others more same key = elim (cases_order key row.0) [
  | inl here ↦
      let its : row_at key others ≡ None = none_up_to key other others more (omega arith) in
      ap (only_other (row_at key rows)) its ∙ neither (row_at key rows)
      ∙ sym (ap (λ (found : Option (List ℕ)). only_other found (row_at key (other ∷ others))) (row_at-here key row rows here))
  | inr apart ↦
      let past : key ≢ row.0 = λ e. elim apart [ inl lt ↦ omega arith | inr gt ↦ omega arith ] in
      let beyond : key ≢ other.0 = λ e. past (e ∙ sym same) in
      ap (λ (found : Option (List ℕ)). only_other found (row_at key others)) (sym (row_at-past key row rows past))
      ∙ ap (only_other (row_at key (row ∷ rows))) (sym (row_at-past key other others beyond))
]

-- what only those behind the first have, only the others have
other_kept : (rows : List (ℕ × List ℕ)) (other : ℕ × List ℕ) (others : List (ℕ × List ℕ)) → IsAscending (other ∷ others)
    → (key : ℕ) (content : List ℕ)
    → only_other (row_at key rows) (row_at key others) ≡ Some content → only_other (row_at key rows) (row_at key (other ∷ others))
    ≡ Some content
other_kept rows other others more key content e = elim (cases_order key other.0) [
  | inl here ↦
      let le : key ≤ other.0 = omega (arith, here) in
      absurd (only_nothing (row_at key rows) (row_at key others) content (none_up_to key other others more le) e)
  | inr apart ↦
      let past : key ≢ other.0 = λ same. elim apart [ inl lt ↦ omega arith | inr gt ↦ omega arith ] in
      ap (only_other (row_at key rows)) (row_at-past key other others past) ∙ e
]

skip_row : (row : ℕ × List ℕ) (rows : List (ℕ × List ℕ)) (others missing : List (ℕ × List ℕ)) → IsAscending (row ∷ rows)
    → row_at row.0 others ≡ None
    → AreMissing rows others missing → AreMissing (row ∷ rows) others missing
skip_row row rows others missing up none are = record {
  ascends = are.ascends;
  each = λ key. are.each key ∙ row_skipped row rows others none key;
}

skip_pair : (row : ℕ × List ℕ) (rows : List (ℕ × List ℕ)) (other : ℕ × List ℕ) (others missing : List (ℕ × List ℕ))
    → IsAscending (other ∷ others)
    → row.0 ≡ other.0 → AreMissing rows others missing → AreMissing (row ∷ rows) (other ∷ others) missing
skip_pair row rows other others missing more same are = record {
  ascends = are.ascends;
  each = λ key. are.each key ∙ pair_skipped row rows other others more same key;
}

keep_other : (rows : List (ℕ × List ℕ)) (other : ℕ × List ℕ) (others missing : List (ℕ × List ℕ)) → IsAscending (other ∷ others)
    → row_at other.0 rows ≡ None
    → AreMissing rows others missing → AreMissing rows (other ∷ others) (other ∷ missing)
keep_other rows other others missing more none are = record {
  ascends = ascending_cons other missing
      (above other.0 missing are.ascends (λ key le. are.each key
      ∙ ap (only_other (row_at key rows)) (none_up_to key other others more le) ∙ neither (row_at key rows)))
      are.ascends;
  each = λ key. elim (cases_order key other.0) [
    | inl here ↦
        row_at-here key other missing here
        ∙ sym (ap (λ (found : Option (List ℕ)). only_other found (row_at key (other ∷ others))) (ap (λ (k : ℕ). row_at k rows) here ∙ none)
        ∙ row_at-here key other others here)
    | inr apart ↦
        let past : key ≢ other.0 = λ e. elim apart [ inl lt ↦ omega arith | inr gt ↦ omega arith ] in
        row_at-past key other missing past ∙ are.each key ∙ ap (only_other (row_at key rows)) (sym (row_at-past key other others past))
  ];
}

nothing_missing : (rows : List (ℕ × List ℕ)) → IsAscending {V = List ℕ} [] → AreMissing rows [] []
nothing_missing rows up = record { ascends = up; each = λ key. sym (neither (row_at key rows)) }

-- ---- going over both

-- what is left of both, behind the rows that were found to be missing
pub record Search (all all_others rows others found : List (ℕ × List ℕ)) : Type 0 where
  pub ascending : IsAscending rows
  pub others_ascending : IsAscending others
  pub follows : (missing : List (ℕ × List ℕ)) → AreMissing rows others missing → AreMissing all all_others (found ++ missing)
  pub only : (key : ℕ) (content : List ℕ) → only_other (row_at key rows) (row_at key others) ≡ Some content
      → only_other (row_at key all) (row_at key all_others) ≡ Some content

module _ (all all_others : List (ℕ × List ℕ)) where
  pub search_begins : (rows others : List (ℕ × List ℕ)) → all ≡ rows → all_others ≡ others → IsAscending all → IsAscending all_others
      → Search all all_others rows others []
  search_begins rows others e e_others up more = record {
    ascending = subst IsAscending e up;
    others_ascending = subst IsAscending e_others more;
    follows = λ missing are. rw (e, e_others) are;
    only = λ key content is. rw (e, e_others) is;
  }

  pub search_ends : {R : Type 0} (content : R → List ℕ) (other_first : Option (ℕ × R)) (rows others found : List (ℕ × List ℕ))
      → Search all all_others rows (behind content other_first others) found → other_first ≡ None → AreMissing all all_others found
  search_ends {R = R} content other_first rows others found s is =
      let none : behind content other_first others ≡ [] = ap (λ (o : Option (ℕ × R)). behind content o others) is in
      subst (AreMissing all all_others) (append-nil found)
      (s.follows [] (subst (λ (l : List (ℕ × List ℕ)). AreMissing rows l []) (sym none)
      (nothing_missing rows (subst IsAscending none s.others_ascending))))

  pub search_taken : {S R : Type 0} (own : S → List ℕ) (content : R → List ℕ) (first : Option (ℕ × S)) (other_first : Option (ℕ × R))
      (row : ℕ × S) (other : ℕ × R)
      (rows others found : List (ℕ × List ℕ))
      → Search all all_others (behind own first rows) (behind content other_first others) found → first ≡ Some row
      → other_first ≡ Some other
      → Search all all_others ((row.0, own row.1) ∷ rows) ((other.0, content other.1) ∷ others) found
  search_taken {S = S} {R = R} own content first other_first row other rows others found s is other_is =
      subst (λ (o : Option (ℕ × R)). Search all all_others ((row.0, own row.1) ∷ rows) (behind content o others) found) other_is
      (subst (λ (f : Option (ℕ × S)). Search all all_others (behind own f rows) (behind content other_first others) found) is s)

  pub search_ended : {S R : Type 0} (own : S → List ℕ) (content : R → List ℕ) (first : Option (ℕ × S)) (other_first : Option (ℕ × R))
      (other : ℕ × R)
      (rows others found : List (ℕ × List ℕ))
      → Search all all_others (behind own first rows) (behind content other_first others) found → first ≡ None → other_first ≡ Some other
      → Search all all_others [] ((other.0, content other.1) ∷ others) found
  search_ended {S = S} {R = R} own content first other_first other rows others found s is other_is =
      subst (λ (o : Option (ℕ × R)). Search all all_others [] (behind content o others) found) other_is
      (subst (λ (f : Option (ℕ × S)). Search all all_others (behind own f rows) (behind content other_first others) found) is s)

  kept : (rows : List (ℕ × List ℕ)) (other : ℕ × List ℕ) (others found rest : List (ℕ × List ℕ))
      → Search all all_others rows (other ∷ others) found
      → row_at other.0 rows ≡ None → others ≡ rest → Search all all_others rows rest (found ++ other ∷ [])
  kept rows other others found rest s none e = subst (λ (l : List (ℕ × List ℕ)). Search all all_others rows l (found ++ other ∷ [])) e
      (record {
        ascending = s.ascending;
        others_ascending = ascending_tail other others s.others_ascending;
        follows = λ missing are. subst (AreMissing all all_others) (sym (append_assoc found (other ∷ []) missing))
            (s.follows (other ∷ missing) (keep_other rows other others missing s.others_ascending none are));
        only = λ key content is. s.only key content (other_kept rows other others s.others_ascending key content is);
      })

  -- the first of the others is lacked where none of the rows has its key
  lacked : (rows : List (ℕ × List ℕ)) (other : ℕ × List ℕ) (others found : List (ℕ × List ℕ))
      → Search all all_others rows (other ∷ others) found
      → row_at other.0 rows ≡ None → LacksOne all all_others
  lacked rows other others found s none =
      lacks_one all all_others other.0 other.1 (s.only other.0 other.1
      (ap (λ (row : Option (List ℕ)). only_other row (row_at other.0 (other ∷ others))) none ∙ row_at-here other.0 other others refl))

  pub lacked_past : (other : ℕ × List ℕ) (others found : List (ℕ × List ℕ)) → Search all all_others [] (other ∷ others) found
      → LacksOne all all_others
  lacked_past other others found s = lacked [] other others found s refl

  -- a row of the others behind the last of these is missing
  pub search_past : (other : ℕ × List ℕ) (others found rest : List (ℕ × List ℕ)) → Search all all_others [] (other ∷ others) found
      → others ≡ rest
      → Search all all_others [] rest (found ++ other ∷ [])
  search_past other others found rest s e = kept [] other others found rest s refl e

  module _ (row other : ℕ × List ℕ) (rows others found : List (ℕ × List ℕ)) (s : Search all all_others (row ∷ rows) (other ∷ others)
      found) where
    pub search_less : (rest : List (ℕ × List ℕ)) → nat_cmp row.0 other.0 ≡ Less → rows ≡ rest
        → Search all all_others rest (other ∷ others) found
    search_less rest less e = subst (λ (l : List (ℕ × List ℕ)). Search all all_others l (other ∷ others) found) e (record {
      ascending = ascending_tail row rows s.ascending;
      others_ascending = s.others_ascending;
      follows = λ missing are. s.follows missing (skip_row row rows (other ∷ others) missing s.ascending
          (below_first row.0 other others s.others_ascending (less_from row.0 other.0 less)) are);
      only = λ key content is. s.only key content (sym (row_skipped row rows (other ∷ others)
          (below_first row.0 other others s.others_ascending (less_from row.0 other.0 less)) key) ∙ is);
    })

    pub search_greater : (rest : List (ℕ × List ℕ)) → nat_cmp row.0 other.0 ≡ Greater → others ≡ rest
        → Search all all_others (row ∷ rows) rest (found ++ other ∷ [])
    search_greater rest greater e =
        kept (row ∷ rows) other others found rest s (below_first other.0 row rows s.ascending (greater_from row.0 other.0 greater)) e

    pub lacked_greater : nat_cmp row.0 other.0 ≡ Greater → LacksOne all all_others
    lacked_greater greater = lacked (row ∷ rows) other others found s (below_first other.0 row rows s.ascending
        (greater_from row.0 other.0 greater))

    pub search_equal : (rest rest_others : List (ℕ × List ℕ)) → nat_cmp row.0 other.0 ≡ Equal → rows ≡ rest → others ≡ rest_others
        → Search all all_others rest rest_others found
    search_equal rest rest_others equal e e_others =
        subst (λ (l : List (ℕ × List ℕ)). Search all all_others l rest_others found) e
        (subst (λ (l : List (ℕ × List ℕ)). Search all all_others rows l found) e_others (record {
          ascending = ascending_tail row rows s.ascending;
          others_ascending = ascending_tail other others s.others_ascending;
          follows = λ missing are. s.follows missing
              (skip_pair row rows other others missing s.others_ascending (exact_unsigned row.0 other.0 equal) are);
          only = λ key content is. s.only key content
              (sym (pair_skipped row rows other others s.others_ascending (exact_unsigned row.0 other.0 equal) key) ∙ is);
        }))

-- one more was found
pub contents-append : {V : Type 0} (content : V → List ℕ) (rows : List (ℕ × V)) (row : ℕ × V)
    → contents_of content (rows ++ row ∷ []) ≡ contents_of content rows ++ (row.0, content row.1) ∷ []
contents-append content [] row = refl
contents-append content (first ∷ rows) row = ap (λ (rest : List (ℕ × List ℕ)). (first.0, content first.1) ∷ rest)
    (contents-append content rows row)
