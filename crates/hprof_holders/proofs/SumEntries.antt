-- The entries of counts, as sums.
use Rattle.std.specs.Prelude.{Contains, bytes_eq, cond}
use Rattle.std.proofs.Common.{◌≡◌, ℕ, ◌<◌, Bool, true, false, String, List, [], ◌∷◌, length, map, Option, Some}
use Rattle.std.proofs.Common.{refl, sym, ap, subst, ◌∙◌, inl, inr, arith, string_bytes}
use Rattle.std.specs.BTreeMap.{is_at}
use Rattle.std.specs.Cmp.Lexicographic.{slice_cmp}
use Rattle.std.specs.List.{AllByRecursion, IsDistinct, filter}
use Rattle.std.specs.List.Sorted.{IsPermutation, IsStrictlySortedBy}
use Rattle.std.specs.Map.{keys_of, lookup}
use Rattle.std.specs.Ordering.{eq_by_cmp, is_eq, nat_cmp}
use Rattle.std.specs.String.{string_cmp}
use Rattle.std.proofs.lemmas.Bool.{both_ways}
use Rattle.std.proofs.lemmas.List.Sorted.{Contains-permutation, IsPermutation-sym}
use Rattle.std.proofs.lemmas.Map.Keys.{IsDistinct-from_sorted}
use Rattle.std.proofs.lemmas.Map.Text.{is_eq-slice_cmp}
use Rattle.std.proofs.lemmas.Slice.Eq.{bytes_eq-Decides}
use Rattle.hprof_histogram.proofs.Members.{IsIn, Contains-from_in, all_in, in_from_Contains}
use Rattle.hprof_holders.specs.declared.sums.Sums.{Sums}
use Rattle.hprof_holders.specs.SumCounts.{AreCounted, entry_value}
use Rattle.hprof_holders.specs.Sums.{AreSums, SumValue, sum_cmp, times_in}
use Rattle.hprof_holders.proofs.Counting.{some_are, times_are}
use Rattle.hprof_holders.proofs.SumOrder.{same_text}

-- ---- texts are different

module _ {A : Type 0} where
  abbrev sums_of : List (String A × ℕ) → List SumValue
  sums_of entries = map entry_value entries

  apart_after : (key : String A) (count : ℕ) (entries : List (String A × ℕ))
      → AllByRecursion (λ other. eq_by_cmp string_cmp key other ≡ false) (keys_of entries)
      → AllByRecursion (λ sum. bytes_eq (string_bytes key) sum.text ≡ false) (sums_of entries)
  apart_after key count [] apart = tt
  apart_after key count (entry ∷ entries) apart =
      (sym (is_eq-slice_cmp (string_bytes key) (string_bytes entry.0)) ∙ apart.0, apart_after key count entries apart.1)

  entries_apart : (entries : List (String A × ℕ)) → IsDistinct (eq_by_cmp string_cmp) (keys_of entries)
      → IsDistinct same_text (sums_of entries)
  unfolding IsDistinct
  entries_apart [] apart = tt
  entries_apart (entry ∷ entries) apart = (apart_after entry.0 entry.1 entries apart.0, entries_apart entries apart.1)

  pub sums_apart : (entries : List (String A × ℕ)) → IsStrictlySortedBy string_cmp (keys_of entries)
      → IsDistinct same_text (sums_of entries)
  sums_apart entries sorted = entries_apart entries (IsDistinct-from_sorted string_cmp (keys_of entries) sorted)

  -- ---- what is found

  abbrev found : List ℕ → List (String A × ℕ) → Option ℕ
  found text entries = lookup (is_at (λ key. slice_cmp nat_cmp text (string_bytes key))) entries

  found_from_in : (sum : SumValue) (entries : List (String A × ℕ)) → IsDistinct same_text (sums_of entries) → IsIn sum (sums_of entries)
      → found sum.text entries ≡ Some sum.count
  unfolding IsDistinct
  found_from_in sum [] apart has = absurd has
  found_from_in sum (entry ∷ entries) apart has =
      by_test (is_eq (slice_cmp nat_cmp sum.text (string_bytes entry.0))) refl (found_from_in sum entries apart.1) where
        by_test : (b : Bool) → is_eq (slice_cmp nat_cmp sum.text (string_bytes entry.0)) ≡ b
            → (IsIn sum (sums_of entries) → found sum.text entries ≡ Some sum.count)
            → cond b (Some entry.1) (found sum.text entries) ≡ Some sum.count
        by_test true e later = elim has [
          | inl is ↦ ap Some (sym (ap (λ (s : SumValue). s.count) is))
          | inr rest ↦
              let same = (bytes_eq-Decides sum.text (string_bytes entry.0)).0 (sym (is_eq-slice_cmp sum.text (string_bytes entry.0)) ∙ e) in
              let other = all_in (λ (s : SumValue). bytes_eq (string_bytes entry.0) s.text ≡ false) (sums_of entries) sum apart.0 rest in
              absurd (both_ways _ other ((bytes_eq-Decides (string_bytes entry.0) sum.text).1 (sym same)))
        ]
        by_test false e later = elim has [
          | inl is ↦
              absurd (both_ways _ e (is_eq-slice_cmp sum.text (string_bytes entry.0)
              ∙ (bytes_eq-Decides sum.text (string_bytes entry.0)).1 (ap (λ (s : SumValue). s.text) is)))
          | inr rest ↦ later rest
        ]

  in_from_found : (sum : SumValue) (entries : List (String A × ℕ)) → found sum.text entries ≡ Some sum.count → IsIn sum (sums_of entries)
  in_from_found sum [] e = absurd cc
  in_from_found sum (entry ∷ entries) e =
      by_test (is_eq (slice_cmp nat_cmp sum.text (string_bytes entry.0))) refl e (in_from_found sum entries) where
        by_test : (b : Bool) → is_eq (slice_cmp nat_cmp sum.text (string_bytes entry.0)) ≡ b
            → cond b (Some entry.1) (found sum.text entries) ≡ Some sum.count
            → (found sum.text entries ≡ Some sum.count → IsIn sum (sums_of entries)) → IsIn sum (sums_of (entry ∷ entries))
        by_test true f is later =
            let texts = (bytes_eq-Decides sum.text (string_bytes entry.0)).0 (sym (is_eq-slice_cmp sum.text (string_bytes entry.0)) ∙ f) in
            let kept : Some entry.1 ≡ Some sum.count = is in
            let counts : entry.1 ≡ sum.count = cc in
            inl (λ i. record { text = texts i; count = sym counts i })
        by_test false f is later = inr (later is)

-- ---- a text stands among others, if it stands there at least once

some_time : (text : List ℕ) (texts : List (List ℕ)) → IsIn text texts → 0 < times_in text texts
some_time text [] has = absurd has
some_time text (first ∷ texts) has = by (bytes_eq text first) refl (some_time text texts) where
  by : (b : Bool) → bytes_eq text first ≡ b → (IsIn text texts → 0 < times_in text texts)
      → 0 < length (cond b (first ∷ filter (bytes_eq text) texts) (filter (bytes_eq text) texts))
  by true e later = omega arith
  by false e later = elim has [
    | inl is ↦ absurd (both_ways _ e ((bytes_eq-Decides text first).1 is))
    | inr rest ↦ later rest
  ]

stands : (text : List ℕ) (texts : List (List ℕ)) → 0 < times_in text texts → IsIn text texts
stands text [] some = absurd (omega (arith, some))
stands text (first ∷ texts) some = by (bytes_eq text first) refl some (stands text texts) where
  by : (b : Bool) → bytes_eq text first ≡ b
      → 0 < length (cond b (first ∷ filter (bytes_eq text) texts) (filter (bytes_eq text) texts))
      → (0 < times_in text texts → IsIn text texts) → IsIn text (first ∷ texts)
  by true e is later = inl ((bytes_eq-Decides text first).0 e)
  by false e is later = inr (later is)

-- ---- the sums of what is counted

module _ (texts : List (List ℕ)) (counts : Sums) (counted : AreCounted texts counts) (all ordered : List SumValue)
    (all_are : all ≡ map entry_value counts.counts.entries) (apart : IsDistinct same_text all) where
  there : (sum : SumValue) → Contains all sum → Contains texts sum.text × (sum.count ≡ times_in sum.text texts)
  there sum has =
      let entries = counts.counts.entries in
      let kept = found_from_in sum entries (subst (IsDistinct same_text) all_are apart)
      (subst (IsIn sum) all_are (in_from_Contains all sum has)) in
      let times = times_are (times_in sum.text texts) sum.count (sym (counted sum.text) ∙ kept) in
      (Contains-from_in texts sum.text (stands sum.text texts times.1), times.0)

  back : (sum : SumValue) → Contains texts sum.text × (sum.count ≡ times_in sum.text texts) → Contains all sum
  back sum is =
      let kept = counted sum.text
      ∙ some_are (times_in sum.text texts) (some_time sum.text texts (in_from_Contains texts sum.text is.0)) ∙ ap Some (sym is.1) in
      Contains-from_in all sum (subst (IsIn sum) (sym all_are) (in_from_found sum counts.counts.entries kept))

  pub counted_sums : IsPermutation all ordered → IsStrictlySortedBy sum_cmp ordered → AreSums texts ordered
  counted_sums moved sorted = record {
    ordered = sorted;
    exact = λ sum. (
      λ has. there sum (Contains-permutation ordered all sum (IsPermutation-sym all ordered moved) has),
      λ is. Contains-permutation all ordered sum moved (back sum is),
    );
  }
