-- The labels that are kept.
use Rattle.std.proofs.Common.{◌≡◌, ℕ, String, Bool, true, false, cond, List, [], ◌∷◌, Option, Some, None, map, is_some, unwrap_or, refl}
use Rattle.std.proofs.Common.{sym, ap, ◌∙◌, inl, inr, string_bytes}
use Rattle.std.specs.Prelude.{bytes_eq}
use Rattle.std.specs.BTreeMap.{get_by_text, keys}
use Rattle.std.specs.Cmp.Lexicographic.{slice_cmp}
use Rattle.std.specs.List.{AllByRecursion, IsDistinct}
use Rattle.std.specs.List.Sorted.{IsStrictlySortedBy}
use Rattle.std.specs.Map.{keys_of, lookup, update}
use Rattle.std.specs.Ordering.{eq_by_cmp, is_eq, nat_cmp}
use Rattle.std.specs.BTreeMap.{is_at}
use Rattle.std.specs.String.{string_cmp}
use Rattle.std.proofs.lemmas.Bool.{both_ways}
use Rattle.std.proofs.lemmas.Map.Keys.{IsDistinct-from_sorted}
use Rattle.std.proofs.lemmas.Map.Text.{is_eq-slice_cmp}
use Rattle.std.proofs.lemmas.Slice.Eq.{bytes_eq-Decides}
use Rattle.hprof_histogram.proofs.Members.{IsIn}
use Rattle.hprof_diff.specs.declared.counted.Counted.{Counted}
use Rattle.hprof_diff.specs.declared.label_counts.LabelCounts.{LabelCounts}
use Rattle.hprof_diff.specs.Sources.{both, nothing}
use Rattle.hprof_diff.specs.Kept.{has_label, kept_in, labels_in}

module _ {A : Type 0} where
  -- the labels of entries
  abbrev texts_of : List (String A × Counted) → List (List ℕ)
  texts_of entries = map string_bytes (keys_of entries)

  abbrev found : List ℕ → List (String A × Counted) → Option Counted
  found text entries = lookup (is_at (λ key. slice_cmp nat_cmp text (string_bytes key))) entries

  in_from_found : (text : List ℕ) (entries : List (String A × Counted)) → is_some (found text entries) ≡ true → IsIn text (texts_of entries)
  in_from_found text [] some = absurd (both_ways false refl some)
  in_from_found text (entry ∷ entries) some =
      by_test (is_eq (slice_cmp nat_cmp text (string_bytes entry.0))) refl some (in_from_found text entries) where
        by_test : (b : Bool) → is_eq (slice_cmp nat_cmp text (string_bytes entry.0)) ≡ b
            → is_some (cond b (Some entry.1) (found text entries)) ≡ true
            → (is_some (found text entries) ≡ true → IsIn text (texts_of entries)) → IsIn text (texts_of (entry ∷ entries))
        by_test true e has later =
            inl ((bytes_eq-Decides text (string_bytes entry.0)).0 (sym (is_eq-slice_cmp text (string_bytes entry.0)) ∙ e))
        by_test false e has later = inr (later has)

  found_from_in : (text : List ℕ) (entries : List (String A × Counted)) → IsIn text (texts_of entries) → is_some (found text entries) ≡ true
  found_from_in text [] has = absurd has
  found_from_in text (entry ∷ entries) has =
      by_test (is_eq (slice_cmp nat_cmp text (string_bytes entry.0))) refl (found_from_in text entries) where
        by_test : (b : Bool) → is_eq (slice_cmp nat_cmp text (string_bytes entry.0)) ≡ b
            → (IsIn text (texts_of entries) → is_some (found text entries) ≡ true)
            → is_some (cond b (Some entry.1) (found text entries)) ≡ true
        by_test true e later = refl
        by_test false e later = elim has [
          | inl same ↦
              absurd (both_ways _ e (is_eq-slice_cmp text (string_bytes entry.0) ∙ (bytes_eq-Decides text (string_bytes entry.0)).1 same))
          | inr rest ↦ later rest
        ]

  texts_after : (key : String A) (ks : List (String A)) → AllByRecursion (λ other. eq_by_cmp string_cmp key other ≡ false) ks
      → AllByRecursion (λ text. bytes_eq (string_bytes key) text ≡ false) (map string_bytes ks)
  texts_after key [] apart = tt
  texts_after key (other ∷ ks) apart =
      (sym (is_eq-slice_cmp (string_bytes key) (string_bytes other)) ∙ apart.0, texts_after key ks apart.1)

  texts_distinct : (ks : List (String A)) → IsDistinct (eq_by_cmp string_cmp) ks → IsDistinct bytes_eq (map string_bytes ks)
  unfolding IsDistinct
  texts_distinct [] apart = tt
  texts_distinct (key ∷ ks) apart = (texts_after key ks apart.0, texts_distinct ks apart.1)

-- a label is kept once
pub labels_distinct : (counts : LabelCounts) → IsStrictlySortedBy string_cmp (keys counts.labels) → IsDistinct bytes_eq (labels_in counts)
labels_distinct counts sorted = texts_distinct (keys counts.labels) (IsDistinct-from_sorted string_cmp (keys counts.labels) sorted)

pub in_labels : (counts : LabelCounts) (text : List ℕ) → has_label counts text ≡ true → IsIn text (labels_in counts)
in_labels counts text has = in_from_found text counts.labels.entries has

pub label_in : (counts : LabelCounts) (text : List ℕ) → IsIn text (labels_in counts) → has_label counts text ≡ true
label_in counts text has = found_from_in text counts.labels.entries has

-- of a label that is not kept nothing is
pub none_kept : (counts : LabelCounts) (text : List ℕ) → has_label counts text ≡ false → kept_in counts text ≡ nothing
none_kept counts text none = by_option (get_by_text counts.labels text) none where
  by_option : (o : Option Counted) → is_some o ≡ false → unwrap_or o nothing ≡ nothing
  by_option None e = refl
  by_option (Some counted) e = absurd (both_ways true e refl)

-- what is kept after an insertion
pub kept_updated : (old new : LabelCounts) (label text : List ℕ) (counted sum : Counted) → sum ≡ both (kept_in old label) counted
    → get_by_text new.labels text ≡ update bytes_eq (get_by_text old.labels) label (Some sum) text
    → kept_in new text ≡ cond (bytes_eq label text) (both (kept_in old text) counted) (kept_in old text)
kept_updated old new label text counted sum is updates = ap (λ (o : Option Counted). unwrap_or o nothing) updates
    ∙ by_test (bytes_eq label text) refl where
      by_test : (b : Bool) → bytes_eq label text ≡ b → unwrap_or (cond b (Some sum) (get_by_text old.labels text)) nothing
          ≡ cond b (both (kept_in old text) counted) (kept_in old text)
      by_test true e = is ∙ ap (λ (l : List ℕ). both (kept_in old l) counted) ((bytes_eq-Decides label text).0 e)
      by_test false e = refl
