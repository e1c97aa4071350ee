-- The contents of rows: what holds of the rows holds of them.
use Rattle.std.proofs.Common.{◌≡◌, ◌⊎◌, ℕ, List, Option, Some, None, refl, sym, ap, subst, ◌∙◌, inl, inr}
use Rattle.std.specs.List.Sorted.{IsStrictlySortedBy}
use Rattle.std.specs.Option.{option_map, option_or}
use Rattle.std.specs.Ordering.{nat_cmp}
use Rattle.std.specs.BTreeMap.{is_at}
use Rattle.std.proofs.lemmas.Map.Made.{lookup-map_values, keys_of-map_values}
use Rattle.hprof_tables.specs.Relation.{contents_of}
use Rattle.hprof_tables.specs.SideBySide.{AreMissing, only_other}
use Rattle.hprof_tables.specs.SortedRows.{row_at, IsAscending}
use Rattle.hprof_tables.specs.Union.{AreApart, AreUnion}

-- one list of them has its way at a key, and the other has what it lacks
or_only : (found other : Option (List ℕ)) → option_or found (only_other found other) ≡ option_or found other
or_only None other = refl
or_only (Some content) other = refl

module _ {V : Type 0} (content : V → List ℕ) where
  pub contents_up : (rows : List (ℕ × V)) → IsAscending rows → IsAscending (contents_of content rows)
  contents_up rows up = subst (IsStrictlySortedBy nat_cmp) (sym (keys_of-map_values content rows)) up

  contents_down : (rows : List (ℕ × V)) → IsAscending (contents_of content rows) → IsAscending rows
  contents_down rows up = subst (IsStrictlySortedBy nat_cmp) (keys_of-map_values content rows) up

  contents-row : (key : ℕ) (rows : List (ℕ × V)) → row_at key (contents_of content rows) ≡ option_map content (row_at key rows)
  contents-row key rows = lookup-map_values content (is_at (nat_cmp key)) rows

  or-map : (found other : Option V) → option_map content (option_or found other) ≡ option_or (option_map content found)
      (option_map content other)
  or-map None other = refl
  or-map (Some row) other = refl

  map-none : (found : Option V) → option_map content found ≡ None → found ≡ None
  map-none None e = refl
  map-none (Some row) e = cc

  -- ---- rows that were missing

  -- rows that were missing of what iterators had left
  pub missing_of : (left other_left rows others : List (ℕ × V)) (missing : List (ℕ × List ℕ)) → left ≡ rows → other_left ≡ others
      → AreMissing (contents_of content left) (contents_of content other_left) missing
      → AreMissing (contents_of content rows) (contents_of content others) missing
  missing_of left other_left rows others missing e e_others are =
      subst (λ (l : List (ℕ × V)). AreMissing (contents_of content rows) (contents_of content l) missing) e_others
      (subst (λ (l : List (ℕ × V)). AreMissing (contents_of content l) (contents_of content other_left) missing) e are)

  -- ---- and of the contents

  pub union_contents : (rows fresh all : List (ℕ × V)) → AreUnion rows fresh all
      → AreUnion (contents_of content rows) (contents_of content fresh) (contents_of content all)
  union_contents rows fresh all union = record {
    ascends = contents_up all union.ascends;
    each = λ key.
        contents-row key all ∙ ap (option_map content) (union.each key) ∙ or-map (row_at key rows) (row_at key fresh)
        ∙ ap (λ (found : Option (List ℕ)). option_or found (option_map content (row_at key fresh))) (sym (contents-row key rows))
        ∙ ap (option_or (row_at key (contents_of content rows))) (sym (contents-row key fresh));
  }

  pub apart_rows : (rows fresh : List (ℕ × V)) (old : List (ℕ × List ℕ)) (new : List (ℕ × List ℕ)) → contents_of content rows ≡ old
      → contents_of content fresh ≡ new
      → AreApart old new → AreApart rows fresh
  apart_rows rows fresh old new e_old e_new apart key = elim (apart key) [
    | inl none ↦ inl (map-none (row_at key rows) (sym (contents-row key rows) ∙ ap (λ (l : List (ℕ × List ℕ)). row_at key l) e_old ∙ none))
    | inr none ↦ inr (map-none (row_at key fresh) (sym (contents-row key fresh) ∙ ap (λ (l : List (ℕ × List ℕ)). row_at key l) e_new
        ∙ none))
  ]

  pub ascend_of : (fresh : List (ℕ × V)) (new : List (ℕ × List ℕ)) → contents_of content fresh ≡ new → IsAscending new → IsAscending fresh
  ascend_of fresh new e up = contents_down fresh (subst IsAscending (sym e) up)

-- ---- contents that were missing

pub apart_missing : (rows others missing : List (ℕ × List ℕ)) → AreMissing rows others missing → AreApart rows missing
apart_missing rows others missing are key = by_row (row_at key rows) refl
  where
    by_row : (found : Option (List ℕ)) → row_at key rows ≡ found → (row_at key rows ≡ None) ⊎ (row_at key missing ≡ None)
    by_row None is = inl is
    by_row (Some content) is = inr (are.each key ∙ ap (λ (found : Option (List ℕ)). only_other found (row_at key others)) is)

pub union_missing : (rows others missing all : List (ℕ × List ℕ)) → AreMissing rows others missing → AreUnion rows missing all
    → AreUnion rows others all
union_missing rows others missing all are union = record {
  ascends = union.ascends;
  each = λ key. union.each key ∙ ap (option_or (row_at key rows)) (are.each key) ∙ or_only (row_at key rows) (row_at key others);
}

-- rows of bytes that were missing of what iterators had left
pub bytes_missing : (left other_left rows others missing : List (ℕ × List ℕ)) → left ≡ rows → other_left ≡ others
    → AreMissing left other_left missing → AreMissing rows others missing
bytes_missing left other_left rows others missing e e_others are =
    subst (λ (l : List (ℕ × List ℕ)). AreMissing rows l missing) e_others
    (subst (λ (l : List (ℕ × List ℕ)). AreMissing l other_left missing) e are)
