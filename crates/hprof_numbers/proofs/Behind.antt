-- Lists that are put one behind the other.
use Rattle.std.proofs.Common.{◌≡◌, ◌⊎◌, ◌<◌, ◌≤◌, ◌+◌, ℕ, zero, suc, List, [], ◌∷◌, ◌++◌, length, inl, inr, refl, ap, sym, subst, ◌∙◌}
use Rattle.std.proofs.Common.{arith}
use Rattle.std.specs.Prelude.{◌↔◌, slice_index}
use Rattle.std.proofs.Math.Seq.{get_or-append_seam}
use Rattle.std.proofs.lemmas.List.{get_or_append_left, get_or_past, length-append}
use Rattle.hprof_numbers.specs.Appends.{Appends}
use Rattle.hprof_numbers.specs.Ends.{start_at}
use Rattle.hprof_numbers.proofs.Arriving.{last}
use Rattle.hprof_numbers.proofs.Filling.{less}

-- each list ends at or behind its start, and the last one where the items end
pub record AreRows (ends items : List ℕ) : Type 0 where
  pub within : (number : ℕ) → number < length ends → slice_index ends number ≤ length items
  pub ascend : (number : ℕ) → number < length ends → start_at ends number ≤ slice_index ends number
  pub whole : start_at ends (length ends) ≡ length items

-- the one stands in the list of a number
abbrev pub IsInRow : List ℕ → List ℕ → ℕ → ℕ → Type 0
IsInRow ends items number one =
    (place : ℕ) × (start_at ends number ≤ place) × (place < slice_index ends number) × (slice_index items place ≡ one)

pub no_rows : AreRows [] []
no_rows = record { within = λ number low. absurd (omega (arith, low)); ascend = λ number low. absurd (omega (arith, low)); whole = refl }

-- what has a list has a number
pub row_low : (ends items : List ℕ) (number one : ℕ) → IsInRow ends items number one → number < length ends
row_low ends items number one listed = elim (less number (length ends)) [
  | inl low ↦ low
  | inr not ↦ absurd (omega (arith, listed.2, get_or_past ends number 0 not))
]

-- a list begins where it did, when another is put behind
starts_still : (ends : List ℕ) (end number : ℕ) → number ≤ length ends → start_at (ends ++ end ∷ []) number ≡ start_at ends number
starts_still ends end zero low = refl
starts_still ends end (suc number) low = get_or_append_left ends (end ∷ []) 0 number (omega (arith, low))

module _ (Came : ℕ → Type 0) (ends items then : List ℕ) (rows : AreRows ends items) (appends : Appends Came items then) where
  abbrev ends_then : List ℕ
  ends_then = ends ++ length then ∷ []

  more : length ends_then ≡ length ends + 1
  more = length-append ends (length then ∷ [])

  end_still : (number : ℕ) → number < length ends → slice_index ends_then number ≡ slice_index ends number
  end_still number low = get_or_append_left ends (length then ∷ []) 0 number low

  end_now : slice_index ends_then (length ends) ≡ length then
  end_now = get_or-append_seam ends (length then) [] 0

  start_now : start_at ends_then (length ends) ≡ length items
  start_now = starts_still ends (length then) (length ends) (omega arith) ∙ rows.whole

  pub rows_more : AreRows ends_then then
  rows_more = record {
    within = λ number low. elim (last number (length ends) (omega (arith, low, more))) [
      | inl before ↦ omega (arith, end_still number before, rows.within number before, appends.longer)
      | inr is ↦ omega (arith, ap (slice_index ends_then) is, end_now)
    ];
    ascend = λ number low. elim (last number (length ends) (omega (arith, low, more))) [
      | inl before ↦ omega (
        arith,
        starts_still ends (length then) number (omega (arith, before)),
        end_still number before,
        rows.ascend number before,
      )
      | inr is ↦ omega (arith, ap (start_at ends_then) is, start_now, ap (slice_index ends_then) is, end_now, appends.longer)
    ];
    whole = let next : length ends_then ≡ suc (length ends) = omega (arith, more) in ap (start_at ends_then) next ∙ end_now;
  }

  -- the lists before stay
  pub row_before : (number one : ℕ) → number < length ends → IsInRow ends_then then number one ↔ IsInRow ends items number one
  row_before number one low =
      let start = starts_still ends (length then) number (omega (arith, low)) in
      let end = end_still number low in (
        λ it.
            let inside : it.0 < length items = omega (arith, it.2, end, rows.within number low) in
            (it.0, omega (arith, it.1, start), omega (arith, it.2, end), sym (appends.kept it.0 inside) ∙ it.3),
        λ it.
            let inside : it.0 < length items = omega (arith, it.2, rows.within number low) in
            (it.0, omega (arith, it.1, start), omega (arith, it.2, end), appends.kept it.0 inside ∙ it.3),
      )

  -- and the last has what came
  pub row_last : (one : ℕ) → IsInRow ends_then then (length ends) one ↔ Came one
  row_last one = (
    λ it. subst Came it.3 (appends.only it.0 (omega (arith, it.1, start_now)) (omega (arith, it.2, end_now))),
    λ came. let it = appends.all one came in (it.0, omega (arith, it.1, start_now), omega (arith, it.2, end_now), it.3),
  )

-- ---- what is put behind, one after the other

pub appends_none : (Came : ℕ → Type 0) (items : List ℕ) → ((one : ℕ) → Came one → ⊥) → Appends Came items items
appends_none Came items none = record {
  longer = omega arith;
  kept = λ place low. refl;
  only = λ place low high. absurd (omega (arith, low, high));
  all = λ number came. absurd (none number came);
}

pub appends_same : (Came Other : ℕ → Type 0) (items then : List ℕ) → ((one : ℕ) → Came one → Other one)
    → ((one : ℕ) → Other one → Came one) → Appends Came items then → Appends Other items then
appends_same Came Other items then to from appends = record {
  longer = appends.longer;
  kept = appends.kept;
  only = λ place low high. to _ (appends.only place low high);
  all = λ number came. appends.all number (from number came);
}

pub appends_more : (Came Other : ℕ → Type 0) (items then : List ℕ) (number : ℕ) → ((one : ℕ) → Came one → Other one) → Other number
    → ((one : ℕ) → Other one → Came one ⊎ (one ≡ number)) → Appends Came items then → Appends Other items (then ++ number ∷ [])
appends_more Came Other items then number to now from appends = record {
  longer = omega (arith, more, appends.longer);
  kept = λ place low. still place (omega (arith, low, appends.longer)) ∙ appends.kept place low;
  only = λ place low high. elim (last place (length then) (omega (arith, high, more))) [
    | inl before ↦ subst Other (sym (still place before)) (to _ (appends.only place low before))
    | inr is ↦ subst Other (sym (ap (slice_index (then ++ number ∷ [])) is ∙ seam)) now
  ];
  all = λ one came. elim (from one came) [
    | inl before ↦
        let it = appends.all one before in
        (it.0, it.1, omega (arith, it.2, more), still it.0 it.2 ∙ it.3)
    | inr is ↦ (length then, appends.longer, omega (arith, more), seam ∙ sym is)
  ];
} where
  more : length (then ++ number ∷ []) ≡ length then + 1
  more = length-append then (number ∷ [])

  still : (place : ℕ) → place < length then → slice_index (then ++ number ∷ []) place ≡ slice_index then place
  still place low = get_or_append_left then (number ∷ []) 0 place low

  seam : slice_index (then ++ number ∷ []) (length then) ≡ number
  seam = get_or-append_seam then number [] 0

-- ---- an empty list more

module _ (ends items : List ℕ) (rows : AreRows ends items) where
  none : Appends (λ one. ⊥) items items
  none = appends_none (λ one. ⊥) items (λ one came. came)

  pub rows_and_empty : AreRows (ends ++ length items ∷ []) items
  rows_and_empty = rows_more (λ one. ⊥) ends items items rows none

  pub row_and_empty : (number one : ℕ) → IsInRow (ends ++ length items ∷ []) items number one ↔ IsInRow ends items number one
  row_and_empty number one = (
    λ it.
        let low = row_low (ends ++ length items ∷ []) items number one it in
        elim (last number (length ends) (omega (arith, low, length-append ends (length items ∷ [])))) [
          | inl before ↦ (row_before (λ other. ⊥) ends items items rows none number one before).0 it
          | inr is ↦ absurd ((row_last (λ other. ⊥) ends items items rows none one).0
              (subst (λ (n : ℕ). IsInRow (ends ++ length items ∷ []) items n one) is it))
        ],
    λ it. (row_before (λ other. ⊥) ends items items rows none number one (row_low ends items number one it)).1 it,
  )
