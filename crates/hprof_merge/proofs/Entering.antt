-- Cursors whose first keys are put into a contest, one after the other.
use Rattle.std.proofs.Common.{◌≡◌, ◌≢◌, ◌<◌, ◌≤◌, ◌+◌, ℕ, zero, suc, List, [], ◌∷◌, Option, None, sym, ap, subst, ◌∙◌, inl, inr, arith}
use Rattle.std.proofs.Common.{length, map, set, get_or, false}
use Rattle.std.specs.Prelude.{◌↔◌, IsTrue}
use Rattle.std.proofs.lemmas.List.{get_or-set_same, get_or-set_other}
use Rattle.std.proofs.lemmas.Bool.{cases_eq}
use Rattle.hprof_merge.specs.Rows.{ByteRow, IsAscending, first_key, HaveSameFirst}
use Rattle.hprof_merge.specs.Union.{rows_at, AllAscend}
use Rattle.hprof_merge.specs.Tree.{head_at}
use Rattle.hprof_merge.proofs.Lists.{rows_at-map}

-- the first keys of the first lists are in it
abbrev pub MatchesUpTo : ℕ → List (Option ℕ) → List (List ByteRow) → Type 0
MatchesUpTo count heads lists = (place : ℕ) → place < count → head_at heads place ≡ first_key (rows_at lists place)

module _ {C : Type 0} (rows : C → List ByteRow) (cursors : List C) (place : ℕ) (cursor : C) (lt : place < length cursors)
    (is : cursor ≡ get_or cursors place cursor) where
  pub rows_there : rows_at (map rows cursors) place ≡ rows cursor
  rows_there = rows_at-map rows cursors place cursor lt ∙ ap rows (sym is)

  pub one_more_head : (heads new : List (Option ℕ)) (head : Option ℕ) → length heads ≡ length cursors → head ≡ first_key (rows cursor)
      → new ≡ set heads place head → MatchesUpTo place heads (map rows cursors) → MatchesUpTo (place + 1) new (map rows cursors)
  one_more_head heads new head count head_is new_is matches at at_lt =
      ap (λ (l : List (Option ℕ)). head_at l at) new_is ∙ elim (cases_eq at place) [
        | inl here ↦
            let there : place < length heads = omega arith in
            let P : ℕ → Type 0 = λ k. head_at (set heads place head) k ≡ first_key (rows_at (map rows cursors) k) in
            subst P (sym here) (get_or-set_same heads place head None there ∙ head_is ∙ ap first_key (sym rows_there))
        | inr apart ↦
            let below : at < place = omega arith in
            get_or-set_other heads place at head None apart ∙ matches at below
      ]

  pub no_more_heads : (heads new : List (Option ℕ)) (head : Option ℕ) → new ≡ set heads place head
      → ((at : ℕ) → place ≤ at → head_at heads at ≡ None) → (at : ℕ) → place + 1 ≤ at → head_at new at ≡ None
  no_more_heads heads new head new_is none at le =
      let apart : at ≢ place = λ e. omega arith in
      ap (λ (l : List (Option ℕ)). head_at l at) new_is ∙ get_or-set_other heads place at head None apart ∙ none at (omega arith)

-- the rows of all cursors ascend, where those of each do
pub all_ascend : {C : Type 0} (rows : C → List ByteRow) → ((cursor : C) → IsAscending (rows cursor)) → (cursors : List C)
    → AllAscend (map rows cursors)
all_ascend rows each [] place = tt
all_ascend rows each (cursor ∷ cursors) zero = each cursor
all_ascend rows each (cursor ∷ cursors) (suc place) = all_ascend rows each cursors place

-- two cursors that have the same first row have lists that do
pub same_lists : {C : Type 0} (rows : C → List ByteRow) (cursors : List C) (held place : ℕ) (one other : C) → held < length cursors
    → place < length cursors → one ≡ get_or cursors held one → other ≡ get_or cursors place other
    → HaveSameFirst (rows_at (map rows cursors) held) (rows_at (map rows cursors) place) ↔ HaveSameFirst (rows one) (rows other)
same_lists rows cursors held place one other held_lt lt one_is other_is =
    let P : List ByteRow → List ByteRow → Type 0 = λ l m. HaveSameFirst l m in
    let first : rows_at (map rows cursors) held ≡ rows one = rows_there rows cursors held one held_lt one_is in
    let second : rows_at (map rows cursors) place ≡ rows other = rows_there rows cursors place other lt other_is in (
      (λ same. subst (λ (l : List ByteRow). P l (rows other)) first
          (subst (λ (m : List ByteRow). P (rows_at (map rows cursors) held) m) second same)),
      (λ same. subst (λ (l : List ByteRow). P l (rows_at (map rows cursors) place)) (sym first)
          (subst (λ (m : List ByteRow). P (rows one) m) (sym second) same)),
    )

pub not_true : IsTrue false → ⊥
not_true e = cc
