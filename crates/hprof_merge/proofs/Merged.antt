-- What is left of lists, and what was taken from them.
use Rattle.std.proofs.Common.{◌≡◌, ◌<◌, ◌≤◌, ◌+◌, ◌++◌, ◌⊎◌, ℕ, List, [], ◌∷◌, refl, sym, subst, inl, inr, arith}
use Rattle.std.specs.Prelude.{◌↔◌}
use Rattle.std.proofs.lemmas.Bool.{cases_eq, cases_lt}
use Rattle.hprof_merge.specs.Rows.{ByteRow, Has, IsAscending}
use Rattle.hprof_merge.specs.Union.{rows_at, AnyHas, AllAscend, IsUnionBelow}
use Rattle.hprof_merge.specs.TwoContents.{HasTwoContents, IsLeastWithTwoContents}
use Rattle.hprof_merge.specs.Merging.{AllAbove}
use Rattle.hprof_merge.specs.Run.{Runs}
use Rattle.hprof_merge.proofs.Lists.{Has-front, one_at_key}
use Rattle.hprof_merge.proofs.Lists.{Has-append, append-has, append-last, append-ascending}

-- lists of which the rows from a bound on are left
pub record AreLeft (was now : List (List ByteRow)) (bound : ℕ) : Type 0 where
  pub ascend : AllAscend now
  pub same : (row : ByteRow) → AnyHas now row ↔ (AnyHas was row × (bound ≤ row.0))

-- a key with two contents among those that are left, below which all were taken, is the least
pub least_contents : (was now : List (List ByteRow)) (key : ℕ) (front : List ByteRow) → AreLeft was now key → IsUnionBelow was key front
    → HasTwoContents now key → IsLeastWithTwoContents was key
least_contents was now key front left taken contents = record {
  contents = record {
    one = contents.one;
    other = contents.other;
    has_one = ((left.same (key, contents.one)).0 contents.has_one).0;
    has_other = ((left.same (key, contents.other)).0 contents.has_other).0;
    differ = contents.differ;
  };
  least = λ lower lt two. two.differ (
      one_at_key front taken.ascends lower two.one two.other ((taken.same (lower, two.one)).1 (two.has_one, lt))
      ((taken.same (lower, two.other)).1 (two.has_other, lt))
      );
}

-- ---- the row that is held is taken, behind those below its key

module _ (was now : List (List ByteRow)) (held : ℕ) (row : ByteRow) (rest : List ByteRow) (is : rows_at now held ≡ row ∷ rest)
    (left : AreLeft was now row.0)
    (above : AllAbove row.0 held now) where
  -- each row with its key is that row; all others that are left are above it
  one_or_above : (other : ByteRow) → AnyHas now other → (other ≡ row) ⊎ (row.0 < other.0)
  one_or_above other has = elim (cases_eq has.0 held) [
    | inl here ↦
        let P : ℕ → Type 0 = λ k. Has (rows_at now k) other in
        let Q : List ByteRow → Type 0 = λ l. Has l other in
        let R : List ByteRow → Type 0 = λ l. IsAscending l in
        let there : Has (row ∷ rest) other = subst Q is (subst P here has.1) in
        let up : IsAscending (row ∷ rest) = subst R is (left.ascend held) in
        elim there [
          | inl same ↦ inl same
          | inr behind ↦ inr (up.0 other behind)
        ]
    | inr apart ↦ inr (above has.0 apart other has.1)
  ]

  held_has : AnyHas now row
  held_has = (held, Has-front (rows_at now held) row rest is)

  pub taken_more : (front : List ByteRow) → IsUnionBelow was row.0 front → IsUnionBelow was (row.0 + 1) (front ++ row ∷ [])
  taken_more front taken = record {
    ascends = append-ascending front row taken.ascends (λ other has. ((taken.same other).0 has).1);
    same = λ other. (
      (λ has. elim (Has-append front row other has) [
        | inl there ↦ let both = (taken.same other).0 there in let lt = both.1 in (both.0, omega arith)
        | inr same ↦
            let P : ByteRow → Type 0 = λ r. AnyHas was r × (r.0 < row.0 + 1) in
            subst P (sym same) (((left.same row).0 held_has).0, omega arith)
      ]),
      (λ both. let lt = both.1 in elim (cases_lt other.0 row.0) [
        | inl below ↦ append-has front row other ((taken.same other).1 (both.0, below))
        | inr from ↦ elim (one_or_above other ((left.same other).1 (both.0, from))) [
          | inl same ↦ let P : ByteRow → Type 0 = λ r. Has (front ++ row ∷ []) r in subst P (sym same) (append-last front row)
          | inr more ↦ absurd (omega arith)
        ]
      ]),
    );
  }

-- ---- a run

pub Runs-append : {T : Type 0} (steps : T → ℕ → List ℕ → T → Type 0) (old : T) (rows : List ByteRow) (mid : T) (row : ByteRow) (new : T)
    → Runs steps old rows mid → steps mid row.0 row.1 new → Runs steps old (rows ++ row ∷ []) new
Runs-append {T} steps old [] mid row new run step =
    let P : T → Type 0 = λ t. steps t row.0 row.1 new in
    (new, subst P (sym run) step, refl)
Runs-append steps old (first ∷ rows) mid row new run step = (run.0, run.1, Runs-append steps run.0 rows mid row new run.2 step)
