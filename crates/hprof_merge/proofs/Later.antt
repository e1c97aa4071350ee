-- Rows that ascending cursors show later.
use Rattle.std.proofs.Common.{◌≡◌, ◌<◌, ◌++◌, ◌⊎◌, ℕ, List, [], ◌∷◌, Option, Some, inl, inr, refl, sym, ap, subst, ◌∙◌, arith, length}
use Rattle.std.proofs.Common.{get_or}
use Rattle.std.proofs.lemmas.List.{length-map}
use Rattle.hprof_merge.specs.Rows.{ByteRow, Has, IsAscending}
use Rattle.hprof_merge.specs.Union.{rows_at, AnyHas, AllFrom}
use Rattle.hprof_merge.specs.Showing.{only, all_shown, Shows, AllShow}
use Rattle.hprof_merge.specs.TwoContents.{IsLeastWithTwoContents}
use Rattle.hprof_merge.proofs.Lists.{rows_at-map, place_of_row}
use Rattle.hprof_merge.proofs.Showing.{only-has}
use Rattle.hprof_merge.proofs.Unions.{either_has, front_has, back_has, least_same, later_rows}

module _ {C : Type 0} (shown : C → Option ByteRow) (goes : C → C → Type 0)
    (rises : (old new : C) (row next : ByteRow) → goes old new → shown old ≡ Some row → shown new ≡ Some next → row.0 < next.0) where
  -- what is shown behind the first row is above it
  shows_above : (old new : C) (row : ByteRow) (rows : List ByteRow) → Shows shown goes old (row ∷ rows) new → (other : ByteRow)
      → Has rows other
      → row.0 < other.0
  shows_above old new row [] shows other has = absurd has
  shows_above old new row (next ∷ rows) shows other has =
      let mid : C = shows.1.0 in
      let lt : row.0 < next.0 = rises old mid row next shows.1.1 shows.0 shows.1.2.0 in
      elim has [
        | inl e ↦ let same : other.0 ≡ next.0 = ap (λ (r : ByteRow). r.0) e in omega arith
        | inr behind ↦ let more = shows_above mid new next rows shows.1.2 other behind in omega arith
      ]

  pub shows_ascend : (old new : C) (rows : List ByteRow) → Shows shown goes old rows new → IsAscending rows
  shows_ascend old new [] shows = tt
  shows_ascend old new (row ∷ rows) shows = (shows_above old new row rows shows, shows_ascend shows.1.0 new rows shows.1.2)

  -- the row that is shown in the end is above all before
  pub shows_below : (old new : C) (rows : List ByteRow) (next : ByteRow) → Shows shown goes old rows new → shown new ≡ Some next
      → (row : ByteRow)
      → Has rows row
      → row.0 < next.0
  shows_below old new [] next shows is row has = absurd has
  shows_below old new (first ∷ rows) next shows is row (inr behind) = shows_below shows.1.0 new rows next shows.1.2 is row behind
  shows_below old new (first ∷ []) next shows is row (inl e) =
      let mid : C = shows.1.0 in
      let lt : first.0 < next.0 = rises old mid first next shows.1.1 shows.0 (ap shown shows.1.2 ∙ is) in
      let same : row.0 ≡ first.0 = ap (λ (r : ByteRow). r.0) e in
      omega arith
  shows_below old new (first ∷ second ∷ rows) next shows is row (inl e) =
      let mid : C = shows.1.0 in
      let lt : first.0 < second.0 = rises old mid first second shows.1.1 shows.0 shows.1.2.0 in
      let more = shows_below mid new (second ∷ rows) next shows.1.2 is second (inl refl) in
      let same : row.0 ≡ first.0 = ap (λ (r : ByteRow). r.0) e in
      omega arith

  -- each row is shown already, or above a row that is
  shown_or_above : (old new : C) (rows : List ByteRow) → Shows shown goes old rows new → (row : ByteRow) → Has rows row
      → (shown old ≡ Some row) ⊎ ((first : ByteRow) × (shown old ≡ Some first) × (first.0 < row.0))
  shown_or_above old new [] shows row has = absurd has
  shown_or_above old new (first ∷ rows) shows row (inl e) = inl (shows.0 ∙ ap (λ (r : ByteRow). Some r) (sym e))
  shown_or_above old new (first ∷ rows) shows row (inr behind) = inr (first, shows.0, shows_above old new first rows shows row behind)

  pub later_above : (old new : List C) (later : List (List ByteRow)) (key : ℕ) → AllShow shown goes old new later
      → AllFrom key (all_shown shown old)
      → (row : ByteRow) → AnyHas later row → AnyHas (all_shown shown old) row ⊎ (key < row.0)
  later_above [] new later key all from row has =
      let lt = place_of_row later has.0 row has.1 in let none = all.lists in absurd (omega arith)
  later_above (cursor ∷ cursors) new later key all from row has =
      let place : ℕ = has.0 in
      let inside = place_of_row later place row has.1 in
      let as_many = all.lists in
      let lt : place < length (cursor ∷ cursors) = omega arith in
      let here : C = get_or (cursor ∷ cursors) place cursor in
      let is : rows_at (all_shown shown (cursor ∷ cursors)) place ≡ only (shown here) =
      rows_at-map (λ one. only (shown one)) (cursor ∷ cursors) place cursor lt in
      let P : List ByteRow → ByteRow → Type 0 = λ l r. Has l r in
      let there : (one : ByteRow) → shown here ≡ Some one → Has (rows_at (all_shown shown (cursor ∷ cursors)) place) one =
      λ one shows. subst (λ (l : List ByteRow). P l one) (sym (is ∙ ap only shows)) (inl refl) in
      elim (shown_or_above here (get_or new place cursor) (rows_at later place) (all.each place cursor lt) row has.1) [
        | inl shows ↦ inl (place, there row shows)
        | inr above ↦ let le = from above.0 (place, there above.0 above.1) in let more = above.2 in inr (omega arith)
      ]

  -- up to the end, the rows that are shown come among the later ones
  shown_later : (old new : List C) (later : List (List ByteRow)) → AllShow shown goes old new later
      → ((row : ByteRow) → AnyHas (all_shown shown new) row → ⊥)
      → (row : ByteRow) → AnyHas (all_shown shown old) row → AnyHas later row
  shown_later [] new later all ended row has = absurd has.1
  shown_later (cursor ∷ cursors) new later all ended row has =
      let old : List C = cursor ∷ cursors in
      let place : ℕ = has.0 in
      let inside = place_of_row (all_shown shown old) place row has.1 in
      let lt : place < length old = omega (arith, length-map old (λ one. only (shown one))) in
      let here : C = get_or old place cursor in
      let after : C = get_or new place cursor in
      let P : List ByteRow → Type 0 = λ l. Has l row in
      let is : shown here ≡ Some row =
      only-has (shown here) row (subst P (rows_at-map (λ one. only (shown one)) old place cursor lt) has.1) in
      let after_lt : place < length new = omega (arith, all.count) in
      let ended_here : shown after ≡ Some row → ⊥ =
      λ same. ended row (
        place,
        subst P (sym (rows_at-map (λ one. only (shown one)) new place cursor after_lt ∙ ap only same))
            (inl refl),
      ) in
      (place, among here after row (rows_at later place) (all.each place cursor lt) is ended_here)
    where
      among : (here after : C) (row : ByteRow) (rows : List ByteRow) → Shows shown goes here rows after → shown here ≡ Some row
          → (shown after ≡ Some row → ⊥)
          → Has rows row
      among here after row [] same is never = absurd (never (ap shown (sym same) ∙ is))
      among here after row (first ∷ rows) shows is never = let both : Some row ≡ Some first = sym is ∙ shows.0 in inl cc

  -- the least key with two contents stays the least
  pub least_later : (old new : List C) (came later : List (List ByteRow)) (key : ℕ) → AllShow shown goes old new later
      → ((row : ByteRow) → AnyHas (all_shown shown new) row → ⊥) → AllFrom key (all_shown shown old)
      → IsLeastWithTwoContents (came ++ all_shown shown old) key → IsLeastWithTwoContents (came ++ later) key
  least_later old new came later key all ended from least =
      let now : List (List ByteRow) = all_shown shown old in
      least_same ((came ++ now) ++ later) (came ++ later) (λ row. (
        (λ has. elim (either_has (came ++ now) later row has.0 has.1) [
          | inl early ↦ elim (either_has came now row early.0 early.1) [
            | inl before ↦ front_has came later row before.0 before.1
            | inr shows ↦ back_has came later row (shown_later old new later all ended row shows)
          ]
          | inr behind ↦ back_has came later row behind
        ]),
        (λ has. elim (either_has came later row has.0 has.1) [
          | inl before ↦
              let there = front_has came now row before.0 before.1 in
              front_has (came ++ now) later row there.0 there.1
          | inr behind ↦ back_has (came ++ now) later row behind
        ]),
      )) key
      (later_rows (came ++ now) later key (λ row has. elim (later_above old new later key all from row has) [
        | inl shows ↦ inl (back_has came now row shows)
        | inr above ↦ inr above
      ]) least)
