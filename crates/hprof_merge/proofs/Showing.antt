-- Cursors that go on, and the rows that they show.
use Rattle.std.proofs.Common.{◌≡◌, ◌≢◌, ◌<◌, ◌+◌, ◌-◌, ◌^◌, ◌++◌, ℕ, zero, suc, List, [], ◌∷◌, Option, Some, None, refl, sym, ap, subst}
use Rattle.std.proofs.Common.{◌∙◌}
use Rattle.std.proofs.Common.{inl, inr, arith, length, set, get_or}
use Rattle.std.specs.Prelude.{sum_by, slice_index_or}
use Rattle.std.proofs.lemmas.List.{map-set, get_or-set_same, get_or-set_other, length-set, length-map, length-replicate}
use Rattle.std.proofs.lemmas.List.Sums.{sum_by-set}
use Rattle.std.proofs.lemmas.Bool.{cases_eq}
use Rattle.hprof_merge.specs.Rows.{ByteRow, Has, IsAscending}
use Rattle.hprof_merge.specs.Union.{rows_at, AllAscend}
use Rattle.hprof_merge.specs.Showing.{only, all_shown, GoesAt, Shows, AllShow}
use Rattle.hprof_merge.specs.Stopping.{room_of}
use Rattle.hprof_merge.proofs.Lists.{rows_at-map}
use Rattle.hprof_merge.proofs.Joined.{joined, rows_at-joined, length-joined, nothing, nothing_at, one_row, one_row_here, one_row_other}
use Rattle.hprof_merge.proofs.Entering.{all_ascend}

-- ---- a row alone

pub only_ascends : (row : Option ByteRow) → IsAscending (only row)
only_ascends None = tt
only_ascends (Some row) = ((λ other none. absurd none), tt)

pub only-some : (shown : Option ByteRow) (row : ByteRow) (rest : List ByteRow) → only shown ≡ row ∷ rest → shown ≡ Some row
only-some None row rest is = cc
only-some (Some first) row rest is = let e : first ≡ row = cc in ap (λ (r : ByteRow). Some r) e

pub only-has : (shown : Option ByteRow) (row : ByteRow) → Has (only shown) row → shown ≡ Some row
only-has None row has = absurd has
only-has (Some first) row (inl e) = ap (λ (r : ByteRow). Some r) (sym e)
only-has (Some first) row (inr none) = absurd none

module _ {C : Type 0} (shown : C → Option ByteRow) where
  pub shown_ascend : (cursors : List C) → AllAscend (all_shown shown cursors)
  shown_ascend cursors = all_ascend (λ cursor. only (shown cursor)) (λ cursor. only_ascends (shown cursor)) cursors

  -- each cursor shows one row at most
  pub shown_same : (cursors : List C) (place : ℕ) (one other : ByteRow) → Has (rows_at (all_shown shown cursors) place) one
      → Has (rows_at (all_shown shown cursors) place) other → one ≡ other
  shown_same [] place one other has more = absurd has
  shown_same (cursor ∷ cursors) zero one other has more =
      let both : Some one ≡ Some other = sym (only-has (shown cursor) one has) ∙ only-has (shown cursor) other more in cc
  shown_same (cursor ∷ cursors) (suc place) one other has more = shown_same cursors place one other has more

  pub shown_at : (cursors : List C) (place : ℕ) (cursor : C) (row : ByteRow) (rest : List ByteRow) → place < length cursors
      → rows_at (all_shown shown cursors) place ≡ row ∷ rest → shown (get_or cursors place cursor) ≡ Some row
  shown_at cursors place cursor row rest lt is =
      only-some (shown (get_or cursors place cursor)) row rest
      (sym (rows_at-map (λ cursor. only (shown cursor)) cursors place cursor lt) ∙ is)

  -- a cursor set
  pub shown_next : (old new : List C) (place : ℕ) (next : C) → new ≡ set old place next
      → all_shown shown new ≡ set (all_shown shown old) place (only (shown next))
  shown_next old new place next is = ap (λ (l : List C). all_shown shown l) is ∙ map-set (λ cursor. only (shown cursor)) old place next

  pub shown_here : (old new : List C) (place : ℕ) (next : C) → place < length old → new ≡ set old place next
      → rows_at (all_shown shown new) place ≡ only (shown next)
  shown_here old new place next lt is =
      let all : length (all_shown shown old) ≡ length old = length-map old (λ cursor. only (shown cursor)) in
      let there : place < length (all_shown shown old) = omega arith in
      ap (λ (l : List (List ByteRow)). rows_at l place) (shown_next old new place next is)
      ∙ get_or-set_same (all_shown shown old) place (only (shown next)) [] there

  pub shown_other : (old new : List C) (place : ℕ) (next : C) → new ≡ set old place next → (other : ℕ) → other ≢ place
      → rows_at (all_shown shown new) other ≡ rows_at (all_shown shown old) other
  shown_other old new place next is other apart =
      ap (λ (l : List (List ByteRow)). rows_at l other) (shown_next old new place next is)
      ∙ get_or-set_other (all_shown shown old) place other (only (shown next)) [] apart

-- ---- going on

-- there are as many cursors as before
pub goes_count : {C : Type 0} (goes : C → C → Type 0) (place : ℕ) (old new : List C) → GoesAt goes place old new → length new ≡ length old
goes_count goes place old new step = ap length step.is ∙ length-set old place step.next

module _ {C : Type 0} (shown : C → Option ByteRow) (goes : C → C → Type 0) where
  pub shows_then : (old : C) (rows more : List ByteRow) (mid new : C) → Shows shown goes old rows mid → Shows shown goes mid more new
      → Shows shown goes old (rows ++ more) new
  shows_then old [] more mid new first second = let P : C → Type 0 = λ s. Shows shown goes s more new in subst P (sym first) second
  shows_then old (row ∷ rows) more mid new first second =
      (first.0, (first.1.0, first.1.1, shows_then first.1.0 rows more mid new first.1.2 second))

  pub gone_then : (old mid new : List C) (came more : List (List ByteRow)) → AllShow shown goes old mid came
      → AllShow shown goes mid new more
      → AllShow shown goes old new (joined came more)
  gone_then old mid new came more first second =
      let same : length came ≡ length more = first.lists ∙ sym first.count ∙ sym second.lists in
      record {
        count = second.count ∙ first.count;
        lists = length-joined came more same ∙ first.lists;
        each = λ place cursor lt.
            let there : place < length mid = omega (arith, first.count) in
            let P : List ByteRow → Type 0 = λ l. Shows shown goes (slice_index_or old place cursor) l (slice_index_or new place cursor) in
            subst P (sym (rows_at-joined came more place))
            (shows_then (slice_index_or old place cursor) (rows_at came place) (rows_at more place) (slice_index_or mid place cursor)
            (slice_index_or new place cursor) (first.each place cursor lt) (second.each place cursor there));
      }

  pub none_gone : (cursors : List C) → AllShow shown goes cursors cursors (nothing (length cursors))
  none_gone cursors = record {
    count = refl;
    lists = length-replicate (length cursors) [];
    each = λ place cursor lt.
        let P : List ByteRow → Type 0 = λ l. Shows shown goes (slice_index_or cursors place cursor) l
        (slice_index_or cursors place cursor) in
        subst P (sym (nothing_at (length cursors) place)) refl;
  }

  pub one_gone : (old new : List C) (place : ℕ) (row : ByteRow) (rest : List ByteRow) → place < length old → GoesAt goes place old new
      → rows_at (all_shown shown old) place ≡ row ∷ rest → AllShow shown goes old new (one_row (length old) place row)
  one_gone old new place row rest lt step is = record {
    count = goes_count goes place old new step;
    lists = length-set (nothing (length old)) place (row ∷ []) ∙ length-replicate (length old) [];
    each = λ other cursor other_lt. elim (cases_eq other place) [
      | inl here ↦
          let P : ℕ → Type 0 =
          λ k. Shows shown goes (slice_index_or old k cursor) (rows_at (one_row (length old) place row) k) (slice_index_or new k cursor) in
          let Q : List ByteRow → C → Type 0 = λ l s. Shows shown goes (slice_index_or old place cursor) l s in
          let after : slice_index_or new place cursor ≡ step.next =
          ap (λ (l : List C). slice_index_or l place cursor) step.is ∙ get_or-set_same old place step.next cursor lt in
          subst P (sym here) (
          subst (λ (l : List ByteRow). Q l (slice_index_or new place cursor)) (sym (one_row_here (length old) place row lt))
          (subst (λ (s : C). Q (row ∷ []) s) (sym after)
          (shown_at shown old place cursor row rest lt is, (step.next, step.goes_on cursor, refl)))
          )
      | inr apart ↦
          let P : List ByteRow → Type 0 = λ l. Shows shown goes (slice_index_or old other cursor) l (slice_index_or new other cursor) in
          let same : slice_index_or old other cursor ≡ slice_index_or new other cursor =
          sym (ap (λ (l : List C). slice_index_or l other cursor) step.is ∙ get_or-set_other old place other step.next cursor apart) in
          subst P (sym (one_row_other (length old) place row other apart)) same
    ];
  }

  module _ (rises : (old new : C) (row next : ByteRow) → goes old new → shown old ≡ Some row → shown new ≡ Some next → row.0 < next.0) where
    -- the row that is shown then is above the one before
    pub above_first : (old new : List C) (place : ℕ) (row : ByteRow) (rest : List ByteRow) → place < length old
        → (step : GoesAt goes place old new)
        → rows_at (all_shown shown old) place ≡ row ∷ rest → (next : ByteRow) → shown step.next ≡ Some next → row.0 < next.0
    above_first old new place row rest lt step is next next_is =
        rises (get_or old place step.next) step.next row next (step.goes_on step.next)
        (shown_at shown old place step.next row rest lt is) next_is

    pub above_here : (old new : List C) (place : ℕ) (row : ByteRow) (rest : List ByteRow) → place < length old → GoesAt goes place old new
        → rows_at (all_shown shown old) place ≡ row ∷ rest → (next : ByteRow) → Has (rows_at (all_shown shown new) place) next
        → row.0 < next.0
    above_here old new place row rest lt step is next has =
        let P : List ByteRow → Type 0 = λ l. Has l next in
        above_first old new place row rest lt step is next
        (only-has (shown step.next) next (subst P (shown_here shown old new place step.next lt step.is) has))

    -- there is less room
    pub less_room : (old new : List C) (place : ℕ) (row : ByteRow) (rest : List ByteRow) → place < length old → row.0 < 2 ^ 64
        → (step : GoesAt goes place old new) → rows_at (all_shown shown old) place ≡ row ∷ rest
        → sum_by room_of (all_shown shown new) < sum_by room_of (all_shown shown old)
    less_room old new place row rest lt fits step is =
        let all : length (all_shown shown old) ≡ length old = length-map old (λ cursor. only (shown cursor)) in
        let there : place < length (all_shown shown old) = omega arith in
        let sums = sum_by-set room_of (all_shown shown old) place (only (shown step.next)) [] there in
        let was : room_of (rows_at (all_shown shown old) place) ≡ 2 ^ 64 - row.0 = ap room_of is in
        let now : room_of (only (shown step.next)) < 2 ^ 64 - row.0 = next_room (shown step.next) refl in
        let same : sum_by room_of (all_shown shown new) ≡ sum_by room_of (set (all_shown shown old) place (only (shown step.next))) =
        ap (λ (l : List (List ByteRow)). sum_by room_of l) (shown_next shown old new place step.next step.is) in
        less (2 ^ 64 - row.0) _ _ _ _ _ sums was now same
      where
        less : (room was next all set_all new_all : ℕ) → set_all + was ≡ all + next → was ≡ room → next < room → new_all ≡ set_all
            → new_all < all
        less room was next all set_all new_all sums is lt same = omega arith

        gap : (top low high : ℕ) → low < high → low < top → top - high < top - low
        gap top low high lt fit = omega arith

        next_room : (next : Option ByteRow) → shown step.next ≡ next → room_of (only next) < 2 ^ 64 - row.0
        next_room None none = some (2 ^ 64) row.0 fits
          where
            some : (top low : ℕ) → low < top → 0 < top - low
            some top low lt = omega arith
        next_room (Some next) next_is = gap (2 ^ 64) row.0 next.0 (above_first old new place row rest lt step is next next_is) fits
