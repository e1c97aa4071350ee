-- The rows of a thread, cut by place.
use Rattle.std.proofs.Common.{◌≡◌, ℕ, ◌<◌, true, not, List, length, get_or, sym, ap, subst, ◌∙◌, inl, inr, arith}
use Rattle.std.specs.List.{All, filter}
use Rattle.std.specs.List.Sorted.{IsPartitionedBy, IsStrictlySortedBy}
use Rattle.std.proofs.lemmas.Bool.{cases_lt}
use Rattle.std.proofs.lemmas.List.Elements.{All-contains_itself, All-filter, filter_passes}
use Rattle.std.proofs.lemmas.List.Kept.{IsStrictlySortedBy-filter}
use Rattle.hprof_items.specs.FactValue.{FactValue}
use Rattle.hprof_threads.specs.declared.held.Held.{Held}
use Rattle.hprof_threads.specs.declared.held.Place.TheVariants as places
use Rattle.hprof_threads.specs.contracts.held.HeldOrd.TheImpl as held_ord
use Rattle.hprof_threads.specs.Held.{AreHeldBy}
use Rattle.hprof_holders.specs.ThreadsText.{is_elsewhere, is_in_frame}
use Rattle.hprof_holders.proofs.Cuts.{from_not_true, pairs_rise}
use Rattle.hprof_holders.proofs.PlaceOrder.{IsFrameUpTo, at_that_frame, in_first, in_that_frame, not_elsewhere, place_before}

module _ (serial : ℕ) (rows : List Held) (ascend : IsStrictlySortedBy (held_ord.ghosts).cmp rows)
    (threads : All (λ held. held.thread ≡ serial) rows) where
  -- what stands before a frame's object is held in a frame with at most its number
  earlier : (i j : ℕ) (d : Held) → i < j → j < length rows → (number : ℕ) → (get_or rows j d).place ≡ places.Frame number
      → IsFrameUpTo number (get_or rows i d).place
  earlier i j d before within number is =
      place_before (get_or rows i d) (get_or rows j d) (threads i d (omega arith) ∙ sym (threads j d within))
      (pairs_rise (held_ord.ghosts).cmp rows ascend i j d before within) number is

  pub first_come_first : (count : ℕ) → IsPartitionedBy (λ held. not (is_elsewhere count held)) rows
  first_come_first count i j d le within e = elim (cases_lt i j) [
    | inl before ↦
        let first = in_first count (get_or rows j d) (from_not_true (is_elsewhere count (get_or rows j d)) e) in
        ap not (not_elsewhere count first.frame (get_or rows i d) (earlier i j d before within first.frame first.is) first.below)
    | inr late ↦
        let same : j ≡ i = omega arith in
        subst (λ (n : ℕ). not (is_elsewhere count (get_or rows n d)) ≡ true) same e
  ]

  pub frame_comes_first : (number : ℕ) → All (λ held. is_elsewhere number held ≡ true) rows → IsPartitionedBy (is_in_frame number) rows
  frame_comes_first number past i j d le within e = elim (cases_lt i j) [
    | inl before ↦
        at_that_frame number (get_or rows i d)
        (earlier i j d before within number (in_that_frame number (get_or rows j d) e)) (past i d (omega arith))
    | inr late ↦ let same : j ≡ i = omega arith in subst (λ (n : ℕ). is_in_frame number (get_or rows n d) ≡ true) same e
  ]

module _ (facts : List FactValue) (serial : ℕ) (rows : List Held) (held : AreHeldBy facts serial rows) where
  of_thread : All (λ (row : Held). row.thread ≡ serial) rows
  of_thread k d within = ((held.exact (get_or rows k d)).0 (All-contains_itself rows k d within)).1

  pub cut_elsewhere : (count : ℕ) → IsPartitionedBy (λ row. not (is_elsewhere count row)) rows
  cut_elsewhere count = first_come_first serial rows held.ascend of_thread count

  pub cut_frame : (number : ℕ) → IsPartitionedBy (is_in_frame number) (filter (is_elsewhere number) rows)
  cut_frame number =
      frame_comes_first serial (filter (is_elsewhere number) rows)
      (IsStrictlySortedBy-filter (held_ord.ghosts).cmp (is_elsewhere number) rows held.ascend)
      (All-filter (is_elsewhere number) (λ row. row.thread ≡ serial) rows of_thread) number (filter_passes (is_elsewhere number) rows)
