-- Starts are taken, one after another, and so are the numbers that a number leads to, and those of a level.
use Rattle.std.proofs.Common.{◌≡◌, ◌⊎◌, ◌↔◌, ◌<◌, ◌+◌, ℕ, List, [], ◌∷◌, ◌++◌, Contains, Some, None, length, slice_index, take}
use Rattle.std.proofs.Common.{length-take, get_or-take, inl, inr, sym, ap, subst, ◌∙◌, arith}
use Rattle.std.specs.List.Sorted.{IsStrictlyIncreasing, IsNonDecreasing}
use Rattle.std.proofs.lemmas.List.{take_more}
use Rattle.std.proofs.lemmas.List.Elements.{Contains-push, Contains-push_cases, Contains-append_left}
use Rattle.hprof_search.specs.Finds.{Finds, Follows, Arrives, LeadsFrom, LeadsOn, LeadsTo}
use Rattle.hprof_numbers.specs.Places.{number_in}
use Rattle.hprof_numbers.proofs.Ascending.{number_of, one_place}
use Rattle.hprof_search.proofs.Followed.{follows_both, follows_same}
use Rattle.hprof_numbers.proofs.Placed.{nowhere, stands}

-- one more was taken
module _ (items : List ℕ) (index : ℕ) (below : index < length items) where
  taken : (item : ℕ) → item ≡ slice_index items index → take (index + 1) items ≡ take index items ++ item ∷ []
  taken item is = take_more items index 0 below ∙ ap (λ (n : ℕ). take index items ++ n ∷ []) (sym is)

  pub was_taken : (item one : ℕ) → item ≡ slice_index items index → Contains (take (index + 1) items) one
      → Contains (take index items) one ⊎ (item ≡ one)
  was_taken item one is has = Contains-push_cases (take index items) item one (subst (λ (ns : List ℕ). Contains ns one) (taken item is) has)

  pub is_taken : (item one : ℕ) → item ≡ slice_index items index → Contains (take index items) one ⊎ (item ≡ one)
      → Contains (take (index + 1) items) one
  is_taken item one is either = subst (λ (ns : List ℕ). Contains ns one) (sym (taken item is)) (elim either [
    | inl was ↦ Contains-append_left (take index items) (item ∷ []) one was
    | inr same ↦ subst (Contains (take index items ++ item ∷ [])) same (Contains-push (take index items) item)
  ])

-- a start that is no node leads nowhere; another is led to from itself
module _ (nodes starts : List ℕ) (index start : ℕ) (below : index < length starts) (is : start ≡ slice_index starts index)
    (old middle : Finds) (many : length old.found ≡ length nodes) (follows : Follows (LeadsTo nodes None (take index starts)) old middle)
  where
    abbrev First : ℕ → ℕ → Type 0
    First = LeadsTo nodes None (take index starts)

    abbrev Same : ℕ → ℕ → Type 0
    Same = LeadsTo nodes None (take (index + 1) starts)

    pub to_none : number_in nodes start ≡ None → Follows (LeadsTo nodes None (take (index + 1) starts)) old middle
    to_none none =
        follows_same First Same old middle (λ one other within. (
          λ led. (led.0, is_taken starts index below start (slice_index nodes other) is (inl led.1)),
          λ led. (
            led.0,
            elim (was_taken starts index below start (slice_index nodes other) is led.1) [
              | inl was ↦ was
              | inr same ↦ absurd (nowhere nodes start none other (omega arith) (sym same))
            ],
          ),
        )) follows

    pub to_number : (ascend : IsStrictlyIncreasing nodes) (number : ℕ) (new : Finds) → number_in nodes start ≡ Some number
        → Follows (Arrives number number) middle new → Follows (LeadsTo nodes None (take (index + 1) starts)) old new
    to_number ascend number new some arrives =
        let at = stands nodes start number some in
        let Then : ℕ → ℕ → Type 0 = Arrives number number in
        let both = follows_both First Then old middle new follows arrives (λ one other to led arrived.
        let e = led.0 in
        let e2 = arrived.0 in
        let same = arrived.1 in
        omega arith) in
        follows_same (λ one other. First one other ⊎ Then one other) Same old new
        (λ one other within. (
          λ led. elim led [
            | inl early ↦ (early.0, is_taken starts index below start (slice_index nodes other) is (inl early.1))
            | inr late ↦ (
              late.0 ∙ sym late.1,
              is_taken starts index below start (slice_index nodes other) is (inr (sym at.1 ∙ ap (slice_index nodes) (sym late.1))),
            )
          ],
          λ led. elim (was_taken starts index below start (slice_index nodes other) is led.1) [
            | inl was ↦ inl (led.0, was)
            | inr same ↦
                let one_number = one_place nodes ascend other number (omega arith) at.0 (sym same ∙ sym at.1) in
                inr (led.0 ∙ one_number, one_number)
          ],
        )) both

-- one number more that is led to from another
pub follow_more : (from : ℕ) (numbers : List ℕ) (index number : ℕ) (old middle new : Finds) → index < length numbers
    → number ≡ slice_index numbers index → Follows (LeadsFrom from (take index numbers)) old middle
    → Follows (Arrives from number) middle new → Follows (LeadsFrom from (take (index + 1) numbers)) old new
follow_more from numbers index number old middle new below is follows arrives =
    let First : ℕ → ℕ → Type 0 = LeadsFrom from (take index numbers) in
    let Then : ℕ → ℕ → Type 0 = Arrives from number in
    let both = follows_both First Then old middle new follows arrives (λ one other to led arrived.
    let e = led.0 in
    let e2 = arrived.0 in
    omega arith) in
    follows_same (λ one other. First one other ⊎ Then one other) (LeadsFrom from (take (index + 1) numbers)) old new
    (λ one other within. (
      λ led. elim led [
        | inl early ↦ (early.0, is_taken numbers index below number other is (inl early.1))
        | inr late ↦ (late.0, is_taken numbers index below number other is (inr (sym late.1)))
      ],
      λ led. elim (was_taken numbers index below number other is led.1) [
        | inl was ↦ inl (led.0, was)
        | inr same ↦ inr (led.0, sym same)
      ],
    )) both

-- one number more of a level
pub led_more : (Leads : ℕ → ℕ → Type 0) (nodes level numbers : List ℕ) (index number : ℕ) (old middle new : Finds)
    → length old.found ≡ length nodes → index < length level → number ≡ slice_index level index → IsNonDecreasing level
    → ((to : ℕ) → to < length nodes → Contains numbers to ↔ Leads (slice_index nodes number) (slice_index nodes to))
    → Follows (LeadsOn Leads nodes (take index level)) old middle → Follows (LeadsFrom number numbers) middle new
    → Follows (LeadsOn Leads nodes (take (index + 1) level)) old new
led_more Leads nodes level numbers index number old middle new many below is ascend leads follows more =
    let First : ℕ → ℕ → Type 0 = LeadsOn Leads nodes (take index level) in
    let Then : ℕ → ℕ → Type 0 = LeadsFrom number numbers in
    let both = follows_both First Then old middle new follows more (λ one other to led then_led.
    let there = number_of (take index level) one led.0 in
    let short = length-take index level in
    let early : there.0 < index = omega arith in
    let up = ascend there.0 index 0 (omega arith) below in
    let same : slice_index (take index level) there.0 ≡ slice_index level there.0 = get_or-take index level there.0 0 early in
    let here = there.2 in
    let e = then_led.0 in
    omega arith) in
    follows_same (λ one other. First one other ⊎ Then one other) (LeadsOn Leads nodes (take (index + 1) level)) old new
    (λ one other within. (
      λ led. elim led [
        | inl early ↦ (is_taken level index below number one is (inl early.0), early.1)
        | inr late ↦ (
          is_taken level index below number one is (inr (sym late.0)),
          subst (λ (n : ℕ). Leads (slice_index nodes n) (slice_index nodes other)) (sym late.0)
              ((leads other (omega arith)).0 late.1),
        )
      ],
      λ led. elim (was_taken level index below number one is led.0) [
        | inl was ↦ inl (was, led.1)
        | inr same ↦ inr (
          sym same,
          (leads other (omega arith)).1 (subst (λ (n : ℕ). Leads (slice_index nodes n) (slice_index nodes other)) (sym same) led.1),
        )
      ],
    )) both
