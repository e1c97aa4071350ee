-- What was found by a search up to a level, by numbers.
use Rattle.std.proofs.Common.{◌≡◌, ◌⊎◌, ◌↔◌, ◌<◌, ◌≤◌, ℕ, zero, suc, Bool, true, false, List, Contains, length, slice_index, inl, inr, refl}
use Rattle.std.proofs.Common.{sym, subst, subst₂, ◌∙◌, arith}
use Rattle.std.specs.List.Sorted.{IsStrictlyIncreasing}
use Rattle.hprof_search.specs.Finds.{Finds, Follows, LeadsOn, is_found}
use Rattle.hprof_search.specs.Walks.{Reaches, IsDistance, IsLeastBefore}
use Rattle.hprof_numbers.proofs.Ascending.{not_less_far, number_of, has_number}
use Rattle.hprof_numbers.proofs.Places.{splits}
use Rattle.hprof_search.proofs.Followed.{found_within, true_or_false}
use Rattle.hprof_search.proofs.OneWalk.{same_distance}

-- starts and steps among nodes
abbrev pub StartsIn : List ℕ → List ℕ → ℕ → Type 0
StartsIn nodes starts node = Contains nodes node × Contains starts node

abbrev pub StepsIn : (ℕ → ℕ → Type 0) → List ℕ → ℕ → ℕ → Type 0
StepsIn Leads nodes from to = Leads from to × Contains nodes to

module _ (Leads : ℕ → ℕ → Type 0) (nodes starts : List ℕ) where
  abbrev Distance : ℕ → ℕ → Type 0
  Distance number count = IsDistance (StartsIn nodes starts) (StepsIn Leads nodes) (slice_index nodes number) count

  -- from which number one at that distance was found
  abbrev pub IsFrom : Finds → ℕ → ℕ → Type 0
  IsFrom finds number zero = slice_index finds.before number ≡ number
  IsFrom finds number (suc count) = (is_found finds (slice_index finds.before number) ≡ true)
      × IsLeastBefore (StartsIn nodes starts) (StepsIn Leads nodes) count (slice_index nodes (slice_index finds.before number))
      (slice_index nodes number)

  -- a number that was found, up to a level
  pub record IsNear (finds : Finds) (level number : ℕ) : Type 0 where
    pub count : ℕ
    pub near : count ≤ level
    pub distance : IsDistance (StartsIn nodes starts) (StepsIn Leads nodes) (slice_index nodes number) count
    pub from : IsFrom finds number count

  -- exactly what is no farther than a level was found, and these numbers are as far as that
  pub record IsSearched (finds : Finds) (last : List ℕ) (level : ℕ) : Type 0 where
    pub as_many : length finds.found ≡ length nodes
    pub near : (number : ℕ) → is_found finds number ≡ true → IsNear finds level number
    pub complete : (number count : ℕ) → number < length nodes → count ≤ level
        → Reaches (StartsIn nodes starts) (StepsIn Leads nodes) count (slice_index nodes number) → is_found finds number ≡ true
    pub last_near : (number : ℕ) → Contains last number → (number < length nodes)
        × IsDistance (StartsIn nodes starts) (StepsIn Leads nodes) (slice_index nodes number) level
    pub last_all : (number : ℕ) → number < length nodes
        → IsDistance (StartsIn nodes starts) (StepsIn Leads nodes) (slice_index nodes number) level → Contains last number

  -- the order and the next level do not matter
  searched_with : (finds : Finds) (order next last : List ℕ) (level : ℕ) → IsSearched finds last level
      → IsSearched (record { found = finds.found; before = finds.before; order = order; next = next }) last level
  searched_with finds order next last level searched = record {
    as_many = searched.as_many;
    near = λ number found.
        let near = searched.near number found in
        record { count = near.count; near = near.near; distance = near.distance; from = from_with number near.count near.from };
    complete = searched.complete;
    last_near = searched.last_near;
    last_all = searched.last_all;
  } where
    from_with : (number count : ℕ) → IsFrom finds number count
        → IsFrom (record { found = finds.found; before = finds.before; order = order; next = next }) number count
    from_with number zero from = from
    from_with number (suc count) from = from

  pub searched_still : (old new : Finds) (last : List ℕ) (level : ℕ) → new.found ≡ old.found → new.before ≡ old.before
      → IsSearched old last level → IsSearched new last level
  searched_still old new last level found before searched =
      subst₂ (λ (fs : List Bool) (bs : List ℕ). IsSearched
      (record { found = fs; before = bs; order = new.order; next = new.next }) last level)
      (sym found) (sym before) (searched_with old new.order new.next last level searched)

  -- what is reached is a node
  pub reached_is_node : (count node : ℕ) → Reaches (StartsIn nodes starts) (StepsIn Leads nodes) count node → Contains nodes node
  reached_is_node zero node reaches = reaches.0
  reached_is_node (suc count) node reaches = reaches.2.1

  module _ (finds : Finds) (last : List ℕ) (level : ℕ) (searched : IsSearched finds last level) where
    -- the number of what a step leads to from a number that was found, but in the last level
    pub stepped : (number to : ℕ) → is_found finds number ≡ true → StepsIn Leads nodes (slice_index nodes number) (slice_index nodes to)
        → to < length nodes → (is_found finds to ≡ true) ⊎ Contains last number
    stepped number to found step below =
        let near = searched.near number found in
        let many = searched.as_many in
        let within = found_within finds number found in
        elim (splits near.count level) [
          | inl less ↦ inl (searched.complete to (suc near.count) below (omega arith)
              (slice_index nodes number, near.distance.reaches, step))
          | inr more ↦
              let close = near.near in
              let same : near.count ≡ level = omega arith in
              inr (searched.last_all number (omega arith) (subst (Distance number) same near.distance))
        ]

  -- ---- one level more

  module _ (ascend : IsStrictlyIncreasing nodes) (old new : Finds) (last : List ℕ) (level : ℕ) (searched : IsSearched old last level)
      (follows : Follows (LeadsOn Leads nodes last) old new) where
    -- what came is one step farther
    came_reaches : (number : ℕ) → is_found old number ≡ false → is_found new number ≡ true
        → Reaches (StartsIn nodes starts) (StepsIn Leads nodes) (suc level) (slice_index nodes number)
    came_reaches number not_found found =
        let is = follows.came number not_found found in
        let many = searched.as_many in
        let more = follows.as_many in
        let within = found_within new number found in
        let before = searched.last_near _ is.led.0 in (
          slice_index nodes (slice_index new.before number),
          before.1.reaches,
          (is.led.1, has_number nodes (slice_index nodes number) number (omega arith) refl),
        )

    pub came_distance : (number : ℕ) → is_found old number ≡ false → is_found new number ≡ true → Distance number (suc level)
    came_distance number not_found found =
        let many = searched.as_many in
        let more = follows.as_many in
        let within = found_within new number found in
        record {
          reaches = came_reaches number not_found found;
          least = λ other reaches. elim (splits level other) [
            | inl farther ↦ omega arith
            | inr nearer ↦ let wrong = searched.complete number other (omega arith) nearer reaches in absurd (cc)
          ];
        }

    came_from : (number : ℕ) → is_found old number ≡ false → is_found new number ≡ true → IsFrom new number (suc level)
    came_from number not_found found =
        let is = follows.came number not_found found in
        let before = slice_index new.before number in
        let at = searched.last_near before is.led.0 in
        let early = searched.complete before level at.0 (omega arith) at.1.reaches in
        let many = searched.as_many in
        let more = follows.as_many in
        let within = found_within new number found in (
          (follows.stays before early).0,
          record {
            distance = at.1;
            steps = (is.led.1, has_number nodes (slice_index nodes number) number (omega arith) refl);
            least = λ other distance steps.
                let there = number_of nodes other (reached_is_node level other distance.reaches) in
                let in_last = searched.last_all there.0 there.1
                (subst (λ (n : ℕ). IsDistance (StartsIn nodes starts) (StepsIn Leads nodes) n level)
                (sym there.2) distance) in
                let leads = subst (λ (n : ℕ). Leads n (slice_index nodes number)) (sym there.2) steps.0 in
                let less = is.least there.0 (in_last, leads) in
                let up = not_less_far nodes ascend before there.0 less there.1 in
                let same = there.2 in
                omega arith;
          },
        )

    -- where a number that was found came from stays
    from_stays : (number count : ℕ) → is_found old number ≡ true → IsFrom old number count → IsFrom new number count
    from_stays number zero found from = (follows.stays number found).1 ∙ from
    from_stays number (suc count) found from =
        let same = (follows.stays number found).1 in
        subst (λ (before : ℕ). (is_found new before ≡ true) × IsLeastBefore (StartsIn nodes starts) (StepsIn Leads nodes) count
        (slice_index nodes before) (slice_index nodes number)) (sym same) ((follows.stays _ from.0).0, from.1)

    near_more : (number : ℕ) → is_found new number ≡ true → IsNear new (suc level) number
    near_more number found = elim (true_or_false (is_found old number)) [
      | inl was ↦
          let near = searched.near number was in
          let close = near.near in
          record { count = near.count; near = omega arith; distance = near.distance; from = from_stays number near.count was near.from }
      | inr not ↦ record {
        count = suc level;
        near = omega arith;
        distance = came_distance number not found;
        from = came_from number not found;
      }
    ]

    complete_more : (number count : ℕ) → number < length nodes → count ≤ suc level
        → Reaches (StartsIn nodes starts) (StepsIn Leads nodes) count (slice_index nodes number) → is_found new number ≡ true
    complete_more number zero below close reaches = (follows.stays number (searched.complete number zero below (omega arith) reaches)).0
    complete_more number (suc count) below close reaches =
        let there = number_of nodes reaches.0 (reached_is_node count reaches.0 reaches.1) in
        let before = subst (Reaches (StartsIn nodes starts) (StepsIn Leads nodes) count) (sym there.2) reaches.1 in
        let step = subst (λ (n : ℕ). StepsIn Leads nodes n (slice_index nodes number)) (sym there.2) reaches.2 in
        let found = searched.complete there.0 count there.1 (omega arith) before in
        elim (stepped old last level searched there.0 number found step below) [
          | inl was ↦ (follows.stays number was).0
          | inr at ↦ let many = searched.as_many in follows.all there.0 number (omega arith) (at, step.0)
        ]

    -- the next level is what came
    pub searched_more : (next : List ℕ)
        → ((number : ℕ) → Contains next number ↔ ((is_found old number ≡ false) × (is_found new number ≡ true)))
        → IsSearched new next (suc level)
    searched_more next same = record {
      as_many = follows.as_many ∙ searched.as_many;
      near = near_more;
      complete = complete_more;
      last_near = λ number has.
          let came = (same number).0 has in
          let many = searched.as_many in
          let more = follows.as_many in
          let within = found_within new number came.1 in
          (omega arith, came_distance number came.0 came.1);
      last_all = λ number below distance. (same number).1 (elim (true_or_false (is_found old number)) [
        | inl was ↦
            let near = searched.near number was in
            let one = same_distance (StartsIn nodes starts) (StepsIn Leads nodes) (slice_index nodes number) near.count
            (suc level) near.distance distance in
            let close = near.near in
            absurd (omega arith)
        | inr not ↦ (not, complete_more number (suc level) below (omega arith) distance.reaches)
      ]);
    }
