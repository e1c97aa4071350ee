-- The first level: the starts that are nodes.
use Rattle.std.proofs.Common.{◌≡◌, ◌↔◌, ◌<◌, ◌≤◌, ℕ, zero, suc, true, false, List, Contains, length, slice_index, None, refl, ◌∙◌, arith}
use Rattle.hprof_search.specs.Finds.{Finds, Follows, LeadsTo, is_found}
use Rattle.hprof_search.specs.Walks.{Reaches, IsDistance}
use Rattle.hprof_numbers.proofs.Ascending.{has_number}
use Rattle.hprof_search.proofs.Followed.{found_within}
use Rattle.hprof_search.proofs.Levels.{StartsIn, StepsIn, IsSearched}

module _ (Leads : ℕ → ℕ → Type 0) (nodes starts : List ℕ) (old new : Finds) (none : (number : ℕ) → is_found old number ≡ false)
    (many : length old.found ≡ length nodes) (follows : Follows (LeadsTo nodes None starts) old new) where
  pub start_distance : (number : ℕ) → is_found new number ≡ true
      → IsDistance (StartsIn nodes starts) (StepsIn Leads nodes) (slice_index nodes number) 0
  start_distance number found =
      let is = follows.came number (none number) found in
      let more = follows.as_many in
      let within = found_within new number found in
      record {
        reaches = (has_number nodes (slice_index nodes number) number (omega arith) refl, is.led.1);
        least = λ other reaches. omega arith;
      }

  complete : (number count : ℕ) → number < length nodes → count ≤ 0
      → Reaches (StartsIn nodes starts) (StepsIn Leads nodes) count (slice_index nodes number) → is_found new number ≡ true
  complete number zero below close reaches = follows.all number number (omega arith) (refl, reaches.1)
  complete number (suc count) below close reaches = absurd (omega arith)

  pub searched_first : (level : List ℕ)
      → ((number : ℕ) → Contains level number ↔ ((is_found old number ≡ false) × (is_found new number ≡ true)))
      → IsSearched Leads nodes starts new level 0
  searched_first level same = record {
    as_many = follows.as_many ∙ many;
    near = λ number found. record {
      count = 0;
      near = omega arith;
      distance = start_distance number found;
      from = (follows.came number (none number) found).led.0;
    };
    complete = complete;
    last_near = λ number has.
        let came = (same number).0 has in
        let more = follows.as_many in
        let within = found_within new number came.1 in
        (omega arith, start_distance number came.1);
    last_all = λ number below distance. (same number).1 (none number, complete number 0 below (omega arith) distance.reaches);
  }
