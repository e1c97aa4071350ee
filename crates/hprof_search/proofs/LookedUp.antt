-- Targets are looked up among nodes, one after another.
use Rattle.std.proofs.Common.{◌≡◌, ◌<◌, ◌+◌, ◌++◌, ℕ, List, [], ◌∷◌, Contains, Some, None, length, slice_index, take, inl, inr}
use Rattle.std.proofs.Common.{sym, ap, subst, ◌∙◌}
use Rattle.std.specs.Prelude.{◌↔◌}
use Rattle.std.specs.List.Sorted.{IsStrictlyIncreasing}
use Rattle.std.proofs.lemmas.List.Elements.{Contains-push, Contains-push_cases, Contains-append_left}
use Rattle.hprof_numbers.specs.Places.{number_in}
use Rattle.hprof_numbers.proofs.Ascending.{one_place}
use Rattle.hprof_numbers.proofs.Placed.{nowhere, stands}
use Rattle.hprof_search.proofs.Targets.{is_taken, was_taken}

module _ (nodes targets : List ℕ) (index target : ℕ) (below : index < length targets) (is : target ≡ slice_index targets index)
    (numbers : List ℕ)
    (has : (to : ℕ) → to < length nodes → Contains numbers to ↔ Contains (take index targets) (slice_index nodes to)) where
  pub has_none : number_in nodes target ≡ None → (to : ℕ) → to < length nodes
      → Contains numbers to ↔ Contains (take (index + 1) targets) (slice_index nodes to)
  has_none none to within = (
    λ there. is_taken targets index below target (slice_index nodes to) is (inl ((has to within).0 there)),
    λ there. elim (was_taken targets index below target (slice_index nodes to) is there) [
      | inl was ↦ (has to within).1 was
      | inr same ↦ absurd (nowhere nodes target none to within (sym same))
    ],
  )

  pub has_one : IsStrictlyIncreasing nodes → (number : ℕ) → number_in nodes target ≡ Some number → (to : ℕ) → to < length nodes
      → Contains (numbers ++ number ∷ []) to ↔ Contains (take (index + 1) targets) (slice_index nodes to)
  has_one ascend number some to within =
      let at = stands nodes target number some in (
        λ there. is_taken targets index below target (slice_index nodes to) is (elim (Contains-push_cases numbers number to there) [
          | inl was ↦ inl ((has to within).0 was)
          | inr same ↦ inr (sym at.1 ∙ ap (slice_index nodes) same)
        ]),
        λ there. elim (was_taken targets index below target (slice_index nodes to) is there) [
          | inl was ↦ Contains-append_left numbers (number ∷ []) to ((has to within).1 was)
          | inr same ↦
              let one = one_place nodes ascend to number within at.0 (sym same ∙ sym at.1) in
              subst (Contains (numbers ++ number ∷ [])) (sym one) (Contains-push numbers number)
        ],
      )
