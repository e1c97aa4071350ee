-- The numbers of a list are taken, one after another.
use Rattle.std.proofs.Common.{◌≡◌, ◌<◌, ◌≤◌, ◌+◌, ◌++◌, ℕ, List, [], ◌∷◌, Contains, length, slice_index, inl, inr, refl, sym}
use Rattle.std.proofs.Common.{subst, ◌∙◌, arith}
use Rattle.std.specs.Prelude.{◌↔◌}
use Rattle.std.proofs.lemmas.List.Elements.{Contains-push, Contains-push_cases, Contains-append_left}
use Rattle.std.specs.List.Sorted.{IsStrictlyIncreasing}
use Rattle.hprof_numbers.specs.Lists.{IsListed}
use Rattle.hprof_numbers.specs.Numbers.{items_in}
use Rattle.hprof_numbers.specs.declared.lists.Lists.{Lists}
use Rattle.hprof_numbers.proofs.Ascending.{one_place}
use Rattle.hprof_numbers.proofs.Places.{splits}
use Rattle.hprof_search.specs.ByLists.{LeadsByList}

-- the number stands between these places of the lists
abbrev pub IsBetween : Lists → ℕ → ℕ → ℕ → Type 0
IsBetween lists start end to = (place : ℕ) × (start ≤ place) × (place < end) × (slice_index (items_in lists.items) place ≡ to)

-- one more was taken
pub between_more : (lists : Lists) (start place number : ℕ) (numbers : List ℕ) → start ≤ place
    → number ≡ slice_index (items_in lists.items) place → ((to : ℕ) → Contains numbers to ↔ IsBetween lists start place to)
    → (to : ℕ) → Contains (numbers ++ number ∷ []) to ↔ IsBetween lists start (place + 1) to
between_more lists start place number numbers from is has to = (
  λ there. elim (Contains-push_cases numbers number to there) [
    | inl was ↦ let one = (has to).0 was in (one.0, one.1, omega (arith, one.2), one.3)
    | inr same ↦ (place, from, omega arith, sym is ∙ same)
  ],
  λ there. elim (splits there.0 place) [
    | inl early ↦ Contains-append_left numbers (number ∷ []) to ((has to).1 (there.0, there.1, early, there.3))
    | inr late ↦
        let same : there.0 ≡ place = omega (arith, there.2) in
        subst (Contains (numbers ++ number ∷ [])) (is ∙ subst (λ (p : ℕ). slice_index (items_in lists.items) p ≡ to) same there.3)
        (Contains-push numbers number)
  ],
)

-- the numbers of the list of a node are those of the nodes to which it leads
pub listed_leads : (lists : Lists) (nodes numbers : List ℕ) (from : ℕ) → IsStrictlyIncreasing nodes → from < length nodes
    → ((to : ℕ) → Contains numbers to ↔ IsListed lists from to) → ((number one : ℕ) → IsListed lists number one → one < length nodes)
    → (to : ℕ) → to < length nodes → Contains numbers to ↔ LeadsByList lists nodes (slice_index nodes from) (slice_index nodes to)
listed_leads lists nodes numbers from ascend from_within has below to within = (
  λ there. record {
    number = from;
    within = from_within;
    from_is = refl;
    one = to;
    listed = (has to).0 there;
    to_is = refl;
  },
  λ leads.
      let first = one_place nodes ascend leads.number from leads.within from_within leads.from_is in
      let second = one_place nodes ascend leads.one to (below leads.number leads.one leads.listed) within leads.to_is in
      (has to).1 (subst (λ (n : ℕ). IsListed lists n to) first (subst (IsListed lists leads.number) second leads.listed)),
)
