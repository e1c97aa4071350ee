-- One object more comes to lists in the making.
use Rattle.std.specs.Prelude.{◌↔◌, Contains, slice_index}
use Rattle.std.proofs.Common.{◌≡◌, ◌⊎◌, ◌<◌, ◌≤◌, ℕ, List, [], ◌∷◌, ◌++◌, length, inl, inr, subst, sym}
use Rattle.std.specs.List.Sorted.{IsStrictlyIncreasing}
use Rattle.hprof_values.specs.declared.ids.IdSize.{IdSize}
use Rattle.hprof_items.specs.FactValue.{FactValue}
use Rattle.hprof_heap.specs.Objects.{IsObject}
use Rattle.hprof_edges.specs.declared.edge.Edge.{Edge}
use Rattle.hprof_edges.specs.declared.field_place.FieldPlace.{FieldPlace}
use Rattle.hprof_numbers.specs.Lists.{count_in}
use Rattle.hprof_numbers.specs.declared.lists.Lists.{Lists}
use Rattle.hprof_reach.specs.EdgesSoFar.{AreMade, IsKeptOf, LeadsByClass, LeadsByObjects}
use Rattle.hprof_reach.proofs.MadeLists.{object_made, same_made}
use Rattle.hprof_reach.proofs.ObjectEdges.{from_object, objects_more}

module _ (ids : IdSize) (facts : List FactValue) (fields : List FieldPlace) (nodes : List ℕ) (objects : List FactValue)
    (object : FactValue) (id : ℕ) (is : IsObject id object) (lists : Lists) (targets : List ℕ)
    (made : AreMade nodes (LeadsByClass facts) (LeadsByObjects ids facts fields objects) lists targets) where
  abbrev More : List FactValue
  More = objects ++ object ∷ []

  -- what the object leads to
  abbrev Gives : ℕ → Type 0
  Gives to = (edge : Edge) × IsKeptOf ids facts fields object edge × (edge.to ≡ to)

  more : (from to : ℕ) → LeadsByObjects ids facts fields More from to ↔ (LeadsByObjects ids facts fields objects from to
      ⊎ ((id ≡ from) × Gives to))
  more from to =
      let both = objects_more ids facts fields objects object from to in
      let own = from_object ids facts fields object id is from to in (
        λ leads. elim (both.0 leads) [ inl one ↦ inl one | inr now ↦ inr (own.0 now) ],
        λ either. both.1 (elim either [ inl one ↦ inl one | inr now ↦ inr (own.1 now) ]),
      )

  -- it is none of the nodes
  pub other_taken : count_in lists ≤ length nodes → ((number : ℕ) → number < length nodes → id ≡ slice_index nodes number → ⊥)
      → AreMade nodes (LeadsByClass facts) (LeadsByObjects ids facts fields More) lists targets
  other_taken few apart =
      same_made nodes (LeadsByClass facts) (LeadsByObjects ids facts fields objects) (LeadsByObjects ids facts fields More) lists targets
      few
      made
      (λ number to low. (
        λ leads. elim ((more (slice_index nodes number) to).0 leads) [ inl one ↦ one | inr now ↦ absurd (apart number low now.0) ],
        λ one. (more (slice_index nodes number) to).1 (inl one),
      ))

  -- it is the next node
  pub next_taken : IsStrictlyIncreasing nodes → (all : List ℕ) → count_in lists < length nodes → slice_index nodes (count_in lists) ≡ id
      → ((to : ℕ) → Contains all to ↔ (Contains targets to ⊎ Gives to))
      → AreMade nodes (LeadsByClass facts) (LeadsByObjects ids facts fields More) lists all
  next_taken ascend all within at put =
      object_made nodes (LeadsByClass facts) ascend (LeadsByObjects ids facts fields objects) (LeadsByObjects ids facts fields More) Gives
      lists targets all made within put
      (λ from to. subst (λ (n : ℕ). LeadsByObjects ids facts fields More from to
      ↔ (LeadsByObjects ids facts fields objects from to ⊎ ((n ≡ from) × Gives to))) (sym at) (more from to))
