-- The targets of the edges that the class dump of an identifier gives.
use Rattle.std.specs.Prelude.{◌↔◌, Contains, map}
use Rattle.std.proofs.Common.{◌≡◌, ◌⊎◌, ℕ, List, subst, inl, inr}
use Rattle.hprof_items.specs.FactValue.{FactValue}
use Rattle.hprof_heap.specs.Classes.{ClassValue, HasDump, HasNoDump}
use Rattle.hprof_edges.specs.declared.edge.Edge.{Edge}
use Rattle.hprof_edges.specs.Collecting.{PutBehind}
use Rattle.hprof_edges.specs.DumpEdges.{IsClassEdge}
use Rattle.hprof_edges.proofs.OnlyDumps.{by_class, by_no_class}
use Rattle.hprof_reach.specs.EdgesSoFar.{LeadsByClass}
use Rattle.hprof_reach.proofs.TargetLists.{put_behind}

module _ (facts : List FactValue) (from : ℕ) where
  -- without a class dump there are none
  pub no_targets : (targets : List ℕ) → HasNoDump facts from → (to : ℕ)
      → Contains targets to ↔ (Contains targets to ⊎ LeadsByClass facts from to)
  no_targets targets none to = (
    inl,
    λ either. elim either [
      | inl has ↦ has
      | inr leads ↦ absurd (by_no_class facts from none leads.edge (leads.from_is, leads.holds))
    ],
  )

  pub class_targets : (dump : ClassValue) → HasDump facts dump → dump.id ≡ from
      → ((other : ClassValue) → HasDump facts other → other.id ≡ from → dump ≡ other) → (old new : List ℕ)
      → ((edges : List Edge) → old ≡ map (λ (edge : Edge). edge.to) edges
      → PutBehind (λ edges. new ≡ map (λ (edge : Edge). edge.to) edges) edges (IsClassEdge dump))
      → (to : ℕ) → Contains new to ↔ (Contains old to ⊎ LeadsByClass facts from to)
  class_targets dump has id only old new put to =
      let is = put_behind (IsClassEdge dump) old new put to in (
        λ there. elim (is.0 there) [
          | inl was ↦ inl was
          | inr it ↦
              let given = (by_class facts from dump has id only it.0).1 it.1 in
              inr (record { edge = it.0; holds = given.1; from_is = given.0; to_is = it.2 })
        ],
        λ either. is.1 (elim either [
          | inl was ↦ inl was
          | inr leads ↦
              inr (leads.edge, (by_class facts from dump has id only leads.edge).0 (leads.from_is, leads.holds), leads.to_is)
        ]),
      )

-- other facts with the same class dumps give the same edges
module _ (facts others : List FactValue) (same : (dump : ClassValue) → HasDump facts dump ↔ HasDump others dump) (from to : ℕ) where
  pub same_by_class : LeadsByClass facts from to ↔ LeadsByClass others from to
  same_by_class = (
    λ leads. record {
      edge = leads.edge;
      holds = record { dump = leads.holds.dump; has = (same leads.holds.dump).0 leads.holds.has; edge_is = leads.holds.edge_is };
      from_is = leads.from_is;
      to_is = leads.to_is;
    },
    λ leads. record {
      edge = leads.edge;
      holds = record { dump = leads.holds.dump; has = (same leads.holds.dump).1 leads.holds.has; edge_is = leads.holds.edge_is };
      from_is = leads.from_is;
      to_is = leads.to_is;
    },
  )

-- so they are put of the one as of the other
pub put_by_class : (facts others : List FactValue) → ((dump : ClassValue) → HasDump facts dump ↔ HasDump others dump)
    → (from node : ℕ) → from ≡ node → (old new : List ℕ)
    → ((to : ℕ) → Contains new to ↔ (Contains old to ⊎ LeadsByClass others from to))
    → (to : ℕ) → Contains new to ↔ (Contains old to ⊎ LeadsByClass facts node to)
put_by_class facts others same from node is old new put to =
    let alike = subst (λ (n : ℕ). LeadsByClass facts n to ↔ LeadsByClass others from to) is (same_by_class facts others same from to) in (
      λ has. elim ((put to).0 has) [ inl was ↦ inl was | inr leads ↦ inr (alike.1 leads) ],
      λ either. (put to).1 (elim either [ inl was ↦ inl was | inr leads ↦ inr (alike.0 leads) ]),
    )
