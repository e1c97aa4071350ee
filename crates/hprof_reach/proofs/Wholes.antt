-- What the facts that objects make up with others have of nodes and roots.
use Rattle.std.specs.Prelude.{◌↔◌, Contains}
use Rattle.std.proofs.Common.{◌≡◌, ◌⊎◌, ℕ, List, refl, inl, inr}
use Rattle.hprof_values.specs.declared.ids.IdSize.{IdSize}
use Rattle.hprof_values.specs.declared.root.Root.{Root}
use Rattle.hprof_items.specs.FactValue.{FactValue, Rooted}
use Rattle.hprof_rows.specs.declared.table.Table.TheVariants as tables
use Rattle.hprof_rows.specs.Facts.{Has}
use Rattle.hprof_passes.specs.Passing.{IsWhole, objects_among}
use Rattle.hprof_passes.proofs.Tables.{has_same}
use Rattle.hprof_edges.proofs.SeenReferrers.{dumps_same}
use Rattle.hprof_reach.specs.Nodes.{GivesObject, IsClassNode}
use Rattle.hprof_reach.specs.Reaching.{IsNode, IsRooted}
use Rattle.hprof_reach.proofs.Reached.{either_dump}
use Rattle.hprof_reach.proofs.TableNodes.{IsGiven, object_nodes}

module _ (ids : IdSize) (facts all : List FactValue) (whole : IsWhole ids facts all) where
  classes_same : (id : ℕ) → IsClassNode all id ↔ IsClassNode facts id
  classes_same id = (
    λ is. (is.0, (is.1.0, (dumps_same ids facts all whole is.1.0).0 is.1.1, is.1.2)),
    λ is. (is.0, (is.1.0, (dumps_same ids facts all whole is.1.0).1 is.1.1, is.1.2)),
  )

  roots_same : (root : Root) → Has all (Rooted root) ↔ Has facts (Rooted root)
  roots_same root = has_same ids facts all whole tables.Roots (λ e. cc) (Rooted root) refl

  pub rooted_same : (id : ℕ) → IsRooted all id ↔ IsRooted facts id
  rooted_same id = (
    λ is. record { root = is.root; has = (roots_same is.root).0 is.has; is = is.is },
    λ is. record { root = is.root; has = (roots_same is.root).1 is.has; is = is.is },
  )

  -- the class nodes, and what the objects give, are the nodes
  pub all_nodes : (begun seen sorted : List ℕ) → ((id : ℕ) → Contains begun id ↔ IsClassNode facts id)
      → ((id : ℕ) → Contains seen id ↔ (Contains begun id ⊎ IsGiven GivesObject (objects_among all) id))
      → ((id : ℕ) → Contains sorted id ↔ Contains seen id) → (id : ℕ) → Contains sorted id ↔ IsNode all id
  all_nodes begun seen sorted classes objects same id = (
    λ has. (either_dump all id).1 (elim ((objects id).0 ((same id).0 has)) [
      | inl class ↦ inl ((classes_same id).1 ((classes id).0 class))
      | inr object ↦ inr ((object_nodes all id).0 object)
    ]),
    λ is. (same id).1 ((objects id).1 (elim ((either_dump all id).0 is) [
      | inl class ↦ inl ((classes id).1 ((classes_same id).0 class))
      | inr object ↦ inr ((object_nodes all id).1 object)
    ])),
  )
