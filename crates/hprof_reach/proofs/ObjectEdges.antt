-- The edges that objects give, one object after the other.
use Rattle.std.specs.Prelude.{◌↔◌, slice_index}
use Rattle.std.proofs.Common.{◌≡◌, ◌⊎◌, ◌∙◌, ℕ, List, [], ◌∷◌, ◌++◌, Some, refl, sym, ap, subst, inl, inr}
use Rattle.hprof_values.specs.declared.ids.IdSize.{IdSize}
use Rattle.hprof_items.specs.FactValue.{FactValue, Instance, ObjArray}
use Rattle.hprof_rows.specs.Conflict.{IsConsistent}
use Rattle.hprof_rows.specs.declared.key.Key.TheVariants as keys
use Rattle.hprof_rows.specs.declared.table.Table.TheVariants as tables
use Rattle.hprof_rows.specs.Facts.{Has}
use Rattle.hprof_rows.specs.Tables.{number_of_table, stands_in}
use Rattle.hprof_rows.proofs.FactSets.{Has-back, Has-front, Has-parts}
use Rattle.hprof_rows.proofs.Picking.{picked, picked_is}
use Rattle.hprof_heap.specs.Objects.{IsObject}
use Rattle.hprof_heap.proofs.ObjectFacts.{IsOnlyObject}
use Rattle.hprof_edges.specs.declared.edge.Edge.{Edge}
use Rattle.hprof_edges.specs.declared.field_place.FieldPlace.{FieldPlace}
use Rattle.hprof_edges.specs.DumpEdges.{IsObjectEdge}
use Rattle.hprof_edges.specs.Edges.{IsEdge}
use Rattle.hprof_edges.specs.LeftOut.{IsKept}
use Rattle.hprof_edges.proofs.LeftOutEdges.{kept_from, kept_of_only}
use Rattle.hprof_passes.specs.Passing.{objects_among}
use Rattle.hprof_reach.specs.EdgesSoFar.{IsKeptOf, LeadsAs, LeadsByClass, LeadsByObjects}
use Rattle.hprof_reach.specs.Reaching.{LeadsBy}
use Rattle.hprof_reach.proofs.TableNodes.{stands_there}

-- a dump is one of one object
pub same_object : (fact : FactValue) (one other : ℕ) → IsObject one fact → IsObject other fact → one ≡ other
same_object fact one other is is_too =
    let same : Some (keys.Object one) ≡ Some (keys.Object other) = sym is ∙ is_too in
    let e : one ≡ other = cc in
    e

module _ (ids : IdSize) (facts : List FactValue) (fields : List FieldPlace) where
  -- what gives an edge is a dump of the object that the edge leads from
  dump_from : (fact : FactValue) (edge : Edge) → IsObjectEdge ids facts fact edge → IsObject edge.from fact
  dump_from (Instance id trace class bytes) edge (inl is) = ap (λ (n : ℕ). Some (keys.Object n)) (sym is.from_is)
  dump_from (Instance id trace class bytes) edge (inr is) = ap (λ (n : ℕ). Some (keys.Object n)) (sym is.from_is)
  dump_from (ObjArray id trace class elements) edge (inl is) = ap (λ (n : ℕ). Some (keys.Object n)) (sym is.from_is)
  dump_from (ObjArray id trace class elements) edge (inr is) = ap (λ (n : ℕ). Some (keys.Object n)) (sym is.from_is)
  dump_from fact edge is = absurd is

  -- an object leads on from itself alone
  pub from_object : (object : FactValue) (id : ℕ) → IsObject id object → (from to : ℕ) → LeadsAs (IsKeptOf ids facts fields object) from to
      ↔ ((id ≡ from) × ((edge : Edge) × IsKeptOf ids facts fields object edge × (edge.to ≡ to)))
  from_object object id is from to = (
    λ leads. (
      same_object object id leads.edge.from is (dump_from object leads.edge leads.holds.0) ∙ leads.from_is,
      (leads.edge, leads.holds, leads.to_is),
    ),
    λ both. record {
      edge = both.1.0;
      holds = both.1.1;
      from_is = same_object object both.1.0.from id (dump_from object both.1.0 both.1.1.0) is ∙ both.0;
      to_is = both.1.2;
    },
  )

  -- one object more
  pub objects_more : (objects : List FactValue) (object : FactValue) (from to : ℕ)
      → LeadsByObjects ids facts fields (objects ++ object ∷ []) from to
      ↔ (LeadsByObjects ids facts fields objects from to ⊎ LeadsAs (IsKeptOf ids facts fields object) from to)
  objects_more objects object from to = (there, back) where
    there : LeadsByObjects ids facts fields (objects ++ object ∷ []) from to
        → LeadsByObjects ids facts fields objects from to ⊎ LeadsAs (IsKeptOf ids facts fields object) from to
    there is = elim (Has-parts objects (object ∷ []) is.object is.has) [
      | inl was ↦ inl (record { object = is.object; has = was; leads = is.leads })
      | inr new ↦ elim new [
        | inl same ↦ inr (subst (λ (f : FactValue). LeadsAs (IsKeptOf ids facts fields f) from to) same is.leads)
        | inr none ↦ absurd none
      ]
    ]

    back : LeadsByObjects ids facts fields objects from to ⊎ LeadsAs (IsKeptOf ids facts fields object) from to
        → LeadsByObjects ids facts fields (objects ++ object ∷ []) from to
    back (inl is) = record { object = is.object; has = Has-front objects (object ∷ []) is.object is.has; leads = is.leads }
    back (inr leads) = record { object = object; has = Has-back objects (object ∷ []) object (inl refl); leads = leads }

  -- ---- all objects

  -- an edge that leads there
  leads_by : (edge : Edge) (from to : ℕ) → edge.from ≡ from → edge.to ≡ to → IsEdge ids facts edge → IsKept fields facts edge
      → LeadsBy (IsKept fields facts) ids facts from to
  leads_by edge from to from_is to_is is kept =
      let same : edge ≡ record { from = from; via = edge.via; position = edge.position; to = to } =
      λ i. record { from = from_is i; via = edge.via; position = edge.position; to = to_is i } in
      record {
        via = edge.via;
        position = edge.position;
        edge = subst (IsEdge ids facts) same is;
        holds = subst (IsKept fields facts) same kept;
      }

  module _ (agree : IsConsistent facts) where
    only : (fact : FactValue) (id : ℕ) → Has facts fact → IsObject id fact → IsOnlyObject facts id fact
    only fact id has is = record {
      has = has;
      id = is;
      only = λ other has_other is_too. agree (keys.Object id) fact other has has_other is is_too;
    }

    -- the edges by class dumps and by all objects are those that are kept
    pub all_leads : (from to : ℕ) → (LeadsByClass facts from to ⊎ LeadsByObjects ids facts fields (objects_among facts) from to)
        ↔ LeadsBy (IsKept fields facts) ids facts from to
    all_leads from to = (there, back) where
      there : LeadsByClass facts from to ⊎ LeadsByObjects ids facts fields (objects_among facts) from to
          → LeadsBy (IsKept fields facts) ids facts from to
      there (inl by_class) =
          let edge = by_class.edge in
          let is = (kept_from ids facts fields from edge).1 (inl (by_class.from_is, by_class.holds)) in
          leads_by edge from to by_class.from_is by_class.to_is is.0 is.2
      there (inr by_object) =
          let edge = by_object.leads.edge in
          let has = (picked_is (stands_in (number_of_table tables.Objects)) facts by_object.object by_object.has).has in
          let id = dump_from by_object.object edge by_object.leads.holds.0 in
          let given = (kept_of_only ids facts fields edge.from by_object.object (only by_object.object edge.from has id) edge).1
          by_object.leads.holds in
          let is = (kept_from ids facts fields edge.from edge).1 (inr given) in
          leads_by edge from to by_object.leads.from_is by_object.leads.to_is is.0 is.2

      back : LeadsBy (IsKept fields facts) ids facts from to
          → LeadsByClass facts from to ⊎ LeadsByObjects ids facts fields (objects_among facts) from to
      back leads =
          let edge : Edge = record { from = from; via = leads.via; position = leads.position; to = to } in
          elim ((kept_from ids facts fields from edge).0 (leads.edge, refl, leads.holds)) [
            | inl by_class ↦ inl (record { edge = edge; holds = by_class.1; from_is = refl; to_is = refl })
            | inr by_object ↦
                let given = by_object.1 in
                let id = dump_from given.fact edge given.edge_is in
                let both = (kept_of_only ids facts fields from given.fact (only given.fact from given.has id) edge).0 by_object in
                inr (record {
                  object = given.fact;
                  has = picked (stands_in (number_of_table tables.Objects)) facts given.fact
                      (record { has = given.has; passes = stands_there given.fact from id });
                  leads = record { edge = edge; holds = both; from_is = refl; to_is = refl };
                })
          ]
