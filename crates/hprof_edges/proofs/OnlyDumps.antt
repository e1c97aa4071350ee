-- The edges from an identifier are those that its class dump and its object dump give, of which there is one each.
use Rattle.std.specs.Prelude.{◌↔◌}
use Rattle.std.proofs.Common.{◌≡◌, ℕ, ◌⊎◌, List, Some, sym, ap, subst, ◌∙◌, inl, inr}
use Rattle.hprof_values.specs.declared.ids.IdSize.{IdSize}
use Rattle.hprof_values.specs.declared.basic.Basic.{Basic}
use Rattle.hprof_items.specs.FactValue.{FactValue, Instance, ObjArray, PrimArray}
use Rattle.hprof_rows.specs.declared.key.Key.TheVariants as keys
use Rattle.hprof_heap.specs.Classes.{ClassValue, HasDump, HasNoDump}
use Rattle.hprof_heap.specs.Objects.{HasNoObject, IsObject}
use Rattle.hprof_heap.proofs.ObjectFacts.{IsOnlyObject}
use Rattle.hprof_layouts.proofs.FieldAnswers.{dump_of_instance}
use Rattle.hprof_edges.specs.declared.edge.Edge.{Edge}
use Rattle.hprof_edges.specs.DumpEdges.{GivenByClass, GivenByInstance, GivenByObject, IsClassEdge, IsEdgeToClass, IsElementEdge}
use Rattle.hprof_edges.specs.DumpEdges.{IsFieldEdge, IsObjectEdge}
use Rattle.hprof_edges.specs.Edges.{IsEdge}
use Rattle.hprof_edges.proofs.GivenEdges.{class_edge_back, edge_given, object_edge_back}

-- ---- a class dump

module _ (facts : List FactValue) (class : ℕ) where
  pub by_class : (dump : ClassValue) → HasDump facts dump → dump.id ≡ class
      → ((other : ClassValue) → HasDump facts other → other.id ≡ class → dump ≡ other) → (edge : Edge)
      → ((edge.from ≡ class) × GivenByClass facts edge) ↔ IsClassEdge dump edge
  by_class dump has is_class only edge = (there, back) where
    there : (edge.from ≡ class) × GivenByClass facts edge → IsClassEdge dump edge
    there given =
        let g = given.1 in
        subst (λ (d : ClassValue). IsClassEdge d edge) (sym (only g.dump g.has (sym g.edge_is.from_is ∙ given.0))) g.edge_is

    back : IsClassEdge dump edge → (edge.from ≡ class) × GivenByClass facts edge
    back is = (is.from_is ∙ is_class, record { dump = dump; has = has; edge_is = is })

  pub by_no_class : HasNoDump facts class → (edge : Edge) → (edge.from ≡ class) × GivenByClass facts edge → ⊥
  by_no_class none edge given = let g = given.1 in none g.dump g.has (sym g.edge_is.from_is ∙ given.0)

-- ---- an object dump

-- a dump is one of one object
same_object : (id object : ℕ) → Some (keys.Object id) ≡ Some (keys.Object object) → id ≡ object
same_object id object same = cc

module _ (ids : IdSize) (facts : List FactValue) (object : ℕ) where
  -- what gives an edge is a dump of the object that the edge leads from
  is_dump : (fact : FactValue) (edge : Edge) → edge.from ≡ object → IsObjectEdge ids facts fact edge → IsObject object fact
  is_dump (Instance id trace class bytes) edge from (inl is) = ap (λ (n : ℕ). Some (keys.Object n)) (sym is.from_is ∙ from)
  is_dump (Instance id trace class bytes) edge from (inr is) = ap (λ (n : ℕ). Some (keys.Object n)) (sym is.from_is ∙ from)
  is_dump (ObjArray id trace class elements) edge from (inl is) = ap (λ (n : ℕ). Some (keys.Object n)) (sym is.from_is ∙ from)
  is_dump (ObjArray id trace class elements) edge from (inr is) = ap (λ (n : ℕ). Some (keys.Object n)) (sym is.from_is ∙ from)
  is_dump fact edge from is = absurd is

  -- what a dump of the object gives is from it
  from_object : (fact : FactValue) (edge : Edge) → IsObject object fact → IsObjectEdge ids facts fact edge → edge.from ≡ object
  from_object (Instance id trace class bytes) edge of (inl is) = is.from_is ∙ same_object id object of
  from_object (Instance id trace class bytes) edge of (inr is) = is.from_is ∙ same_object id object of
  from_object (ObjArray id trace class elements) edge of (inl is) = is.from_is ∙ same_object id object of
  from_object (ObjArray id trace class elements) edge of (inr is) = is.from_is ∙ same_object id object of
  from_object fact edge of is = absurd is

  -- so it is the only one
  by_only : (fact : FactValue) → IsOnlyObject facts object fact → (edge : Edge) → (edge.from ≡ object) × GivenByObject ids facts edge
      → IsObjectEdge ids facts fact edge
  by_only fact is edge given =
      let g = given.1 in
      subst (λ (f : FactValue). IsObjectEdge ids facts f edge) (sym (is.only g.fact g.has (is_dump g.fact edge given.0 g.edge_is)))
      g.edge_is

  pub of_only : (fact : FactValue) → IsOnlyObject facts object fact → (edge : Edge)
      → ((edge.from ≡ object) × GivenByObject ids facts edge) ↔ IsObjectEdge ids facts fact edge
  of_only fact is edge = (
    by_only fact is edge,
    λ gives. (
      from_object fact edge is.id gives,
      record { fact = fact; has = is.has; edge_is = gives },
    ),
  )

  pub by_instance : (id trace class : ℕ) (bytes : List ℕ) → IsOnlyObject facts object (Instance id trace class bytes) → (edge : Edge)
      → ((edge.from ≡ object) × GivenByObject ids facts edge)
      ↔ (IsEdgeToClass object class edge ⊎ GivenByInstance ids facts object edge)
  by_instance id trace class bytes is edge = (there, back) where
    same : id ≡ object
    same = same_object id object is.id

    there : (edge.from ≡ object) × GivenByObject ids facts edge → IsEdgeToClass object class edge ⊎ GivenByInstance ids facts object edge
    there given = elim (by_only (Instance id trace class bytes) is edge given) [
      | inl to_class ↦ inl (subst (λ (n : ℕ). IsEdgeToClass n class edge) same to_class)
      | inr by_field ↦ inr (record {
        class = class;
        bytes = bytes;
        instance = dump_of_instance facts object id trace class bytes is.has is.id;
        edge_is = subst (λ (n : ℕ). IsFieldEdge ids facts n class bytes edge) same by_field;
      })
    ]

    back : IsEdgeToClass object class edge ⊎ GivenByInstance ids facts object edge → (edge.from ≡ object) × GivenByObject ids facts edge
    back (inl to_class) = (
      to_class.from_is,
      record {
        fact = Instance id trace class bytes;
        has = is.has;
        edge_is = inl (subst (λ (n : ℕ). IsEdgeToClass n class edge) (sym same) to_class);
      },
    )
    back (inr by_field) = (
      by_field.edge_is.from_is,
      record {
        fact = Instance object by_field.instance.trace by_field.class by_field.bytes;
        has = by_field.instance.has;
        edge_is = inr by_field.edge_is;
      },
    )

  pub by_array : (id trace class : ℕ) (elements : List ℕ) → IsOnlyObject facts object (ObjArray id trace class elements) → (edge : Edge)
      → ((edge.from ≡ object) × GivenByObject ids facts edge) ↔ (IsEdgeToClass object class edge ⊎ IsElementEdge object elements edge)
  by_array id trace class elements is edge = (there, back) where
    same : id ≡ object
    same = same_object id object is.id

    there : (edge.from ≡ object) × GivenByObject ids facts edge → IsEdgeToClass object class edge ⊎ IsElementEdge object elements edge
    there given = elim (by_only (ObjArray id trace class elements) is edge given) [
      | inl to_class ↦ inl (subst (λ (n : ℕ). IsEdgeToClass n class edge) same to_class)
      | inr by_element ↦ inr (subst (λ (n : ℕ). IsElementEdge n elements edge) same by_element)
    ]

    by_dump : IsObjectEdge ids facts (ObjArray id trace class elements) edge → GivenByObject ids facts edge
    by_dump gives = record { fact = ObjArray id trace class elements; has = is.has; edge_is = gives }

    back : IsEdgeToClass object class edge ⊎ IsElementEdge object elements edge → (edge.from ≡ object) × GivenByObject ids facts edge
    back (inl to_class) = (to_class.from_is, by_dump (inl (subst (λ (n : ℕ). IsEdgeToClass n class edge) (sym same) to_class)))
    back (inr by_element) = (by_element.from_is, by_dump (inr (subst (λ (n : ℕ). IsElementEdge n elements edge) (sym same) by_element)))

  pub by_numbers : (id trace : ℕ) (elem : Basic) (bytes : List ℕ) → IsOnlyObject facts object (PrimArray id trace elem bytes)
      → (edge : Edge) → (edge.from ≡ object) × GivenByObject ids facts edge → ⊥
  by_numbers id trace elem bytes is edge given = by_only (PrimArray id trace elem bytes) is edge given

  pub by_no_object : HasNoObject facts object → (edge : Edge) → (edge.from ≡ object) × GivenByObject ids facts edge → ⊥
  by_no_object none edge given = let g = given.1 in none g.fact g.has (is_dump g.fact edge given.0 g.edge_is)

  -- ---- both

  pub from_dumps : (edge : Edge) → (((edge.from ≡ object) × GivenByClass facts edge)
      ⊎ ((edge.from ≡ object) × GivenByObject ids facts edge))
      ↔ (IsEdge ids facts edge × (edge.from ≡ object))
  from_dumps edge = (there, back) where
    there : ((edge.from ≡ object) × GivenByClass facts edge) ⊎ ((edge.from ≡ object) × GivenByObject ids facts edge)
        → IsEdge ids facts edge × (edge.from ≡ object)
    there (inl given) = (class_edge_back ids facts edge given.1, given.0)
    there (inr given) = (object_edge_back ids facts edge given.1, given.0)

    back : IsEdge ids facts edge × (edge.from ≡ object)
        → ((edge.from ≡ object) × GivenByClass facts edge) ⊎ ((edge.from ≡ object) × GivenByObject ids facts edge)
    back is = elim (edge_given ids facts edge is.0) [ inl given ↦ inl (is.1, given) | inr given ↦ inr (is.1, given) ]

  pub dumps_from : (edge : Edge) → (IsEdge ids facts edge × (edge.from ≡ object))
      ↔ (((edge.from ≡ object) × GivenByClass facts edge) ⊎ ((edge.from ≡ object) × GivenByObject ids facts edge))
  dumps_from edge = ((from_dumps edge).1, (from_dumps edge).0)

  -- where there is no class dump, all are given by the object dump
  pub object_dump_from : HasNoDump facts object → (edge : Edge) → (IsEdge ids facts edge × (edge.from ≡ object))
      ↔ ((edge.from ≡ object) × GivenByObject ids facts edge)
  object_dump_from none edge = (
    λ is. elim ((dumps_from edge).0 is) [ inl given ↦ absurd (by_no_class facts object none edge given) | inr given ↦ given ],
    λ given. (dumps_from edge).1 (inr given),
  )
