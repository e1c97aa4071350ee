-- Of facts that agree there is a list of all edges from an identifier.
use Rattle.std.specs.Prelude.{◌↔◌, Contains}
use Rattle.std.proofs.Common.{◌≡◌, ◌⊎◌, ℕ, List, [], ◌∷◌, ◌++◌, sym, subst, ◌∙◌, inl, inr}
use Rattle.std.proofs.lemmas.List.Elements.{Contains-append_cases, Contains-append_left, Contains-append_right}
use Rattle.hprof_values.specs.declared.ids.IdSize.{IdSize}
use Rattle.hprof_items.specs.FactValue.{FactValue, Name, Load, Unload, Frame, Trace, Start, End, Rooted, Class, Instance, ObjArray}
use Rattle.hprof_items.specs.FactValue.{PrimArray}
use Rattle.hprof_rows.specs.declared.key.Key.TheVariants as keys
use Rattle.hprof_rows.specs.Conflict.{IsConsistent}
use Rattle.hprof_heap.proofs.ClassFacts.{one_dump_each}
use Rattle.hprof_heap.proofs.ClassFacts as classes
use Rattle.hprof_heap.proofs.ObjectFacts.{IsOnlyObject}
use Rattle.hprof_heap.proofs.ObjectFacts as objects
use Rattle.hprof_layouts.specs.Fields.{AreFields, FieldsValue, Values, Missing, Cyclic, WidthDiffers, NotAnInstance, NoObject}
use Rattle.hprof_layouts.proofs.FieldAnswers.{fields_exist}
use Rattle.hprof_edges.specs.declared.edge.Edge.{Edge}
use Rattle.hprof_edges.specs.declared.edge.Via.TheVariants as vias
use Rattle.hprof_edges.specs.DumpEdges.{GivenByClass, GivenByInstance, GivenByObject, IsEdgeToClass}
use Rattle.hprof_edges.specs.EdgeLists.{named_edges, numbered, targets_of_constants, targets_of_statics, targets_of_values, unless_zero}
use Rattle.hprof_edges.specs.Edges.{IsEdge}
use Rattle.hprof_edges.proofs.ClassDumpEdges.{class_dump_edges}
use Rattle.hprof_edges.proofs.EdgeMembers.{one_there}
use Rattle.hprof_edges.proofs.ObjectDumpEdges.{to_class, by_elements, by_values, no_values}
use Rattle.hprof_edges.proofs.OnlyDumps.{by_array, by_class, by_instance, by_no_class, by_no_object, by_numbers, dumps_from}
use Rattle.hprof_edges.proofs.PutTogether.{nothing_there}

-- ---- lists of all edges of which something holds

pub record Listed (P : Edge → Type 0) : Type 0 where
  pub edges : List Edge
  pub exact : (edge : Edge) → Contains edges edge ↔ P edge

listed_none : (P : Edge → Type 0) → ((edge : Edge) → P edge → ⊥) → Listed P
listed_none P none = record {
  edges = [];
  exact = λ edge. (λ there. absurd (nothing_there edge there), λ is. absurd (none edge is));
}

listed_either : (P Q : Edge → Type 0) → Listed P → Listed Q → Listed (λ edge. P edge ⊎ Q edge)
listed_either P Q one other = record {
  edges = one.edges ++ other.edges;
  exact = λ edge. (
    λ there. elim (Contains-append_cases one.edges other.edges edge there) [
      | inl front ↦ inl ((one.exact edge).0 front)
      | inr back ↦ inr ((other.exact edge).0 back)
    ],
    λ is. elim is [
      | inl p ↦ Contains-append_left one.edges other.edges edge ((one.exact edge).1 p)
      | inr q ↦ Contains-append_right one.edges other.edges edge ((other.exact edge).1 q)
    ],
  );
}

listed_same : (P Q : Edge → Type 0) → Listed P → ((edge : Edge) → Q edge ↔ P edge) → Listed Q
listed_same P Q listed same = record {
  edges = listed.edges;
  exact = λ edge. (λ there. (same edge).1 ((listed.exact edge).0 there), λ is. (listed.exact edge).1 ((same edge).0 is));
}

-- those of them of which something else holds
listed_both : (P Q : Edge → Type 0) → ((edge : Edge) → Q edge ⊎ (Q edge → ⊥)) → Listed P → Listed (λ edge. P edge × Q edge)
listed_both P Q decide listed = record {
  edges = (picked listed.edges).0;
  exact = λ edge. (
    λ there. (let both = ((picked listed.edges).1 edge).0 there in ((listed.exact edge).0 both.0, both.1)),
    λ both. ((picked listed.edges).1 edge).1 ((listed.exact edge).1 both.0, both.1),
  );
} where
  pick : (first : Edge) (rest : List Edge) → Q first ⊎ (Q first → ⊥)
      → (list : List Edge) × ((edge : Edge) → Contains list edge ↔ (Contains rest edge × Q edge))
      → (list : List Edge) × ((edge : Edge) → Contains list edge ↔ (Contains (first ∷ rest) edge × Q edge))
  pick first rest (inl holds) more = (
    first ∷ more.0,
    λ edge. (
      λ there. elim (Contains-append_cases (first ∷ []) more.0 edge there) [
        | inl here ↦ (Contains-append_left (first ∷ []) rest edge here, subst Q (one_there first edge here) holds)
        | inr later ↦ let both = (more.1 edge).0 later in (Contains-append_right (first ∷ []) rest edge both.0, both.1)
      ],
      λ both. elim (Contains-append_cases (first ∷ []) rest edge both.0) [
        | inl here ↦ Contains-append_left (first ∷ []) more.0 edge here
        | inr later ↦ Contains-append_right (first ∷ []) more.0 edge ((more.1 edge).1 (later, both.1))
      ],
    ),
  )
  pick first rest (inr fails) more = (
    more.0,
    λ edge. (
      λ there. (let both = (more.1 edge).0 there in (Contains-append_right (first ∷ []) rest edge both.0, both.1)),
      λ both. elim (Contains-append_cases (first ∷ []) rest edge both.0) [
        | inl here ↦ absurd (fails (subst Q (sym (one_there first edge here)) both.1))
        | inr later ↦ (more.1 edge).1 (later, both.1)
      ],
    ),
  )

  picked : (edges : List Edge) → (list : List Edge) × ((edge : Edge) → Contains list edge ↔ (Contains edges edge × Q edge))
  picked [] = ([], λ edge. (λ there. absurd (nothing_there edge there), λ both. both.0))
  picked (first ∷ rest) = pick first rest (decide first) (picked rest)

-- ---- the edges from an identifier

module _ (ids : IdSize) (facts : List FactValue) (agree : IsConsistent facts) (id : ℕ) where
  by_the_class : Listed (λ edge. (edge.from ≡ id) × GivenByClass facts edge)
  by_the_class = elim (classes.look_up facts id) [
    | classes.NotFound none ↦ listed_none _ (by_no_class facts id none)
    | classes.Found dump has same ↦ listed_same _ _ (record {
      edges = named_edges dump ++ (numbered dump.id vias.Constant 0 (targets_of_constants dump.constants)
          ++ numbered dump.id vias.Static 0 (targets_of_statics dump.statics));
      exact = class_dump_edges dump;
    }) (by_class facts id dump has same
        (λ other has_other same_other. one_dump_each facts agree dump other has has_other (same ∙ sym same_other)))
  ]

  by_fields : Listed (GivenByInstance ids facts id)
  by_fields = let some = fields_exist ids facts id in go some.0 some.1 where
    go : (fields : FieldsValue) → AreFields ids facts id fields → Listed (GivenByInstance ids facts id)
    go (Values values) are = record {
      edges = numbered id vias.Field 0 (targets_of_values values);
      exact = by_values ids facts id agree values are;
    }
    go (Missing class) are = listed_none _ (no_values ids facts id agree (Missing class) are (λ values e. cc))
    go Cyclic are = listed_none _ (no_values ids facts id agree Cyclic are (λ values e. cc))
    go (WidthDiffers width) are = listed_none _ (no_values ids facts id agree (WidthDiffers width) are (λ values e. cc))
    go NotAnInstance are = listed_none _ (no_values ids facts id agree NotAnInstance are (λ values e. cc))
    go NoObject are = listed_none _ (no_values ids facts id agree NoObject are (λ values e. cc))

  by_the_object : Listed (λ edge. (edge.from ≡ id) × GivenByObject ids facts edge)
  by_the_object = elim (objects.look_up facts id) [
    | objects.NotFound none ↦ listed_none _ (by_no_object ids facts id none)
    | objects.Found fact has is ↦ go fact
        (record { has = has; id = is; only = λ other has_other is_other. agree (keys.Object id) fact other has has_other is is_other })
  ] where
    to_the_class : (class : ℕ) → Listed (IsEdgeToClass id class)
    to_the_class class = record {
      edges = unless_zero (record { from = id; via = vias.Class; position = 0; to = class });
      exact = to_class id class;
    }

    go : (fact : FactValue) → IsOnlyObject facts id fact → Listed (λ edge. (edge.from ≡ id) × GivenByObject ids facts edge)
    go (Instance object trace class bytes) only =
        listed_same _ _ (listed_either _ _ (to_the_class class) by_fields) (by_instance ids facts id object trace class bytes only)
    go (ObjArray object trace class elements) only =
        listed_same _ _ (listed_either _ _ (to_the_class class)
        (record { edges = numbered id vias.Element 0 elements; exact = by_elements id elements }))
        (by_array ids facts id object trace class elements only)
    go (PrimArray object trace elem bytes) only = listed_none _ (by_numbers ids facts id object trace elem bytes only)
    go (Name name text) only = let is = only.id in absurd cc
    go (Load serial class trace name) only = let is = only.id in absurd cc
    go (Unload serial) only = let is = only.id in absurd cc
    go (Frame frame method signature source class_serial line) only = let is = only.id in absurd cc
    go (Trace serial thread frames) only = let is = only.id in absurd cc
    go (Start thread object trace name group parent_group) only = let is = only.id in absurd cc
    go (End thread) only = let is = only.id in absurd cc
    go (Rooted root) only = let is = only.id in absurd cc
    go (Class class trace parent loader signers domain reserved1 reserved2 size constants statics fields) only =
        let is = only.id in absurd cc

  pub edges_exist : Listed (λ edge. IsEdge ids facts edge × (edge.from ≡ id))
  edges_exist = listed_same _ _ (listed_either _ _ by_the_class by_the_object) (dumps_from ids facts id)

  -- those of which something holds
  pub edges_by : (P : Edge → Type 0) → ((edge : Edge) → P edge ⊎ (P edge → ⊥))
      → Listed (λ edge. IsEdge ids facts edge × (edge.from ≡ id) × P edge)
  edges_by P decide =
      listed_same _ _ (listed_both (λ edge. IsEdge ids facts edge × (edge.from ≡ id)) P decide edges_exist)
      (λ edge. (λ is. ((is.0, is.1), is.2), λ both. (both.0.0, both.0.1, both.1)))
