-- The edges of facts are those that their class dumps and object dumps give.
use Rattle.std.specs.Prelude.{◌≢◌}
use Rattle.std.proofs.Common.{◌≡◌, ◌⊎◌, ℕ, List, refl, sym, subst, inl, inr}
use Rattle.hprof_values.specs.declared.ids.IdSize.{IdSize}
use Rattle.hprof_items.specs.FactValue.{FactValue, Instance, ObjArray}
use Rattle.hprof_rows.specs.Facts.{Has}
use Rattle.hprof_heap.specs.Classes.{ClassValue, HasDump}
use Rattle.hprof_edges.specs.declared.edge.Via.{Via}
use Rattle.hprof_edges.specs.declared.edge.Via.TheVariants as vias
use Rattle.hprof_edges.specs.declared.edge.Edge.{Edge}
use Rattle.hprof_edges.specs.DumpEdges.{ClassRefers, GivenByClass, GivenByObject, IsObjectEdge}
use Rattle.hprof_edges.specs.Edges.{IsEdge, OfDump, Refers}

module _ (ids : IdSize) (facts : List FactValue) where
  -- ---- from an edge to a dump

  by_dump : (from : ℕ) (via : Via) (position to : ℕ) (P : ClassValue → Type 0) → to ≢ 0 → OfDump facts from P
      → ((dump : ClassValue) → P dump → ClassRefers dump via position to)
      → GivenByClass facts (record { from = from; via = via; position = position; to = to })
  by_dump from via position to P not_zero of gives = record {
    dump = of.dump;
    has = of.has;
    edge_is = record { not_zero = not_zero; from_is = sym of.id; refers_is = gives of.dump of.holds };
  }

  given : (from : ℕ) (via : Via) (position to : ℕ) → to ≢ 0 → Refers ids facts from via position to
      → GivenByClass facts (record { from = from; via = via; position = position; to = to })
      ⊎ GivenByObject ids facts (record { from = from; via = via; position = position; to = to })
  given from vias.Class position to not_zero is = elim is.1 [
    | inl one ↦ inr (record {
      fact = Instance from one.1.trace to one.0;
      has = one.1.has;
      edge_is = inl (record { not_zero = not_zero; from_is = refl; via_is = refl; position_is = is.0; to_is = refl });
    })
    | inr one ↦ inr (record {
      fact = ObjArray from one.1.trace to one.0;
      has = one.1.has;
      edge_is = inl (record { not_zero = not_zero; from_is = refl; via_is = refl; position_is = is.0; to_is = refl });
    })
  ]
  given from vias.Parent position to not_zero is = inl (by_dump from vias.Parent position to _ not_zero is.1 (λ dump e. (is.0, e)))
  given from vias.Loader position to not_zero is = inl (by_dump from vias.Loader position to _ not_zero is.1 (λ dump e. (is.0, e)))
  given from vias.Signers position to not_zero is = inl (by_dump from vias.Signers position to _ not_zero is.1 (λ dump e. (is.0, e)))
  given from vias.Domain position to not_zero is = inl (by_dump from vias.Domain position to _ not_zero is.1 (λ dump e. (is.0, e)))
  given from vias.Constant position to not_zero is = inl (by_dump from vias.Constant position to _ not_zero is (λ dump e. e))
  given from vias.Static position to not_zero is = inl (by_dump from vias.Static position to _ not_zero is (λ dump e. e))
  given from vias.Field position to not_zero is = inr (record {
    fact = Instance from is.instance.trace is.class is.bytes;
    has = is.instance.has;
    edge_is = inr (record { not_zero = not_zero; from_is = refl; via_is = refl; reference = is.reference });
  })
  given from vias.Element position to not_zero is = inr (record {
    fact = ObjArray from is.array.trace is.class is.elements;
    has = is.array.has;
    edge_is = inr (record { not_zero = not_zero; from_is = refl; via_is = refl; there = is.there });
  })

  pub edge_given : (edge : Edge) → IsEdge ids facts edge → GivenByClass facts edge ⊎ GivenByObject ids facts edge
  edge_given edge is = given edge.from edge.via edge.position edge.to is.0 is.1

  -- ---- from a class dump to an edge

  dump_refers : (dump : ClassValue) → HasDump facts dump → (via : Via) (position to : ℕ) → ClassRefers dump via position to
      → Refers ids facts dump.id via position to
  dump_refers dump has vias.Class position to is = absurd is
  dump_refers dump has vias.Parent position to is = (is.0, record { dump = dump; has = has; id = refl; holds = is.1 })
  dump_refers dump has vias.Loader position to is = (is.0, record { dump = dump; has = has; id = refl; holds = is.1 })
  dump_refers dump has vias.Signers position to is = (is.0, record { dump = dump; has = has; id = refl; holds = is.1 })
  dump_refers dump has vias.Domain position to is = (is.0, record { dump = dump; has = has; id = refl; holds = is.1 })
  dump_refers dump has vias.Constant position to is = record { dump = dump; has = has; id = refl; holds = is }
  dump_refers dump has vias.Static position to is = record { dump = dump; has = has; id = refl; holds = is }
  dump_refers dump has vias.Field position to is = absurd is
  dump_refers dump has vias.Element position to is = absurd is

  pub class_edge_back : (edge : Edge) → GivenByClass facts edge → IsEdge ids facts edge
  class_edge_back edge is =
      let e = is.edge_is in (
        e.not_zero,
        subst (λ (from : ℕ). Refers ids facts from edge.via edge.position edge.to) (sym e.from_is)
            (dump_refers is.dump is.has edge.via edge.position edge.to e.refers_is),
      )

  -- ---- from an object dump to an edge

  -- an edge by that via, where it refers
  by_via : (edge : Edge) (object : ℕ) (via : Via) → edge.from ≡ object → edge.via ≡ via
      → Refers ids facts object via edge.position edge.to → Refers ids facts edge.from edge.via edge.position edge.to
  by_via edge object via from_is via_is refers =
      subst (λ (from : ℕ). Refers ids facts from edge.via edge.position edge.to) (sym from_is)
      (subst (λ (by : Via). Refers ids facts object by edge.position edge.to) (sym via_is) refers)

  object_refers : (fact : FactValue) (edge : Edge) → Has facts fact → IsObjectEdge ids facts fact edge
      → Refers ids facts edge.from edge.via edge.position edge.to
  object_refers (Instance id trace class bytes) edge has (inl is) =
      by_via edge id vias.Class is.from_is is.via_is
      (is.position_is, inl (bytes, record { trace = trace; has = subst (λ (c : ℕ). Has facts (Instance id trace c bytes)) is.to_is has }))
  object_refers (Instance id trace class bytes) edge has (inr is) =
      by_via edge id vias.Field is.from_is is.via_is
      (record { class = class; bytes = bytes; instance = record { trace = trace; has = has }; reference = is.reference })
  object_refers (ObjArray id trace class elements) edge has (inl is) =
      by_via edge id vias.Class is.from_is is.via_is (
        is.position_is,
        inr (
          elements,
          record {
            trace = trace;
            has = subst
                (λ (c : ℕ). Has facts (ObjArray id trace c elements)) is.to_is has;
          },
        ),
      )
  object_refers (ObjArray id trace class elements) edge has (inr is) =
      by_via edge id vias.Element is.from_is is.via_is
      (record { class = class; elements = elements; array = record { trace = trace; has = has }; there = is.there })
  object_refers fact edge has is = absurd is

  not_zero_of : (fact : FactValue) (edge : Edge) → IsObjectEdge ids facts fact edge → edge.to ≢ 0
  not_zero_of (Instance id trace class bytes) edge (inl is) = is.not_zero
  not_zero_of (Instance id trace class bytes) edge (inr is) = is.not_zero
  not_zero_of (ObjArray id trace class elements) edge (inl is) = is.not_zero
  not_zero_of (ObjArray id trace class elements) edge (inr is) = is.not_zero
  not_zero_of fact edge is = absurd is

  pub object_edge_back : (edge : Edge) → GivenByObject ids facts edge → IsEdge ids facts edge
  object_edge_back edge is = (not_zero_of is.fact edge is.edge_is, object_refers is.fact edge is.has is.edge_is)
