-- The edges to an identifier that were collected of the class dumps of a heap, and of objects that make up facts with it.
use Rattle.std.specs.Prelude.{◌↔◌}
use Rattle.std.proofs.Common.{◌≡◌, ◌∙◌, List, [], ◌∷◌, refl, sym, ap, subst}
use Rattle.hprof_values.specs.declared.ids.IdSize.{IdSize}
use Rattle.hprof_items.specs.FactValue.{FactValue}
use Rattle.hprof_rows.specs.declared.table.Table.TheVariants as tables
use Rattle.hprof_heap.specs.Classes.{ClassValue, HasDump, fact_of_class}
use Rattle.hprof_layouts.specs.declared.known.KnownLayouts.{KnownLayouts}
use Rattle.hprof_layouts.specs.Known.{Knows}
use Rattle.hprof_layouts.proofs.KnownPlans.{knows_same}
use Rattle.hprof_passes.specs.Passing.{IsWhole, TakesObjects, objects_among}
use Rattle.hprof_passes.proofs.Tables.{has_same}
use Rattle.hprof_edges.specs.declared.edge.Edge.{Edge}
use Rattle.hprof_edges.specs.Collecting.{PutBehind, is_edge_wanted}
use Rattle.hprof_edges.specs.DumpEdges.{GivenByClass, GivenByObject, IsObjectEdge}
use Rattle.hprof_edges.specs.EdgeSet.{SetOf, wanted_in}
use Rattle.hprof_edges.specs.Edges.{IsEdge}
use Rattle.hprof_edges.specs.ReferrersSeen.{TakesEdges}
use Rattle.hprof_edges.specs.declared.referrer_sink.ReferrerSink.{ReferrerSink}
use Rattle.hprof_edges.proofs.PutTogether.{put_both, put_nothing, put_same}
use Rattle.hprof_edges.proofs.TableEdges.{IsGiven, all_edges, given_first, object_table}

-- ---- objects, one after the other

module _ (ids : IdSize) where
  abbrev Took : ReferrerSink → List FactValue → ReferrerSink → Type 0
  Took old objects new = TakesObjects (λ one size object other. TakesEdges size object one other) ids old objects new

  -- it wants the same edges
  pub keeps_same : (objects : List FactValue) (old new : ReferrerSink) → Took old objects new
      → is_edge_wanted (wanted_in new.set) ≡ is_edge_wanted (wanted_in old.set)
  keeps_same [] old new same = ap (λ (s : ReferrerSink). is_edge_wanted (wanted_in s.set)) (sym same)
  keeps_same (object ∷ objects) old new took = keeps_same objects took.0 new took.2 ∙ took.1.keeps

  -- it has the edges of all of them
  gives_all : (facts objects : List FactValue) (old new : ReferrerSink) → Took old objects new → Knows ids facts old.known
      → (edges : List Edge) → SetOf old.set edges → PutBehind (SetOf new.set) edges (IsGiven (IsObjectEdge ids facts) objects)
  gives_all facts [] old new same knows edges held =
      put_nothing edges (SetOf new.set) (IsGiven (IsObjectEdge ids facts) [])
      (subst (λ (s : ReferrerSink). SetOf s.set edges) same held) (λ edge is. is.has)
  gives_all facts (object ∷ objects) old new took knows edges held =
      put_both edges (SetOf took.0.set) (SetOf new.set) (IsObjectEdge ids facts object) (IsGiven (IsObjectEdge ids facts) objects)
      (IsGiven (IsObjectEdge ids facts) (object ∷ objects)) (took.1.gives facts edges knows held)
      (λ longer more. gives_all facts objects took.0 new took.2
      (subst (λ (k : KnownLayouts). Knows ids facts k) (sym took.1.known) knows) longer more)
      (given_first (IsObjectEdge ids facts) object objects)

-- ---- all of them

module _ (ids : IdSize) (facts all : List FactValue) (whole : IsWhole ids facts all) where
  -- the class dumps are those that were there
  pub dumps_same : (dump : ClassValue) → HasDump all dump ↔ HasDump facts dump
  dumps_same dump = has_same ids facts all whole tables.Classes (λ e. cc) (fact_of_class dump) refl

  by_class_same : (edge : Edge) → GivenByClass all edge ↔ GivenByClass facts edge
  by_class_same edge = (
    λ given. record { dump = given.dump; has = (dumps_same given.dump).0 given.has; edge_is = given.edge_is },
    λ given. record { dump = given.dump; has = (dumps_same given.dump).1 given.has; edge_is = given.edge_is },
  )

  -- the edges of the class dumps, and of the objects, are all edges
  pub all_put : (old new : ReferrerSink) → Took ids old (objects_among all) new → Knows ids facts old.known
      → PutBehind (SetOf old.set) [] (GivenByClass facts) → PutBehind (SetOf new.set) [] (IsEdge ids all)
  all_put old new took knows classes =
      let known = knows_same ids facts all old.known dumps_same knows in
      put_both [] (SetOf old.set) (SetOf new.set) (GivenByClass all) (GivenByObject ids all) (IsEdge ids all)
      (put_same [] (SetOf old.set) (GivenByClass facts) (GivenByClass all) classes by_class_same)
      (λ longer held. put_same longer (SetOf new.set) (IsGiven (IsObjectEdge ids all) (objects_among all)) (GivenByObject ids all)
      (gives_all ids all (objects_among all) old new took known longer held) (object_table ids all))
      (all_edges ids all)
