-- How an identifier is reached, told in words, is the report on it.
use Rattle.std.specs.Prelude.{◌↔◌}
use Rattle.std.proofs.Common.{◌≡◌, ℕ, false, List, ◌++◌, Option, Some, None, codes, inl, inr, refl}
use Rattle.hprof_values.specs.declared.ids.IdSize.{IdSize}
use Rattle.hprof_items.specs.FactValue.{FactValue}
use Rattle.hprof_rows.specs.Conflict.{IsConsistent}
use Rattle.hprof_heap.specs.Classes.{ClassValue}
use Rattle.hprof_heap.specs.Found.{IsClassFound, IsObjectFound}
use Rattle.hprof_edges.specs.declared.edge.Edge.{Edge}
use Rattle.hprof_edges.specs.Edges.{AnyEdge, IsEdge}
use Rattle.hprof_reach.specs.Reaching.{IsDumped}
use Rattle.hprof_reach.proofs.Choices.{same_path}
use Rattle.hprof_weak.specs.Weak.{IsStrong}
use Rattle.hprof_lines.specs.Line.{nothing_line}
use Rattle.hprof_why.specs.declared.path.Path.{Path}
use Rattle.hprof_why.specs.declared.reached.Reached.{Reached}
use Rattle.hprof_why.specs.declared.reached.Reached.TheVariants as reached
use Rattle.hprof_why.specs.Paths.{IsPathTo, IsReached, TellsFound, TellsReached}
use Rattle.hprof_why.specs.WhyText.{ArePathFindings, IsFoundText, IsReachedBy, IsReachedText, IsToldPath, IsWhyText, PathFindings}
use Rattle.hprof_why.proofs.SomeLinks.{told_exists}
use Rattle.hprof_why.proofs.SomeText.{no_answer, told_same, told_strong}

module _ (ids : IdSize) (facts : List FactValue) (agree : IsConsistent facts) (found : PathFindings)
    (are : ArePathFindings ids facts found) (id : ℕ) where
  -- ---- a path has a text

  told_by_strong : (path : Path) → IsPathTo (IsStrong facts) ids facts id (Some path)
      → (text : List ℕ) × IsToldPath (IsStrong facts) ids facts found path.distance path.nodes.items text
  told_by_strong path is =
      let Told = λ (edge : Edge). found.edges.is_weak edge ≡ false in
      let same = told_strong ids facts agree found id found.edges are.are_edges in
      let back : (edge : Edge) → IsEdge ids facts edge → IsStrong facts edge ↔ (found.edges.is_weak edge ≡ false) =
      λ edge edge_is. ((same edge edge_is).1, (same edge edge_is).0) in
      let some = told_exists Told ids facts agree (λ edge. no_answer ids facts agree found id (found.edges.is_weak edge)) found id
      path.distance path.nodes.items (same_path (IsStrong facts) Told ids facts back id (Some path.nodes.items) is.1) in
      (some.0, told_same Told (IsStrong facts) ids facts found same path.distance path.nodes.items some.0 some.1)

  told_by_all : (path : Path) → IsPathTo AnyEdge ids facts id (Some path)
      → (text : List ℕ) × IsToldPath AnyEdge ids facts found path.distance path.nodes.items text
  told_by_all path is =
      told_exists AnyEdge ids facts agree (λ edge. inl tt) found id path.distance path.nodes.items is.1

  -- ---- and it is the report

  reached_along : (P : Edge → Type 0) (path : Path) → IsPathTo P ids facts id (Some path) → (text : List ℕ)
      → IsToldPath P ids facts found path.distance path.nodes.items text → IsReachedBy P ids facts found id text
  reached_along P path is text told = record {
    distance = path.distance;
    is_distance = is.0;
    nodes = path.nodes.items;
    is_path = is.1;
    told = told;
  }

  tells : (how : Reached) → IsReached ids facts id how
      → (text : List ℕ) × TellsReached ids facts found how text × IsReachedText ids facts found id text
  tells (reached.Strongly path) is =
      let told = told_by_strong path is in (told.0, told.1, inl (reached_along (IsStrong facts) path is told.0 told.1))
  tells (reached.Weakly path) is =
      let told = told_by_all path is.1 in (
        codes "only by weak references\n" ++ told.0,
        (told.0, told.1, refl),
        inr (inl (is.0, (told.0, reached_along AnyEdge path is.1 told.0 told.1, refl))),
      )
  tells reached.Nowise is = (codes "not reached\n", refl, inr (inr (is.1, refl)))

  -- ---- of an identifier that has a dump, or has none

  -- the text tells how it is reached, and is the report
  abbrev IsTold : Reached → Option ClassValue → Option FactValue → List ℕ → Type 0
  IsTold how class object text = IsFoundText id class object (TellsReached ids facts found how) text
      × IsFoundText id class object (IsReachedText ids facts found id) text

  told_of : (how : Reached) (class : Option ClassValue) (object : Option FactValue) → IsClassFound facts id class
      → IsObjectFound facts id object → (IsDumped facts id → IsReached ids facts id how)
      → (text : List ℕ) × IsTold how class object text
  told_of how None None no_class no_object is = (nothing_line id, (refl, refl))
  told_of how (Some dump) object has other is =
      let it = tells how (is (inl (dump, has.0, has.1))) in (it.0, (it.1, it.2))
  told_of how None (Some fact) none has is =
      let it = tells how (is (inr (fact, has.0, has.1))) in (it.0, (it.1, it.2))

  pub why_told : (how : Reached) → (IsDumped facts id → IsReached ids facts id how)
      → (text : List ℕ) × TellsFound ids facts found id how text × IsWhyText ids facts id text
  why_told how is =
      let it = told_of how (found.nodes.class id) (found.nodes.object id) (are.are_nodes.classes id) (are.are_nodes.objects id) is in
      (it.0, it.1.0, record { agree = agree; found = found; are_found = are; is = it.1.1 })
