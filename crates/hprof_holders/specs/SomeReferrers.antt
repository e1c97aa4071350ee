-- Of facts that agree there is a list of all edges to an identifier.
use Rattle.std.specs.Prelude.{◌↔◌}
use Rattle.std.proofs.Common.{◌≡◌, ◌⊎◌, ℕ, ◌==◌, Bool, true, false, List, [], ◌∷◌, ◌++◌, refl, sym, ap, subst, ◌∙◌, inl, inr}
use Rattle.std.specs.Cmp.{IsTotalOrder}
use Rattle.std.specs.List.Sorted.{IsStrictlySortedBy}
use Rattle.std.specs.Ordering.{is_eq}
use Rattle.std.specs.declared.cmp.Ordering.{Ordering}
use Rattle.std.specs.declared.cmp.Ordering.TheVariants.{Equal}
use Rattle.std.proofs.lemmas.Bool.{eqb-true, eqb-false}
use Rattle.hprof_values.specs.declared.ids.IdSize.{IdSize}
use Rattle.hprof_items.specs.FactValue.{FactValue, Class, Instance, ObjArray}
use Rattle.hprof_rows.specs.Conflict.{IsConsistent}
use Rattle.hprof_rows.specs.Facts.{Has}
use Rattle.hprof_histogram.proofs.Members.{IsIn, in_front, in_back, in_from_Contains, Contains-from_in}
use Rattle.hprof_histogram.proofs.Joining.{join_one}
use Rattle.hprof_edges.specs.declared.edge.Edge.{Edge}
use Rattle.hprof_edges.specs.contracts.edge.EdgeOrd.TheImpl as edge_ord
use Rattle.hprof_edges.specs.contracts.edge.EdgeOrd.TheImpl.Laws.{total-law, matches_eq-law}
use Rattle.hprof_edges.specs.DumpEdges.{IsObjectEdge}
use Rattle.hprof_edges.specs.Edges.{AreReferrers, IsEdge}
use Rattle.hprof_edges.proofs.EdgeEquality.{edge_same}
use Rattle.hprof_edges.proofs.OnlyDumps.{dumps_from}
use Rattle.hprof_reach.proofs.SomeEdges.{edges_exist}

-- ---- members

module _ {X : Type 0} where
  in_either : (xs ys : List X) (x : X) → IsIn x (xs ++ ys) → IsIn x xs ⊎ IsIn x ys
  in_either [] ys x has = inr has
  in_either (y ∷ xs) ys x has = elim has [
    | inl is ↦ inl (inl is)
    | inr later ↦ elim (in_either xs ys x later) [ inl left ↦ inl (inr left) | inr right ↦ inr right ]
  ]

  module _ (R : X → X → Ordering) where
    -- the same members, in order
    record Sorted (xs : List X) : Type 0 where
      pub all : List X
      pub sorted : IsStrictlySortedBy R all
      pub same : (x : X) → IsIn x all ↔ IsIn x xs

    module _ (total : IsTotalOrder R) (same : (x y : X) → R x y ≡ Equal → x ≡ y) where
      sorted_of : (xs : List X) → Sorted xs
      unfolding IsStrictlySortedBy
      sorted_of [] = record { all = []; sorted = tt; same = λ y. (λ has. has, λ has. has) }
      sorted_of (x ∷ xs) =
          let rest = sorted_of xs in
          let it = join_one R total same x rest.all rest.sorted in
          record {
            all = it.all;
            sorted = it.sorted;
            same = λ y. (
              λ has. elim (it.only y has) [ inl is ↦ inl is | inr had ↦ inr ((rest.same y).0 had) ],
              λ has. elim has [
                | inl is ↦ subst (λ (z : X). IsIn z it.all) (sym is) it.has
                | inr had ↦ it.keeps y ((rest.same y).1 had)
              ],
            );
          }

-- ---- edges

-- these are the edges of which that holds
record Listed (P : Edge → Type 0) : Type 0 where
  pub edges : List Edge
  pub exact : (edge : Edge) → IsIn edge edges ↔ P edge

module _ (ids : IdSize) (facts : List FactValue) (agree : IsConsistent facts) where
  -- all from one of some identifiers
  listed_from : (froms : List ℕ) → Listed (λ edge. IsEdge ids facts edge × IsIn edge.from froms)
  listed_from [] = record { edges = []; exact = λ edge. (λ there. absurd there, λ is. absurd is.1) }
  listed_from (from ∷ froms) =
      let one = edges_exist ids facts agree from in
      let rest = listed_from froms in
      record {
        edges = one.edges ++ rest.edges;
        exact = λ edge. (
          λ there. elim (in_either one.edges rest.edges edge there) [
            | inl here ↦ let is = (one.exact edge).0 (Contains-from_in one.edges edge here) in (is.0, inl is.1)
            | inr later ↦ let is = (rest.exact edge).0 later in (is.0, inr is.1)
          ],
          λ is. elim is.1 [
            | inl here ↦ in_front one.edges rest.edges edge (in_from_Contains one.edges edge ((one.exact edge).1 (is.0, here)))
            | inr later ↦ in_back one.edges rest.edges edge ((rest.exact edge).1 (is.0, later))
          ],
        );
      }

  -- the identifier that a fact is a dump of
  abbrev dumped : FactValue → List ℕ
  dumped (Class id trace parent loader signers domain reserved1 reserved2 size constants statics fields) = id ∷ []
  dumped (Instance id trace class bytes) = id ∷ []
  dumped (ObjArray id trace class elements) = id ∷ []
  dumped fact = []

  abbrev froms_of : List FactValue → List ℕ
  froms_of [] = []
  froms_of (fact ∷ rest) = dumped fact ++ froms_of rest

  among : (some : List FactValue) (fact : FactValue) (from : ℕ) → Has some fact → IsIn from (dumped fact) → IsIn from (froms_of some)
  among [] fact from has is = absurd has
  among (first ∷ rest) fact from has is = elim has [
    | inl same ↦ in_front (dumped first) (froms_of rest) from (subst (λ (f : FactValue). IsIn from (dumped f)) same is)
    | inr later ↦ in_back (dumped first) (froms_of rest) from (among rest fact from later is)
  ]

  object_from : (fact : FactValue) (edge : Edge) → IsObjectEdge ids facts fact edge → IsIn edge.from (dumped fact)
  object_from (Instance id trace class bytes) edge (inl is) = inl is.from_is
  object_from (Instance id trace class bytes) edge (inr is) = inl is.from_is
  object_from (ObjArray id trace class elements) edge (inl is) = inl is.from_is
  object_from (ObjArray id trace class elements) edge (inr is) = inl is.from_is
  object_from fact edge is = absurd is

  -- each edge is from a dump
  edge_from : (edge : Edge) → IsEdge ids facts edge → IsIn edge.from (froms_of facts)
  edge_from edge is = elim ((dumps_from ids facts edge.from edge).0 (is, refl)) [
    | inl class ↦ let g = class.1 in among facts _ edge.from g.has (inl g.edge_is.from_is)
    | inr object ↦ let g = object.1 in among facts g.fact edge.from g.has (object_from g.fact edge g.edge_is)
  ]

  -- those of a list that lead to an identifier
  leading_to : (id : ℕ) (edges : List Edge) → Listed (λ edge. IsIn edge edges × (edge.to ≡ id))
  leading_to id [] = record { edges = []; exact = λ edge. (λ there. absurd there, λ is. absurd is.0) }
  leading_to id (first ∷ edges) = by (first.to == id) refl (leading_to id edges) where
    by : (test : Bool) → (first.to == id) ≡ test → Listed (λ edge. IsIn edge edges × (edge.to ≡ id))
        → Listed (λ edge. IsIn edge (first ∷ edges) × (edge.to ≡ id))
    by true e rest = record {
      edges = first ∷ rest.edges;
      exact = λ edge. (
        λ there. elim there [
          | inl is ↦ (inl is, ap (λ (x : Edge). x.to) is ∙ eqb-true first.to id e)
          | inr later ↦ let it = (rest.exact edge).0 later in (inr it.0, it.1)
        ],
        λ is. elim is.0 [ inl here ↦ inl here | inr later ↦ inr ((rest.exact edge).1 (later, is.1)) ],
      );
    }
    by false e rest = record {
      edges = rest.edges;
      exact = λ edge. (
        λ there. let it = (rest.exact edge).0 there in (inr it.0, it.1),
        λ is. elim is.0 [
          | inl here ↦ absurd (eqb-false first.to id e (sym (ap (λ (x : Edge). x.to) here) ∙ is.1))
          | inr later ↦ (rest.exact edge).1 (later, is.1)
        ],
      );
    }

  tied : (one other : Edge) → (edge_ord.ghosts).cmp one other ≡ Equal → one ≡ other
  tied one other e = edge_same one other (matches_eq-law one other ∙ ap is_eq e)

  pub some_referrers : (id : ℕ) → (edges : List Edge) × AreReferrers ids facts id edges
  some_referrers id =
      let all = listed_from (froms_of facts) in
      let some = leading_to id all.edges in
      let it = sorted_of (edge_ord.ghosts).cmp total-law tied some.edges in (
        it.all,
        record {
          ascend = it.sorted;
          exact = λ edge. (
            λ has. let is = (some.exact edge).0 ((it.same edge).0 (in_from_Contains it.all edge has)) in
                (((all.exact edge).0 is.0).0, is.1),
            λ is. Contains-from_in it.all edge
                ((it.same edge).1 ((some.exact edge).1 ((all.exact edge).1 (is.0, edge_from edge is.0), is.1))),
          );
        },
      )
