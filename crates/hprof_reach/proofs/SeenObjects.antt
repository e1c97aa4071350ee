-- Objects that come in order, and what sinks make of them.
use Rattle.std.specs.Prelude.{◌↔◌, Contains, slice_index}
use Rattle.std.proofs.Common.{◌≡◌, ◌⊎◌, ◌∙◌, ◌<◌, ◌≤◌, ◌+◌, ℕ, true, List, [], ◌∷◌, ◌++◌, Some, refl, sym, ap, subst, inl, inr, arith}
use Rattle.std.proofs.Common.{append_assoc}
use Rattle.std.specs.Ordering.{nat_cmp}
use Rattle.std.proofs.lemmas.Bool.{cases_order}
use Rattle.std.proofs.lemmas.List.{append-nil}
use Rattle.hprof_values.specs.declared.ids.IdSize.{IdSize}
use Rattle.hprof_items.specs.FactValue.{FactValue, Instance, ObjArray, PrimArray}
use Rattle.hprof_rows.specs.declared.key.Key.TheVariants as keys
use Rattle.hprof_rows.specs.declared.table.Table.TheVariants as tables
use Rattle.hprof_rows.specs.Facts.{Has}
use Rattle.hprof_rows.specs.Order.{IsBefore, IsCanonicalOrder, order_of}
use Rattle.hprof_rows.specs.Tables.{number_of_table, stands_in}
use Rattle.hprof_rows.proofs.FactSets.{All-has}
use Rattle.hprof_rows.proofs.Order.{IsBefore-asym, IsBefore-key}
use Rattle.hprof_rows.proofs.Picking.{picked_is}
use Rattle.hprof_rows.proofs.ReadBack.{passed_ordered}
use Rattle.hprof_heap.specs.Objects.{IsObject}
use Rattle.hprof_passes.specs.Passing.{TakesObjects, objects_among}
use Rattle.hprof_reach.specs.EdgesMade.{EndsBelow, HasSeen, SeesNext, StaysOver, fields_of, nodes_of}
use Rattle.hprof_reach.specs.Nodes.{GivesObject}
use Rattle.hprof_reach.specs.NodesSeen.{TakesNode}
use Rattle.hprof_reach.specs.declared.edge_sink.EdgeSink.{EdgeSink}
use Rattle.hprof_reach.specs.declared.node_sink.NodeSink.{NodeSink}
use Rattle.hprof_reach.proofs.TableNodes.{IsGiven}

-- ---- in order

place_of : (fact : FactValue) (id : ℕ) → IsObject id fact → order_of fact ≡ 9 ∷ id ∷ []
place_of (Instance other trace class bytes) id is =
    let same : keys.Object other ≡ keys.Object id = cc in
    let e : other ≡ id = cc in
    ap (λ (n : ℕ). 9 ∷ n ∷ []) e
place_of (ObjArray other trace class elements) id is =
    let same : keys.Object other ≡ keys.Object id = cc in
    let e : other ≡ id = cc in
    ap (λ (n : ℕ). 9 ∷ n ∷ []) e
place_of (PrimArray other trace elem bytes) id is =
    let same : keys.Object other ≡ keys.Object id = cc in
    let e : other ≡ id = cc in
    ap (λ (n : ℕ). 9 ∷ n ∷ []) e
place_of fact id is = absurd cc

-- an object of a lower identifier stands before
stands_before : (one other : FactValue) (id more : ℕ) → IsObject id one → IsObject more other → id < more → IsBefore one other
stands_before one other id more is is_too less =
    let a = place_of one id is in
    let b = place_of other more is_too in
    rw (a, b) (grind (arith, nat_cmp))

-- and one that stands before has a lower identifier
lower : (one other : FactValue) (id more : ℕ) → IsObject id one → IsObject more other → IsBefore one other → id < more
lower one other id more is is_too before = elim (cases_order id more) [
  | inl same ↦ absurd (IsBefore-key one other (keys.Object id) before is (is_too ∙ ap (λ (n : ℕ). Some (keys.Object n)) (sym same)))
  | inr (inl less) ↦ less
  | inr (inr above) ↦ absurd (IsBefore-asym one other before (stands_before other one more id is_too is above))
]

-- these are objects, whose identifiers ascend from that on
abbrev pub IsAscending : ℕ → List FactValue → Type 0
IsAscending low [] = Unit {0}
IsAscending low (object ∷ objects) = (id : ℕ) × IsObject id object × (low ≤ id) × IsAscending (id + 1) objects

is_object : (fact : FactValue) → stands_in (number_of_table tables.Objects) fact ≡ true → (id : ℕ) × IsObject id fact
is_object (Instance id trace class bytes) e = (id, refl)
is_object (ObjArray id trace class elements) e = (id, refl)
is_object (PrimArray id trace elem bytes) e = (id, refl)
is_object fact e = absurd cc

ascend_from : (low : ℕ) (objects : List FactValue) → ((fact : FactValue) → Has objects fact → (id : ℕ) × IsObject id fact)
    → ((fact : FactValue) (id : ℕ) → Has objects fact → IsObject id fact → low ≤ id) → IsCanonicalOrder objects → IsAscending low objects
ascend_from low [] are above ordered = tt
ascend_from low (object ∷ objects) are above ordered =
    let is = are object (inl refl) in (
      is.0,
      is.1,
      above object is.0 (inl refl) is.1,
      ascend_from (is.0 + 1) objects (λ fact has. are fact (inr has))
          (λ fact id has of.
          let less = lower object fact is.0 id is.1 of (All-has (IsBefore object) objects fact ordered.0 has) in omega (arith, less))
          ordered.1,
    )

-- the objects among facts in order ascend
pub objects_ascend : (facts : List FactValue) → IsCanonicalOrder facts → IsAscending 0 (objects_among facts)
objects_ascend facts ordered =
    let test = stands_in (number_of_table tables.Objects) in
    ascend_from 0 (objects_among facts) (λ fact has. is_object fact (picked_is test facts fact has).passes) (λ fact id has of. omega arith)
    (passed_ordered test facts ordered)

-- ---- nodes

module _ (ids : IdSize) where
  pub nodes_given : (objects : List FactValue) (old new : NodeSink)
      → TakesObjects (λ one size object other. TakesNode one size object other)
      ids old objects new
      → (node : ℕ) → Contains new.nodes.items node ↔ (Contains old.nodes.items node ⊎ IsGiven GivesObject objects node)
  nodes_given [] old new same node = (
    λ has. inl (subst (λ (s : NodeSink). Contains s.nodes.items node) (sym same) has),
    λ either. elim either [
      | inl has ↦ subst (λ (s : NodeSink). Contains s.nodes.items node) same has
      | inr is ↦ absurd is.has
    ],
  )
  nodes_given (object ∷ objects) old new took node =
      let first = took.1 node in
      let rest = nodes_given objects took.0 new took.2 node in (
        λ has. elim (rest.0 has) [
          | inl there ↦ elim (first.0 there) [
            | inl was ↦ inl was
            | inr gives ↦ inr (record { fact = object; has = inl refl; gives = gives })
          ]
          | inr is ↦ inr (record { fact = is.fact; has = inr is.has; gives = is.gives })
        ],
        λ either. rest.1 (elim either [
          | inl was ↦ inl (first.1 (inl was))
          | inr is ↦ elim is.has [
            | inl same ↦ inl (first.1 (inr (subst (λ (f : FactValue). GivesObject f node) same is.gives)))
            | inr later ↦ inr (record { fact = is.fact; has = later; gives = is.gives })
          ]
        ]),
      )

  -- ---- edges

  pub stays_over : (objects : List FactValue) (old new : EdgeSink)
      → TakesObjects (λ one size object other. SeesNext size object one other) ids old objects new → StaysOver old new
  stays_over [] old new same = record {
    nodes = ap (λ (s : EdgeSink). nodes_of s) (sym same);
    fields = ap (λ (s : EdgeSink). fields_of s) (sym same);
  }
  stays_over (object ∷ objects) old new took =
      let rest = stays_over objects took.0 new took.2 in
      record { nodes = rest.nodes ∙ took.1.stays.nodes; fields = rest.fields ∙ took.1.stays.fields }

  pub all_seen : (facts before objects : List FactValue) (low : ℕ) (old new : EdgeSink)
      → TakesObjects (λ one size object other. SeesNext size object one other) ids old objects new → HasSeen ids facts before old
      → EndsBelow old low → IsAscending low objects → HasSeen ids facts (before ++ objects) new
  all_seen facts before [] low old new same seen below up =
      subst (HasSeen ids facts (before ++ [])) same (subst (λ (l : List FactValue). HasSeen ids facts l old) (sym (append-nil before)) seen)
  all_seen facts before (object ∷ objects) low old new took seen below up =
      let next = took.1.seen facts before up.0 seen up.1 (λ number early. omega (arith, below number early, up.2)) in
      subst (λ (l : List FactValue). HasSeen ids facts l new) (append_assoc before (object ∷ []) objects)
      (all_seen facts (before ++ object ∷ []) objects (up.0 + 1) took.0 new took.2 next.0 next.1 up.3)
