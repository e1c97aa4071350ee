-- The least edge is one, and the name of a place.
use Rattle.std.specs.Prelude.{◌≢◌}
use Rattle.std.proofs.Common.{◌≡◌, ℕ, List, Option, Some, None, refl, sym, ap, subst, ◌∙◌}
use Rattle.std.specs.List.{slice_get}
use Rattle.std.specs.Ordering.{is_eq, ordering_reverse}
use Rattle.std.specs.declared.cmp.Ordering.{Ordering}
use Rattle.std.specs.declared.cmp.Ordering.TheVariants.{Less, Equal, Greater}
use Rattle.hprof_values.specs.declared.entry.Entry.{Entry}
use Rattle.hprof_items.specs.FactValue.{FactValue, Instance}
use Rattle.hprof_rows.specs.declared.key.Key.TheVariants as keys
use Rattle.hprof_rows.specs.Conflict.{IsConsistent}
use Rattle.hprof_heap.specs.Classes.{ClassValue}
use Rattle.hprof_heap.proofs.ClassFacts.{one_dump_each}
use Rattle.hprof_layouts.specs.declared.slot.Slot.{Slot}
use Rattle.hprof_layouts.specs.Layout.{IsKnown, Known}
use Rattle.hprof_layouts.proofs.Layouts.{at_most_one}
use Rattle.hprof_edges.specs.declared.edge.Edge.{Edge}
use Rattle.hprof_edges.specs.declared.edge.Via.{Via}
use Rattle.hprof_edges.specs.declared.edge.Via.TheVariants as vias
use Rattle.hprof_edges.specs.contracts.edge.EdgeOrd.TheImpl as edge_ord
use Rattle.hprof_edges.specs.contracts.edge.EdgeOrd.TheImpl.Laws.{total-law, matches_eq-law}
use Rattle.hprof_edges.specs.LeastEdge.{IsLeastOf}
use Rattle.hprof_edges.proofs.EdgeEquality.{edge_same}
use Rattle.hprof_reports.specs.PlaceNames.{IsFieldNamed, IsPlaceName, IsStaticNamed}

-- ---- the least edge

edge_tied : (one other : Edge) → (edge_ord.ghosts).cmp one other ≡ Equal → one ≡ other
edge_tied one other e = edge_same one other (matches_eq-law one other ∙ ap is_eq e)

-- edges of which neither comes behind the other are one
neither_behind : (one other : Edge) → (edge_ord.ghosts).cmp one other ≢ Greater → (edge_ord.ghosts).cmp other one ≢ Greater → one ≡ other
neither_behind one other forth back = by_order ((edge_ord.ghosts).cmp one other) refl where
  by_order : (order : Ordering) → (edge_ord.ghosts).cmp one other ≡ order → one ≡ other
  by_order Less e = absurd (back (total-law.antisymm other one ∙ ap ordering_reverse e))
  by_order Equal e = edge_tied one other e
  by_order Greater e = absurd (forth e)

pub least_once : (P : Edge → Type 0) (one other : Option Edge) → IsLeastOf P one → IsLeastOf P other → one ≡ other
least_once P (Some one) (Some other) is too = ap Some (neither_behind one other (is.1 other too.0) (too.1 one is.0))
least_once P (Some one) None is none = absurd (none one is.0)
least_once P None (Some other) none is = absurd (none other is.0)
least_once P None None none none_too = refl

module _ (facts : List FactValue) (agree : IsConsistent facts) where
  -- ---- the name of a place

  static_once : (class place one other : ℕ) → IsStaticNamed facts class place one → IsStaticNamed facts class place other → one ≡ other
  static_once class place one other is too =
      let dump = one_dump_each facts agree is.dump too.dump is.has too.has (is.id ∙ sym too.id) in
      let found : Some is.entry ≡ Some too.entry = sym is.there ∙ ap (λ (d : ClassValue). slice_get d.statics place) dump ∙ too.there in
      let entry : is.entry ≡ too.entry = cc in
      is.name_is ∙ ap (λ (e : Entry). e.number) entry ∙ sym too.name_is

  pub field_once : (object place one other : ℕ) → IsFieldNamed facts object place one → IsFieldNamed facts object place other → one ≡ other
  field_once object place one other is too =
      let same : Instance object is.instance.trace is.class is.bytes ≡ Instance object too.instance.trace too.class too.bytes =
      agree (keys.Object object) _ _ is.instance.has too.instance.has refl refl in
      let classes : too.class ≡ is.class = cc in
      let layouts : Known is.slots ≡ Known too.slots = at_most_one facts is.class (Known is.slots) (Known too.slots)
      (one_dump_each facts agree) is.known (subst (λ (c : ℕ). IsKnown facts c too.slots) classes too.known) in
      let slots : is.slots ≡ too.slots = cc in
      let found : Some is.slot ≡ Some too.slot = sym is.there ∙ ap (λ (l : List Slot). slice_get l place) slots ∙ too.there in
      let slot : is.slot ≡ too.slot = cc in
      is.name_is ∙ ap (λ (s : Slot). s.name) slot ∙ sym too.name_is

  pub place_once : (from : ℕ) (via : Via) (place : ℕ) (one other : Option ℕ) → IsPlaceName facts from via place one
      → IsPlaceName facts from via place other → one ≡ other
  place_once from vias.Static place (Some one) (Some other) is too = ap Some (static_once from place one other is too)
  place_once from vias.Static place (Some one) None is too = absurd too
  place_once from vias.Static place None other is too = absurd is
  place_once from vias.Field place (Some one) (Some other) is too = ap Some (field_once from place one other is too)
  place_once from vias.Field place (Some one) None is too = absurd too
  place_once from vias.Field place None other is too = absurd is
  place_once from vias.Class place one other is too = is ∙ sym too
  place_once from vias.Parent place one other is too = is ∙ sym too
  place_once from vias.Loader place one other is too = is ∙ sym too
  place_once from vias.Signers place one other is too = is ∙ sym too
  place_once from vias.Domain place one other is too = is ∙ sym too
  place_once from vias.Constant place one other is too = is ∙ sym too
  place_once from vias.Element place one other is too = is ∙ sym too
