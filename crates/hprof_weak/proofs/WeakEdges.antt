-- The edges by the fields of the table are the weak ones.
use Rattle.std.specs.Prelude.{◌↔◌, Contains}
use Rattle.std.proofs.Common.{◌≡◌, List, sym, ap, subst}
use Rattle.hprof_values.specs.declared.ids.IdSize.{IdSize}
use Rattle.hprof_items.specs.FactValue.{FactValue}
use Rattle.hprof_rows.specs.Conflict.{IsConsistent}
use Rattle.hprof_edges.specs.declared.edge.Via.{Via}
use Rattle.hprof_edges.specs.declared.edge.Edge.{Edge}
use Rattle.hprof_edges.specs.declared.field_place.FieldPlace.{FieldPlace}
use Rattle.hprof_edges.specs.Edges.{FieldRefers, IsEdge, Refers}
use Rattle.hprof_edges.specs.LeftOut.{IsLeftOut}
use Rattle.hprof_weak.specs.Rows.{AreWeakRows}
use Rattle.hprof_weak.specs.Weak.{IsWeak}
use Rattle.hprof_weak.proofs.ByField.{same_instance}
use Rattle.hprof_weak.proofs.WeakPuts.{class_in}

module _ (ids : IdSize) (facts : List FactValue) (agree : IsConsistent facts) where
  module _ (rows fields : List FieldPlace) (are : AreWeakRows ids facts rows)
      (same : (field : FieldPlace) → Contains fields field ↔ Contains rows field) (edge : Edge) (is : IsEdge ids facts edge) where
    left_out_is_weak : IsLeftOut fields facts edge → IsWeak facts edge
    left_out_is_weak out = record {
      via_is = out.via_is;
      class = out.class;
      bytes = out.bytes;
      instance = out.instance;
      weak = are.only (record { class = out.class; place = edge.position })
          ((same (record { class = out.class; place = edge.position })).0 out.there);
    }

    weak_is_left_out : IsWeak facts edge → IsLeftOut fields facts edge
    weak_is_left_out weak =
        let refers : FieldRefers ids facts edge.from edge.position edge.to =
        subst (λ (v : Via). Refers ids facts edge.from v edge.position edge.to) weak.via_is is.1 in
        let one = same_instance facts agree edge.from refers.class weak.class refers.bytes weak.bytes refers.instance weak.instance in
        let class_is : refers.class ≡ weak.class = ap class_in one in
        let values = refers.reference.values_are in
        record {
          via_is = weak.via_is;
          class = weak.class;
          bytes = weak.bytes;
          instance = weak.instance;
          there = (same (record { class = weak.class; place = edge.position })).1
              (are.all edge.from refers.class refers.bytes values.slots refers.instance values.known values.fills
              (record { class = weak.class; place = edge.position }) (sym class_is) weak.weak);
        }

    pub weak_exactly : IsLeftOut fields facts edge ↔ IsWeak facts edge
    weak_exactly = (left_out_is_weak, weak_is_left_out)
