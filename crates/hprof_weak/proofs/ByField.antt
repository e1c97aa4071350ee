-- Edges by a field: whether they are weak is a matter of the field.
use Rattle.std.specs.Prelude.{◌↔◌}
use Rattle.std.proofs.Common.{◌≡◌, ℕ, List, refl, sym, ap, subst}
use Rattle.hprof_items.specs.FactValue.{FactValue, Instance}
use Rattle.hprof_rows.specs.declared.key.Key.TheVariants as keys
use Rattle.hprof_rows.specs.Conflict.{IsConsistent}
use Rattle.hprof_heap.specs.Objects.{HasInstance}
use Rattle.hprof_edges.specs.declared.edge.Edge.{Edge}
use Rattle.hprof_edges.specs.declared.field_place.FieldPlace.{FieldPlace}
use Rattle.hprof_weak.specs.ByField.{IsByField}
use Rattle.hprof_weak.specs.Weak.{IsWeak, IsWeakField}
use Rattle.hprof_weak.proofs.WeakPuts.{class_in}

module _ (facts : List FactValue) (agree : IsConsistent facts) where
  -- an object is an instance of one class, with one list of bytes
  pub same_instance : (object class other : ℕ) (bytes others : List ℕ) → (one : HasInstance facts object class bytes)
      → (two : HasInstance facts object other others) → Instance object one.trace class bytes ≡ Instance object two.trace other others
  same_instance object class other bytes others one two =
      agree (keys.Object object) (Instance object one.trace class bytes) (Instance object two.trace other others) one.has two.has refl refl

  pub weak_by_field : (field : FieldPlace) (edge : Edge) → IsByField facts field edge → IsWeak facts edge ↔ IsWeakField facts field
  weak_by_field field edge by = (
    λ weak.
        let one = same_instance edge.from weak.class field.class weak.bytes by.bytes weak.instance by.instance in
        subst (λ (n : ℕ). IsWeakField facts (record { class = n; place = field.place })) (ap class_in one)
        (subst (λ (n : ℕ). IsWeakField facts (record { class = weak.class; place = n })) by.place_is weak.weak),
    λ weak. record {
      via_is = by.via_is;
      class = field.class;
      bytes = by.bytes;
      instance = by.instance;
      weak = subst (λ (n : ℕ). IsWeakField facts (record { class = field.class; place = n })) (sym by.place_is) weak;
    },
  )

  pub weak_together : (field : FieldPlace) (edge other : Edge) → IsByField facts field edge → IsByField facts field other
      → IsWeak facts edge ↔ IsWeak facts other
  weak_together field edge other by too = (
    λ weak. (weak_by_field field other too).1 ((weak_by_field field edge by).0 weak),
    λ weak. (weak_by_field field edge by).1 ((weak_by_field field other too).0 weak),
  )
