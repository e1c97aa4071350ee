-- Of facts that agree each edge is weak or strong.
use Rattle.std.specs.Prelude.{bytes_eq, slice_get}
use Rattle.std.proofs.Common.{◌≡◌, ℕ, Bool, true, false, List, [], ◌∷◌, Option, Some, None, codes, refl, sym, ap, subst, ◌∙◌, inl, inr}
use Rattle.std.proofs.lemmas.Bool.{both_ways}
use Rattle.std.proofs.lemmas.Slice.Eq.{bytes_eq-Decides}
use Rattle.hprof_items.specs.FactValue.{FactValue, Name, Load, Unload, Frame, Trace, Start, End, Rooted, Class, Instance}
use Rattle.hprof_items.specs.FactValue.{ObjArray, PrimArray}
use Rattle.hprof_rows.specs.Conflict.{IsConsistent}
use Rattle.hprof_rows.specs.Facts.{Has}
use Rattle.hprof_rows.specs.declared.key.Key.TheVariants as keys
use Rattle.hprof_heap.specs.ClassName.{NamesClass}
use Rattle.hprof_heap.specs.Classes.{ClassValue}
use Rattle.hprof_heap.specs.Names.{HasName}
use Rattle.hprof_heap.specs.Objects.{IsObject}
use Rattle.hprof_heap.proofs.ClassFacts.{OneDumpEach, one_dump_each}
use Rattle.hprof_heap.proofs.NameFacts as names
use Rattle.hprof_heap.proofs.ObjectFacts as objects
use Rattle.hprof_layouts.specs.declared.slot.Slot.{Slot}
use Rattle.hprof_layouts.specs.Chain.{IsChain}
use Rattle.hprof_layouts.specs.Layout.{Cyclic, IsKnown, IsLayout, Known, LayoutValue, Missing}
use Rattle.hprof_layouts.proofs.FieldAnswers.{dump_of_instance}
use Rattle.hprof_layouts.proofs.Layouts.{at_least_one, at_most_one}
use Rattle.hprof_edges.specs.declared.edge.Edge.{Edge}
use Rattle.hprof_edges.specs.declared.edge.Via.{Via}
use Rattle.hprof_edges.specs.declared.edge.Via.TheVariants as vias
use Rattle.hprof_edges.specs.declared.field_place.FieldPlace.{FieldPlace}
use Rattle.hprof_naming.specs.Called.{IsCalled}
use Rattle.hprof_naming.proofs.FirstLoads.{class_name_exists, one_class_name}
use Rattle.hprof_weak.specs.Weak.{IsCleared, IsClearing, IsReferent, IsStrong, IsWeak, IsWeakField}
use Rattle.hprof_weak.proofs.Clearings.{cleared_above, cleared_by, cleared_itself, zero_not_cleared}
use Rattle.hprof_weak.proofs.WeakPuts.{class_in}
use Rattle.hprof_retained.proofs.Deciding.{Decided, both_decided, either_decided, not_decided}

-- ---- by names

texts_decided : (one other : List ℕ) → Decided (one ≡ other)
texts_decided one other = by (bytes_eq one other) refl where
  by : (b : Bool) → bytes_eq one other ≡ b → Decided (one ≡ other)
  by true e = inl ((bytes_eq-Decides one other).0 e)
  by false e = inr (λ same. both_ways _ e ((bytes_eq-Decides one other).1 same))

via_decided : (via : Via) → Decided (via ≡ vias.Field)
via_decided vias.Field = inl refl
via_decided via = inr (λ same. cc)

module _ (facts : List FactValue) (agree : IsConsistent facts) where
  each : OneDumpEach facts
  each = one_dump_each facts agree

  name_decided : (name : ℕ) (word : List ℕ) → Decided (HasName facts name word)
  name_decided name word = elim (names.look_up facts name) [
    | names.Found bytes has ↦ elim (texts_decided bytes word) [
      | inl same ↦ inl (subst (HasName facts name) same has)
      | inr apart ↦ inr (λ other. apart (names.one_name facts name bytes word agree has other))
    ]
    | names.NotFound none ↦ inr (λ has. none word has)
  ]

  called_decided : (class : ℕ) (word : List ℕ) → Decided (IsCalled facts class word)
  called_decided class word = go (class_name_exists facts class).0 (class_name_exists facts class).1 where
    go : (found : Option ℕ) → NamesClass facts class found → Decided (IsCalled facts class word)
    go None is = inr (λ called.
        let same : Some called.name ≡ None = one_class_name facts class (Some called.name) None agree called.names is in absurd cc)
    go (Some name) is = elim (name_decided name word) [
      | inl has ↦ inl (record { name = name; names = is; has = has })
      | inr none ↦ inr (λ called.
          let same : Some called.name ≡ Some name = one_class_name facts class (Some called.name) (Some name) agree called.names is in
          let name_is : called.name ≡ name = cc in
          none (subst (λ (n : ℕ). HasName facts n word) name_is called.has))
    ]

  clearing_decided : (class : ℕ) → Decided (IsClearing facts class)
  clearing_decided class =
      either_decided (called_decided class (codes "java/lang/ref/SoftReference"))
      (either_decided (called_decided class (codes "java/lang/ref/WeakReference"))
      (called_decided class (codes "java/lang/ref/PhantomReference")))

  referent_decided : (slot : Slot) → Decided (IsReferent facts slot)
  referent_decided slot = elim (called_decided slot.class (codes "java/lang/ref/Reference")) [
    | inl declared ↦ elim (name_decided slot.name (codes "referent")) [
      | inl named ↦ inl (record { declared = declared; named = named })
      | inr none ↦ inr (λ is. none is.named)
    ]
    | inr none ↦ inr (λ is. none is.declared)
  ]

  -- ---- by the chain of superclasses

  cleared_decided : (dumps : List ClassValue) (class : ℕ) → IsChain facts class dumps 0 → Decided (IsCleared facts class)
  cleared_decided [] class end = inr (λ is. zero_not_cleared facts (subst (IsCleared facts) end is))
  cleared_decided (dump ∷ dumps) class chain =
      let not_zero : (dump.id ≡ 0 → ⊥) = λ zero. chain.0 (sym chain.1 ∙ zero) in
      elim (clearing_decided dump.id) [
        | inl clearing ↦ inl (subst (IsCleared facts) chain.1 (cleared_itself facts each dump chain.2 not_zero clearing))
        | inr none ↦ elim (cleared_decided dumps dump.parent chain.3) [
          | inl above ↦ inl (subst (IsCleared facts) chain.1 (cleared_above facts each dump chain.2 not_zero above))
          | inr none_above ↦ inr (λ is.
              elim (cleared_by facts each dump chain.2 not_zero (subst (IsCleared facts) (sym chain.1) is)) [
                | inl clearing ↦ none clearing
                | inr above ↦ none_above above
              ])
        ]
      ]

  -- ---- by the layout

  module _ (field : FieldPlace) where
    one_layout : (one other : LayoutValue) → IsLayout facts field.class one → IsLayout facts field.class other → one ≡ other
    one_layout one other = at_most_one facts field.class one other each

    module _ (slots : List Slot) (known : IsKnown facts field.class slots) where
      same_slots : (weak : IsWeakField facts field) → slots ≡ weak.slots
      same_slots weak = let same : Known slots ≡ Known weak.slots = one_layout (Known slots) (Known weak.slots) known weak.known in cc

      by_slot : (found : Option Slot) → slice_get slots field.place ≡ found → Decided (IsWeakField facts field)
      by_slot None none = inr (λ weak.
          let found = sym none ∙ ap (λ (l : List Slot). slice_get l field.place) (same_slots weak) ∙ weak.there in absurd cc)
      by_slot (Some slot) there = elim (both_decided (referent_decided slot) (cleared_decided known.dumps field.class known.chain)) [
        | inl both ↦ inl (record { slots = slots; known = known; slot = slot; there = there; referent = both.0; cleared = both.1 })
        | inr none ↦ inr (λ weak.
            let found = sym there ∙ ap (λ (l : List Slot). slice_get l field.place) (same_slots weak) ∙ weak.there in
            let same : weak.slot ≡ slot = cc in
            none (subst (IsReferent facts) same weak.referent, weak.cleared))
      ]

    field_decided : Decided (IsWeakField facts field)
    field_decided = go (at_least_one facts field.class).0 (at_least_one facts field.class).1 where
      go : (layout : LayoutValue) → IsLayout facts field.class layout → Decided (IsWeakField facts field)
      go (Known slots) is = by_slot slots is (slice_get slots field.place) refl
      go (Missing missing) is = inr (λ weak. let same = one_layout (Missing missing) (Known weak.slots) is weak.known in absurd cc)
      go Cyclic is = inr (λ weak. let same = one_layout Cyclic (Known weak.slots) is weak.known in absurd cc)

  -- ---- an edge

  module _ (edge : Edge) where
    -- the instance that a weak edge begins at is the only dump of its object
    same_dump : (fact : FactValue) → Has facts fact → IsObject edge.from fact → (weak : IsWeak facts edge)
        → fact ≡ Instance edge.from weak.instance.trace weak.class weak.bytes
    same_dump fact has is weak =
        agree (keys.Object edge.from) fact (Instance edge.from weak.instance.trace weak.class weak.bytes) has weak.instance.has is refl

    by_dump : edge.via ≡ vias.Field → (fact : FactValue) → Has facts fact → IsObject edge.from fact → Decided (IsWeak facts edge)
    by_dump via (Instance id trace class bytes) has is = elim (field_decided (record { class = class; place = edge.position })) [
      | inl weak ↦ inl (record {
        via_is = via;
        class = class;
        bytes = bytes;
        instance = dump_of_instance facts edge.from id trace class bytes has is;
        weak = weak;
      })
      | inr none ↦ inr (λ weak.
          let same = ap class_in (same_dump (Instance id trace class bytes) has is weak) in
          none (subst (λ (n : ℕ). IsWeakField facts (record { class = n; place = edge.position })) (sym same) weak.weak))
    ]
    by_dump via (ObjArray id trace class elements) has is =
        inr (λ weak. let same = same_dump (ObjArray id trace class elements) has is weak in absurd cc)
    by_dump via (PrimArray id trace elem bytes) has is =
        inr (λ weak. let same = same_dump (PrimArray id trace elem bytes) has is weak in absurd cc)
    by_dump via (Name id text) has is = absurd cc
    by_dump via (Load serial class trace name) has is = absurd cc
    by_dump via (Unload serial) has is = absurd cc
    by_dump via (Frame id method signature source class_serial line) has is = absurd cc
    by_dump via (Trace serial thread frames) has is = absurd cc
    by_dump via (Start thread other trace name group parent_group) has is = absurd cc
    by_dump via (End thread) has is = absurd cc
    by_dump via (Rooted root) has is = absurd cc
    by_dump via (Class id trace parent loader signers domain reserved1 reserved2 size constants statics fields) has is = absurd cc

    weak_or_not : Decided (IsWeak facts edge)
    weak_or_not = elim (via_decided edge.via) [
      | inr other ↦ inr (λ weak. other weak.via_is)
      | inl via ↦ elim (objects.look_up facts edge.from) [
        | objects.Found fact has is ↦ by_dump via fact has is
        | objects.NotFound none ↦ inr (λ weak.
            none (Instance edge.from weak.instance.trace weak.class weak.bytes) weak.instance.has refl)
      ]
    ]

    pub strong_or_not : Decided (IsStrong facts edge)
    strong_or_not = not_decided weak_or_not
