-- Of facts that agree each edge is weak or not.
use Rattle.std.specs.Prelude.{slice_get}
use Rattle.std.proofs.Common.{◌≡◌, ◌⊎◌, ℕ, Bool, true, false, List, [], ◌∷◌, Option, Some, None, codes, refl, sym, ap, subst, ◌∙◌, inl, inr}
use Rattle.std.specs.Prelude.{bytes_eq}
use Rattle.std.proofs.lemmas.Bool.{both_ways}
use Rattle.std.proofs.lemmas.Slice.Eq.{bytes_eq-Decides}
use Rattle.hprof_values.specs.declared.ids.IdSize.{IdSize}
use Rattle.hprof_items.specs.FactValue.{FactValue, Instance}
use Rattle.hprof_rows.specs.Conflict.{IsConsistent}
use Rattle.hprof_heap.specs.ClassName.{NamesClass}
use Rattle.hprof_heap.specs.Classes.{ClassValue}
use Rattle.hprof_heap.specs.Names.{HasName}
use Rattle.hprof_heap.proofs.ClassFacts.{OneDumpEach, one_dump_each}
use Rattle.hprof_heap.proofs.NameFacts as names
use Rattle.hprof_layouts.specs.declared.field_value.FieldValue.{FieldValue}
use Rattle.hprof_layouts.specs.declared.slot.Slot.{Slot}
use Rattle.hprof_layouts.specs.Chain.{IsChain}
use Rattle.hprof_layouts.specs.Layout.{IsKnown}
use Rattle.hprof_layouts.proofs.Outlines.{one_known}
use Rattle.hprof_edges.specs.declared.edge.Edge.{Edge}
use Rattle.hprof_edges.specs.declared.edge.Via.{Via}
use Rattle.hprof_edges.specs.declared.edge.Via.TheVariants as vias
use Rattle.hprof_edges.specs.Edges.{FieldRefers, IsEdge, Refers}
use Rattle.hprof_naming.specs.Called.{IsCalled}
use Rattle.hprof_naming.proofs.FirstLoads.{class_name_exists, one_class_name}
use Rattle.hprof_reports.proofs.Places.{slot_of_value}
use Rattle.hprof_weak.specs.Weak.{IsCleared, IsClearing, IsReferent, IsWeak}
use Rattle.hprof_weak.proofs.ByField.{same_instance}
use Rattle.hprof_weak.proofs.Clearings.{cleared_above, cleared_by, cleared_itself, zero_not_cleared}

-- it holds, or it does not
abbrev pub Decided : Type 0 → Type 0
Decided P = P ⊎ (P → ⊥)

-- one of two holds
either_decided : {P Q : Type 0} → Decided P → Decided Q → Decided (P ⊎ Q)
either_decided (inl is) other = inl (inl is)
either_decided (inr none) (inl is) = inl (inr is)
either_decided (inr none) (inr none_too) = inr (λ is. elim is [ inl one ↦ none one | inr other ↦ none_too other ])

-- ---- by names

texts_decided : (one other : List ℕ) → Decided (one ≡ other)
texts_decided one other = by (bytes_eq one other) refl where
  by : (b : Bool) → bytes_eq one other ≡ b → Decided (one ≡ other)
  by true e = inl ((bytes_eq-Decides one other).0 e)
  by false e = inr (λ same. both_ways _ e ((bytes_eq-Decides one other).1 same))

via_decided : (via : Via) → Decided (via ≡ vias.Field)
via_decided vias.Field = inl refl
via_decided via = inr (λ same. cc)

module _ (facts : List FactValue) (agree : IsConsistent facts) where
  each : OneDumpEach facts
  each = one_dump_each facts agree

  name_decided : (name : ℕ) (word : List ℕ) → Decided (HasName facts name word)
  name_decided name word = elim (names.look_up facts name) [
    | names.Found bytes has ↦ elim (texts_decided bytes word) [
      | inl same ↦ inl (subst (HasName facts name) same has)
      | inr apart ↦ inr (λ other. apart (names.one_name facts name bytes word agree has other))
    ]
    | names.NotFound none ↦ inr (λ has. none word has)
  ]

  called_decided : (class : ℕ) (word : List ℕ) → Decided (IsCalled facts class word)
  called_decided class word = go (class_name_exists facts class).0 (class_name_exists facts class).1 where
    go : (found : Option ℕ) → NamesClass facts class found → Decided (IsCalled facts class word)
    go None is = inr (λ called.
        let same : Some called.name ≡ None = one_class_name facts class (Some called.name) None agree called.names is in absurd cc)
    go (Some name) is = elim (name_decided name word) [
      | inl has ↦ inl (record { name = name; names = is; has = has })
      | inr none ↦ inr (λ called.
          let same : Some called.name ≡ Some name = one_class_name facts class (Some called.name) (Some name) agree called.names is in
          let name_is : called.name ≡ name = cc in
          none (subst (λ (n : ℕ). HasName facts n word) name_is called.has))
    ]

  clearing_decided : (class : ℕ) → Decided (IsClearing facts class)
  clearing_decided class =
      either_decided (called_decided class (codes "java/lang/ref/SoftReference"))
      (either_decided (called_decided class (codes "java/lang/ref/WeakReference"))
      (called_decided class (codes "java/lang/ref/PhantomReference")))

  referent_decided : (slot : Slot) → Decided (IsReferent facts slot)
  referent_decided slot = elim (called_decided slot.class (codes "java/lang/ref/Reference")) [
    | inl declared ↦ elim (name_decided slot.name (codes "referent")) [
      | inl named ↦ inl (record { declared = declared; named = named })
      | inr none ↦ inr (λ is. none is.named)
    ]
    | inr none ↦ inr (λ is. none is.declared)
  ]

  -- ---- by the chain of superclasses

  cleared_decided : (dumps : List ClassValue) (class : ℕ) → IsChain facts class dumps 0 → Decided (IsCleared facts class)
  cleared_decided [] class end = inr (λ is. zero_not_cleared facts (subst (IsCleared facts) end is))
  cleared_decided (dump ∷ dumps) class chain =
      let not_zero : (dump.id ≡ 0 → ⊥) = λ zero. chain.0 (sym chain.1 ∙ zero) in
      elim (clearing_decided dump.id) [
        | inl clearing ↦ inl (subst (IsCleared facts) chain.1 (cleared_itself facts each dump chain.2 not_zero clearing))
        | inr none ↦ elim (cleared_decided dumps dump.parent chain.3) [
          | inl above ↦ inl (subst (IsCleared facts) chain.1 (cleared_above facts each dump chain.2 not_zero above))
          | inr none_above ↦ inr (λ is.
              elim (cleared_by facts each dump chain.2 not_zero (subst (IsCleared facts) (sym chain.1) is)) [
                | inl clearing ↦ none clearing
                | inr above ↦ none_above above
              ])
        ]
      ]

  -- ---- an edge

  module _ (ids : IdSize) (edge : Edge) (is : IsEdge ids facts edge) where
    by_field : edge.via ≡ vias.Field → FieldRefers ids facts edge.from edge.position edge.to → Decided (IsWeak facts edge)
    by_field via refers =
        let values = refers.reference.values_are in
        let there = subst (λ (l : List FieldValue). slice_get l edge.position ≡ Some refers.reference.value) values.values_are
        refers.reference.there in
        let slot = slot_of_value ids values.slots refers.bytes edge.position refers.reference.value there in
        elim (referent_decided slot.0) [
          | inl referent ↦ elim (cleared_decided values.known.dumps refers.class values.known.chain) [
            | inl cleared ↦ inl (record {
              via_is = via;
              class = refers.class;
              bytes = refers.bytes;
              instance = refers.instance;
              weak = record {
                slots = values.slots;
                known = values.known;
                slot = slot.0;
                there = slot.1;
                referent = referent;
                cleared = cleared;
              };
            })
            | inr none ↦ inr (λ weak. none (subst (IsCleared facts) (same_class weak) weak.weak.cleared))
          ]
          | inr none ↦ inr (λ weak.
              let known = subst (λ (c : ℕ). IsKnown facts c weak.weak.slots) (same_class weak) weak.weak.known in
              let slots = one_known facts each refers.class weak.weak.slots values.slots known values.known in
              let found : Some weak.weak.slot ≡ Some slot.0 =
              sym weak.weak.there ∙ ap (λ (l : List Slot). slice_get l edge.position) slots ∙ slot.1 in
              let same : weak.weak.slot ≡ slot.0 = cc in
              none (subst (IsReferent facts) same weak.weak.referent))
        ] where
          same_class : (weak : IsWeak facts edge) → weak.class ≡ refers.class
          same_class weak =
              let same : Instance edge.from weak.instance.trace weak.class weak.bytes
              ≡ Instance edge.from refers.instance.trace refers.class refers.bytes =
              same_instance facts agree edge.from weak.class refers.class weak.bytes refers.bytes weak.instance refers.instance in
              cc

    pub weak_decided : Decided (IsWeak facts edge)
    weak_decided = elim (via_decided edge.via) [
      | inl via ↦ by_field via (subst (λ (v : Via). Refers ids facts edge.from v edge.position edge.to) via is.1)
      | inr other ↦ inr (λ weak. other weak.via_is)
    ]
