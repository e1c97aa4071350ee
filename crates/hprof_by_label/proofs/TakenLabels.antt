-- What a sink does to the labels of places that takes an object.
use Rattle.std.specs.Prelude.{slice_set, vec_len}
use Rattle.std.proofs.Common.{◌≡◌, ◌<◌, ◌∙◌, ℕ, List, [], ◌∷◌, ◌++◌, Global, Some, None, String, Vec, length, refl, sym, ap, subst}
use Rattle.std.proofs.Common.{subst₂, arith, slice_index}
use Rattle.std.specs.BTreeMap.{get_by_text}
use Rattle.std.specs.List.{All}
use Rattle.std.proofs.lemmas.List.Elements.{All-set, All-weaker}
use Rattle.hprof_values.specs.declared.ids.IdSize.{IdSize}
use Rattle.hprof_items.specs.FactValue.{FactValue}
use Rattle.hprof_rows.specs.Conflict.{IsConsistent}
use Rattle.hprof_heap.specs.HeapFacts.{facts_of}
use Rattle.hprof_heap.specs.Objects.{IsObject}
use Rattle.hprof_heap.specs.declared.heap.Heap.{Heap}
use Rattle.hprof_naming.specs.ClassNames.{AreClassNames}
use Rattle.hprof_naming.specs.declared.class_names.ClassNames.{ClassNames}
use Rattle.hprof_numbers.specs.Numbered.{nodes_in}
use Rattle.hprof_numbers.specs.Places.{number_in}
use Rattle.hprof_numbers.proofs.Ascending.{one_place}
use Rattle.hprof_numbers.proofs.Placed.{nowhere, stands}
use Rattle.hprof_passes.specs.Passing.{IsWhole, TakesObjects, objects_among}
use Rattle.hprof_retained.specs.Retained.{size_of_found}
use Rattle.hprof_retained.specs.Tree.{count_of}
use Rattle.hprof_retained.specs.declared.retained.Retained.{Retained}
use Rattle.hprof_retained.proofs.SizedNodes.{found_still, node_of, place_in}
use Rattle.hprof_by_label.specs.Labelling.{AreLabelled, IsNumberOfFound, IsSoFar, TakesLabel}
use Rattle.hprof_by_label.specs.Labels.{AreNodeLabels, HaveSizes}
use Rattle.hprof_by_label.specs.Texts.{AreApart, AreNumbered, StaysIn, text_in}
use Rattle.hprof_by_label.specs.declared.label_sink.LabelSink.{LabelSink}
use Rattle.hprof_by_label.specs.declared.node_labels.NodeLabels.{NodeLabels}
use Rattle.hprof_by_label.specs.declared.texts.Texts.{Texts}
use Rattle.hprof_by_label.proofs.Labelled.{all_labelled, all_sized, all_taken, labelled_still}

-- ---- numbers of labels

-- no two numbers have one label
pub texts_apart : (texts : Texts) → AreNumbered texts → AreApart texts.texts.items
texts_apart texts are = λ one other low other_low same.
    let clash : Some one ≡ Some other = sym (are.found one low) ∙ ap (get_by_text texts.numbers) same ∙ are.found other other_low in cc

-- a number that can be used can still be used
pub number_below : {A : Type 0} (old new : List (String A)) → StaysIn old new → (number : ℕ) → number < length old → number < length new
number_below old new stays number low = (stays number (text_in old number) (low, refl)).0

-- all numbers at places can still be used, with a new one
pub numbers_below : {A : Type 0} (old new : List (String A)) → StaysIn old new → (places : List ℕ) (place label : ℕ) → label < length new
    → All (λ number. number < length old) places → All (λ number. number < length new) (slice_set places place label)
numbers_below old new stays places place label low all =
    All-set (λ number. number < length new) places place label low
    (All-weaker (λ number. number < length old) (λ number. number < length new) (number_below old new stays) places all)

-- ---- an object that gives no label

module _ (ids : IdSize) (object : FactValue) (sink : LabelSink) where
  abbrev retained : Retained
  retained = sink.retained.now

  abbrev AreAfter : List FactValue → Type 0
  AreAfter objects =
      AreLabelled ids (facts_of sink.heap.now) objects retained sink.labelling sink.of_places.items sink.sizes.items

  stays : ((objects : List FactValue) → AreAfter objects → AreAfter (objects ++ object ∷ [])) → TakesLabel ids object sink sink
  stays still = record {
    heap = refl;
    names = refl;
    retained = refl;
    so_far = λ named objects so. record { labelling = so.labelling; labelled = still objects so.labelled };
  }

  -- it is no object at all
  pub takes_none : ((id : ℕ) → IsObject id object → ⊥) → TakesLabel ids object sink sink
  takes_none none = stays (λ objects so. record {
    labels = λ number low placed. found_still objects object (node_of retained number)
        (IsNumberOfFound (facts_of sink.heap.now) sink.labelling (slice_index sink.of_places.items (place_in retained number)))
        (none (node_of retained number)) (so.labels number low placed);
    sizes = λ number low placed. found_still objects object (node_of retained number)
        (λ found. slice_index sink.sizes.items (place_in retained number) ≡ size_of_found ids found)
        (none (node_of retained number)) (so.sizes number low placed);
  })

  module _ (id : ℕ) (is : IsObject id object) where
    takes_other : ((number : ℕ) → number < length (nodes_in retained.nodes) → 0 < place_in retained number
        → id ≡ node_of retained number → ⊥) → TakesLabel ids object sink sink
    takes_other apart = stays (λ objects so.
        labelled_still ids (facts_of sink.heap.now) objects object id is retained sink.labelling sink.of_places.items sink.sizes.items so
        apart)

    -- it is that of no node
    pub takes_no_node : number_in (nodes_in retained.nodes) id ≡ None → TakesLabel ids object sink sink
    takes_no_node none = takes_other (λ number low placed same. nowhere (nodes_in retained.nodes) id none number low (sym same))

    -- or of a node without a place
    pub takes_no_place : (at : ℕ) → number_in (nodes_in retained.nodes) id ≡ Some at → place_in retained at ≡ 0
        → TakesLabel ids object sink sink
    takes_no_place at found none = takes_other (λ number low placed same.
        let there = stands (nodes_in retained.nodes) id at found in
        let e = one_place (nodes_in retained.nodes) retained.nodes.ascend number at low there.0 (sym same ∙ sym there.1) in
        let same_place = ap (place_in retained) e in
        absurd (omega arith))

-- ---- all objects

module _ (ids : IdSize) (heap : Heap) (names : ClassNames) (retained : Retained) (agree : IsConsistent (facts_of heap))
    (named : AreClassNames (facts_of heap) names) (all : List FactValue) (whole : IsWhole ids (facts_of heap) all) where
  -- the labels of a sink that has taken all objects are those of the nodes
  pub labels_of_all : (old new : LabelSink) → old.heap.now ≡ heap → old.names.now ≡ names → old.retained.now ≡ retained
      → IsSoFar ids [] old → TakesObjects (λ one size object other. TakesLabel size object one other) ids old (objects_among all) new
      → (labels : NodeLabels) → labels.texts ≡ new.labelling.texts.texts → labels.of_places ≡ new.of_places
      → labels.sizes ≡ new.sizes → vec_len labels.of_places ≡ count_of retained
      → AreNodeLabels all retained labels × HaveSizes ids all retained labels
  labels_of_all old new heap_is names_is retained_is begun took labels texts of_places sizes as_many =
      let old_named : AreClassNames (facts_of old.heap.now) old.names.now = subst (AreClassNames (facts_of old.heap.now)) (sym names_is)
      (subst (λ (h : Heap). AreClassNames (facts_of h) names) (sym heap_is) named) in
      let taken = all_taken ids [] (objects_among all) old new took old_named begun in
      let of_heap = subst (λ (h : Heap). AreLabelled ids (facts_of h) (objects_among all) new.retained.now new.labelling
      new.of_places.items new.sizes.items) (taken.0.heap ∙ heap_is) taken.1.labelled in
      let of_tree = subst (λ (r : Retained). AreLabelled ids (facts_of heap) (objects_among all) r new.labelling new.of_places.items
      new.sizes.items) (taken.0.retained ∙ retained_is) of_heap in
      let so = subst₂ (λ (p : Vec ℕ Global) (s : Vec ℕ Global). AreLabelled ids (facts_of heap) (objects_among all) retained new.labelling
      p.items s.items) (sym of_places) (sym sizes) of_tree in (
        all_labelled ids (facts_of heap) all whole agree retained new.labelling labels texts so as_many,
        all_sized ids (facts_of heap) all whole agree retained new.labelling labels texts so as_many,
      )
