-- Places that have the labels and the sizes of their nodes, object by object.
use Rattle.std.specs.Prelude.{replicate, vec_len}
use Rattle.std.proofs.Common.{◌≡◌, ◌<◌, ◌∙◌, ℕ, List, [], ◌∷◌, ◌++◌, Option, Some, None, length, sym, ap, subst, arith}
use Rattle.std.proofs.Common.{append_assoc, slice_index, slice_set}
use Rattle.std.proofs.lemmas.List.{append-nil, get_or-replicate, get_or-set_other, get_or-set_same}
use Rattle.hprof_values.specs.declared.ids.IdSize.{IdSize}
use Rattle.hprof_items.specs.FactValue.{FactValue, Instance, ObjArray, PrimArray}
use Rattle.hprof_rows.specs.Conflict.{IsConsistent}
use Rattle.hprof_heap.specs.HeapFacts.{facts_of}
use Rattle.hprof_heap.specs.Found.{IsObjectFound}
use Rattle.hprof_heap.specs.Objects.{IsObject}
use Rattle.hprof_heap.specs.declared.heap.Heap.{Heap}
use Rattle.hprof_histogram.specs.Histogram.{size_of_object}
use Rattle.hprof_dominators.specs.Tree as tree
use Rattle.hprof_meaning.specs.BareLabels.{IsBareLabel}
use Rattle.hprof_meaning.proofs.LabelTexts.{labels_exist, one_bare_label}
use Rattle.hprof_meaning.proofs.WholeLabels.{bare_labels_same}
use Rattle.hprof_naming.specs.ClassNames.{AreClassNames}
use Rattle.hprof_numbers.specs.Numbered.{nodes_in}
use Rattle.hprof_passes.specs.Passing.{IsWhole, TakesObjects, objects_among}
use Rattle.hprof_retained.specs.Retained.{size_of_found}
use Rattle.hprof_retained.specs.Tree.{count_of, node_at}
use Rattle.hprof_retained.specs.declared.retained.Retained.{Retained}
use Rattle.hprof_retained.proofs.SizedNodes.{all_now, all_still, found_of_all, node_of, place_in, places_apart, size_put}
use Rattle.hprof_by_label.specs.Labels.{AreNodeLabels, HaveSizes, label_at, label_count, label_text}
use Rattle.hprof_by_label.specs.Labelling.{AreLabelled, IsNumberOfFound, IsSoFar, TakesLabel}
use Rattle.hprof_by_label.specs.NodeLabel.{IsFoundLabel, IsNodeLabel, IsObjectLabel}
use Rattle.hprof_by_label.specs.Texts.{IsTextIn, StaysIn}
use Rattle.hprof_by_label.specs.declared.label_sink.LabelSink.{LabelSink}
use Rattle.hprof_by_label.specs.declared.labelling.Labelling.{Labelling}
use Rattle.hprof_by_label.specs.declared.node_labels.NodeLabels.{NodeLabels}

module _ (retained : Retained) where
  -- the node with a number, and its place
  abbrev pub numbered_node : ℕ → ℕ
  numbered_node number = slice_index (nodes_in retained.nodes) number

  abbrev pub numbered_place : ℕ → ℕ
  numbered_place number = tree.place_of retained.tree number

  -- no two numbers have one place
  pub one_number : (one other : ℕ) → 0 < numbered_place one → numbered_place one ≡ numbered_place other → one ≡ other
  one_number one other some same =
      let at = retained.numbered.new one some in
      let at_too = retained.numbered.new other (omega arith) in
      sym at.1 ∙ ap (tree.number_at retained.tree) same ∙ at_too.1

  -- the node with a number stands at its place
  pub numbered_place_node : (number : ℕ) → 0 < numbered_place number → node_at retained (numbered_place number) ≡ numbered_node number
  numbered_place_node number some = ap (slice_index (nodes_in retained.nodes)) (retained.numbered.new number some).1

-- ---- an object more

-- the labels keep their numbers
pub number_stays : (facts : List FactValue) (old new : Labelling) (number : ℕ) (found : Option FactValue)
    → StaysIn old.texts.texts.items new.texts.texts.items → IsNumberOfFound facts old number found → IsNumberOfFound facts new number found
number_stays facts old new number found stays (text, label, at) = (text, label, stays number text at)

module _ (ids : IdSize) (facts objects : List FactValue) (object : FactValue) (id : ℕ) (is : IsObject id object) (retained : Retained)
    (old : Labelling) (of_places sizes : List ℕ) (so : AreLabelled ids facts objects retained old of_places sizes) where
  -- the object is none of the nodes with a place
  pub labelled_still : ((number : ℕ) → number < length (nodes_in retained.nodes) → 0 < place_in retained number
      → id ≡ node_of retained number → ⊥) → AreLabelled ids facts (objects ++ object ∷ []) retained old of_places sizes
  labelled_still apart = record {
    labels = all_still retained objects object id is
        (λ number found. IsNumberOfFound facts old (slice_index of_places (place_in retained number)) found) so.labels apart;
    sizes = all_still retained objects object id is
        (λ number found. slice_index sizes (place_in retained number) ≡ size_of_found ids found) so.sizes apart;
  }

  -- or it is that node
  pub labelled_now : (at : ℕ) → at < length (nodes_in retained.nodes) → node_of retained at ≡ id → 0 < place_in retained at
      → place_in retained at < length of_places → place_in retained at < length sizes → (new : Labelling) (label size : ℕ)
      → StaysIn old.texts.texts.items new.texts.texts.items → IsNumberOfFound facts new label (Some object)
      → size ≡ size_of_object ids object
      → AreLabelled ids facts (objects ++ object ∷ []) retained new (slice_set of_places (place_in retained at) label)
      (slice_set sizes (place_in retained at) size)
  labelled_now at low at_is placed within within_sizes new label size stays here size_is = record {
    labels = all_now retained objects object id is
        (λ number found. IsNumberOfFound facts old (slice_index of_places (place_in retained number)) found) so.labels at low at_is
        (λ number found. IsNumberOfFound facts new
        (slice_index (slice_set of_places (place_in retained at) label) (place_in retained number)) found)
        (subst (λ n. IsNumberOfFound facts new n (Some object))
        (sym (get_or-set_same of_places (place_in retained at) label 0 within)) here)
        (λ number placed_too other found was.
        subst (λ n. IsNumberOfFound facts new n found)
        (sym (get_or-set_other of_places (place_in retained at) (place_in retained number) label 0
        (places_apart retained number at placed_too placed other)))
        (number_stays facts old new (slice_index of_places (place_in retained number)) found stays was));
    sizes = size_put retained ids objects object id is sizes so.sizes at low at_is placed within_sizes size size_is;
  }

-- no object has come: each node is a class dump, without a size
pub labelled_none : (ids : IdSize) (facts : List FactValue) (retained : Retained) (labelling : Labelling) (of_places sizes : List ℕ)
    (first : ℕ) → of_places ≡ replicate (count_of retained) first → sizes ≡ replicate (count_of retained) 0
    → IsNumberOfFound facts labelling first None → AreLabelled ids facts [] retained labelling of_places sizes
labelled_none ids facts retained labelling of_places sizes first labels_are sizes_are is = record {
  labels = λ number low placed. (
    None,
    λ fact has of. absurd has,
    subst (λ n. IsNumberOfFound facts labelling n None) (sym (value_at of_places first labels_are number placed)) is,
  );
  sizes = λ number low placed. (None, λ fact has of. absurd has, value_at sizes 0 sizes_are number placed);
} where
  value_at : (l : List ℕ) (value : ℕ) → l ≡ replicate (count_of retained) value → (number : ℕ) → 0 < place_in retained number
      → slice_index l (place_in retained number) ≡ value
  value_at l value are number placed = ap (λ (k : List ℕ). slice_index k (place_in retained number)) are
      ∙ get_or-replicate (count_of retained) (place_in retained number) value 0 (retained.numbered.new number placed).0

-- ---- all objects

module _ (ids : IdSize) where
  -- the heap, the names and the tree stay
  pub record StaysSink (old new : LabelSink) : Type 0 where
    pub heap : new.heap.now ≡ old.heap.now
    pub names : new.names.now ≡ old.names.now
    pub retained : new.retained.now ≡ old.retained.now

  pub all_taken : (before objects : List FactValue) (old new : LabelSink)
      → TakesObjects (λ one size object other. TakesLabel size object one other) ids old objects new
      → AreClassNames (facts_of old.heap.now) old.names.now → IsSoFar ids before old
      → StaysSink old new × IsSoFar ids (before ++ objects) new
  all_taken before [] old new same named so = (
    record {
      heap = ap (λ (s : LabelSink). s.heap.now) (sym same);
      names = ap (λ (s : LabelSink). s.names.now) (sym same);
      retained = ap (λ (s : LabelSink). s.retained.now) (sym same);
    },
    subst (λ (s : LabelSink). IsSoFar ids (before ++ []) s) same
        (subst (λ (l : List FactValue). IsSoFar ids l old) (sym (append-nil before)) so),
  )
  all_taken before (object ∷ objects) old new took named so =
      let mid = took.0 in
      let first = took.1 in
      let named_still : AreClassNames (facts_of mid.heap.now) mid.names.now = subst (AreClassNames (facts_of mid.heap.now))
      (sym first.names) (subst (λ (h : Heap). AreClassNames (facts_of h) old.names.now) (sym first.heap) named) in
      let rest = all_taken (before ++ object ∷ []) objects mid new took.2 named_still (first.so_far named before so) in (
        record {
          heap = rest.0.heap ∙ first.heap;
          names = rest.0.names ∙ first.names;
          retained = rest.0.retained ∙ first.retained;
        },
        subst (λ (l : List FactValue). IsSoFar ids l new) (append_assoc before (object ∷ []) objects) rest.1,
      )

-- ---- the facts that the objects make up with those of a heap

module _ (ids : IdSize) (facts all : List FactValue) (whole : IsWhole ids facts all) (agree : IsConsistent facts) where
  bare_label_whole : (class : ℕ) (text : List ℕ) → IsBareLabel facts class text → IsBareLabel all class text
  bare_label_whole class text is =
      let label = labels_exist all in
      let there = bare_labels_same ids facts all whole label.0 label.1 class in
      subst (IsBareLabel all class) (one_bare_label facts agree class (label.0 class) text there is) (label.1 class)

  object_label_whole : (object : FactValue) (text : List ℕ) → IsObjectLabel facts object text → IsObjectLabel all object text
  object_label_whole (PrimArray id trace elem bytes) text is = is
  object_label_whole (Instance id trace class bytes) text is = bare_label_whole class text is
  object_label_whole (ObjArray id trace class elements) text is = bare_label_whole class text is
  object_label_whole other text is = absurd is

  found_label_whole : (found : Option FactValue) (text : List ℕ) → IsFoundLabel facts found text → IsFoundLabel all found text
  found_label_whole (Some object) text is = object_label_whole object text is
  found_label_whole None text is = is

  module _ (retained : Retained) (labelling : Labelling) (labels : NodeLabels) (texts : labels.texts ≡ labelling.texts.texts)
      (so : AreLabelled ids facts (objects_among all) retained labelling labels.of_places.items labels.sizes.items)
      (as_many : vec_len labels.of_places ≡ count_of retained) where
    pub all_labelled : AreNodeLabels all retained labels
    all_labelled = record {
      as_many = as_many;
      apart = labels.apart;
      within = λ place some below. (at place some below).0;
      right = λ place some below. (at place some below).1;
    } where
      at : (place : ℕ) → 0 < place → place < count_of retained → (label_at labels place < label_count labels)
          × IsNodeLabel all (node_at retained place) (label_text labels (label_at labels place))
      at place some below =
          let old = retained.numbered.old place some below in
          let number = tree.number_at retained.tree place in
          let here : place_in retained number ≡ place = old.1 in
          let placed : 0 < place_in retained number = omega (arith, here, some) in
          let found = so.labels number old.0 placed in
          let text = found.2.0 in
          let in_labelling = subst (λ p. IsTextIn labelling.texts.texts.items (slice_index labels.of_places.items p) text) here found.2.2 in
          let in_labels = subst (λ t. IsTextIn t.items (label_at labels place) text) (sym texts) in_labelling in
          let whole_found = found_of_all all (node_at retained place) (λ f. IsFoundLabel all f text)
          (found.0, found.1, found_label_whole found.0 text found.2.1) in (
            in_labels.0,
            subst (IsNodeLabel all (node_at retained place)) (sym in_labels.1) whole_found,
          )

    pub all_sized : HaveSizes ids all retained labels
    all_sized place some below =
        let old = retained.numbered.old place some below in
        let number = tree.number_at retained.tree place in
        let here : place_in retained number ≡ place = old.1 in
        let found = so.sizes number old.0 (omega (arith, here, some)) in
        found_of_all all (node_at retained place) (λ f. slice_index labels.sizes.items place ≡ size_of_found ids f)
        (subst (λ p. (f : Option FactValue) × IsObjectFound (objects_among all) (node_at retained place) f
        × (slice_index labels.sizes.items p ≡ size_of_found ids f)) here found)
