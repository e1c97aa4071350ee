-- The array to which the first field `value` of an object refers.
use Rattle.std.specs.Prelude.{◌⊎◌, IsTrue, codes}
use Rattle.std.proofs.Common.{◌≡◌, ◌<◌, ◌==◌, ◌||◌, ℕ, zero, suc, Bool, false, List, [], ◌∷◌, inl, inr, refl, sym, ap, subst, ◌∙◌, arith}
use Rattle.std.specs.List.Sorted.{IsStrictlyIncreasing}
use Rattle.std.proofs.lemmas.Bool.{eq-eqb}
use Rattle.std.proofs.Math.Bool.{or-true}
use Rattle.hprof_values.specs.declared.ids.IdSize.{IdSize}
use Rattle.hprof_items.specs.FactValue.{FactValue}
use Rattle.hprof_rows.proofs.Order.{order_agrees}
use Rattle.hprof_heap.specs.declared.heap.Heap.{Heap}
use Rattle.hprof_heap.specs.HeapFacts.{facts_of, size_of}
use Rattle.hprof_histogram.specs.Chosen.{is_among}
use Rattle.hprof_layouts.specs.Fields.{FieldsValue, Values, Missing, Cyclic, WidthDiffers, NotAnInstance, NoObject, AreFields}
use Rattle.hprof_layouts.proofs.FieldAnswers.{fields_once}
use Rattle.hprof_naming.specs.Texts.{target_of_field}
use Rattle.hprof_naming.proofs.FirstNamed.{first_once}
use Rattle.hprof_passes.specs.Passing.{IsWhole}
use Rattle.hprof_small.specs.Small.{IsSmallHeap}
use Rattle.hprof_reports.specs.TextObjects.{HasValueArray, IsHeapOfTwo, IsTextHeap, IsValueArray}
use Rattle.hprof_reports.proofs.ReportsOver.{alone}
use Rattle.hprof_reports.proofs.SmallFields.{fields_in_all}
use Rattle.hprof_reports.proofs.SmallTexts.{value_array_in_all}

-- ---- there is one

pub one_array : (facts : List FactValue) (fields : FieldsValue) (one other : ℕ) → IsValueArray facts fields one
    → IsValueArray facts fields other → one ≡ other
one_array facts (Values values) one other is too =
    is.2 ∙ ap target_of_field (first_once facts (codes "value") values is.0 too.0 is.1 too.1) ∙ sym too.2
one_array facts (Missing class) one other is too = is ∙ sym too
one_array facts Cyclic one other is too = is ∙ sym too
one_array facts (WidthDiffers width) one other is too = is ∙ sym too
one_array facts NotAnInstance one other is too = is ∙ sym too
one_array facts NoObject one other is too = is ∙ sym too

-- a heap has the fields of the object, and this is the array
pub record ReadsArray (heap : Heap) (id array : ℕ) : Type 0 where
  pub fields : FieldsValue
  pub are_fields : AreFields (size_of heap) (facts_of heap) id fields
  pub is_array : IsValueArray (facts_of heap) fields array

module _ (millis : ℕ) (ids : IdSize) (facts all : List FactValue) (whole : IsWhole ids facts all) (id : ℕ) (string : Heap)
    (is : IsSmallHeap millis ids (id ∷ []) all string) (array : ℕ) (reads : ReadsArray string id array) where
  -- the array that is read in the heap of the object is that of the whole
  has_array : (wanted : List ℕ) → (array ≡ 0) ⊎ IsTrue (is_among wanted array) → HasValueArray ids all id wanted
  has_array wanted there = λ fields other are of.
      let small = facts_of string in
      let shown = fields_in_all ids (id ∷ []) all small is.facts id (alone id) reads.fields
      (subst (λ (i : IdSize). AreFields i small id reads.fields) is.size reads.are_fields) in
      let value = value_array_in_all ids (id ∷ []) all small is.facts reads.fields array reads.is_array in
      let same : fields ≡ reads.fields = fields_once ids all id fields reads.fields (order_agrees all whole.ordered) are shown in
      let array_is : other ≡ array = one_array all reads.fields other array (subst (λ (f : FieldsValue). IsValueArray all f other) same of)
      value in
      subst (λ (n : ℕ). (n ≡ 0) ⊎ IsTrue (is_among wanted n)) (sym array_is) there

  -- ---- heaps that have all that the text needs

  pub object_is_enough : (array ≡ 0) ⊎ (array ≡ id) → IsTextHeap ids id all string
  object_is_enough there = record {
    size = is.size;
    wanted = id ∷ [];
    facts = is.facts;
    has_object = alone id;
    has_array = has_array (id ∷ []) (elim there [
      | inl none ↦ inl none
      | inr same ↦ inr (subst (λ (n : ℕ). IsTrue (is_among (id ∷ []) n)) (sym same) (alone id))
    ]);
  }

  pub two_are_enough : (small : Heap) → IsHeapOfTwo millis ids id array all small → IsTextHeap ids id all small
  two_are_enough small two = record {
    size = two.is_small.size;
    wanted = two.wanted;
    facts = two.is_small.facts;
    has_object = two.has_one;
    has_array = has_array two.wanted (inr two.has_other);
  }

-- ---- two identifiers

pub two_ascend : (one other : ℕ) → one < other → IsStrictlyIncreasing (one ∷ other ∷ [])
two_ascend one other lt zero within = lt
two_ascend one other lt (suc k) within = absurd (omega arith)

pub first_of_two : (one other : ℕ) → IsTrue (is_among (one ∷ other ∷ []) one)
first_of_two one other = ap (λ (b : Bool). b || ((other == one) || false)) (eq-eqb one one refl)

pub second_of_two : (one other : ℕ) → IsTrue (is_among (one ∷ other ∷ []) other)
second_of_two one other =
    ap (λ (b : Bool). (one == other) || (b || false)) (eq-eqb other other refl) ∙ or-true (one == other)
