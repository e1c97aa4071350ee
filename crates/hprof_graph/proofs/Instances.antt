-- Instances, and the layouts of their classes, where facts agree.
use Rattle.std.proofs.Common.{◌≡◌, ℕ, List, [], refl, ap, subst, ◌⊎◌, inl, inr}
use Rattle.hprof_items.specs.FactValue.{FactValue, Instance}
use Rattle.hprof_rows.specs.declared.key.Key.TheVariants as keys
use Rattle.hprof_rows.specs.Conflict.{IsConsistent}
use Rattle.hprof_rows.specs.Facts.{Has}
use Rattle.hprof_heap.proofs.ClassFacts.{one_dump_each}
use Rattle.hprof_layouts.specs.declared.slot.Slot.{Slot}
use Rattle.hprof_layouts.specs.Layout.{IsKnown, LayoutValue, IsLayout, Known, Missing, Cyclic}
use Rattle.hprof_layouts.proofs.Layouts.{at_least_one, at_most_one}
use Rattle.hprof_layouts.proofs.MoreFacts.{known_stays}
use Rattle.hprof_layouts.specs.Known.{HasLayout}
use Rattle.hprof_graph.specs.Derived.{AddsFact, CanBeLaid, IsInstanceOf}

-- ---- one dump each

-- the class and the bytes in the dump of an instance
abbrev class_in : FactValue → ℕ
class_in (Instance id trace class bytes) = class
class_in fact = 0

abbrev bytes_in : FactValue → List ℕ
bytes_in (Instance id trace class bytes) = bytes
bytes_in fact = []

module _ (facts : List FactValue) (agree : IsConsistent facts) where
  -- an instance has one class, and one list of bytes
  pub one_instance : (instance trace class other_trace other : ℕ) (bytes more : List ℕ) → Has facts (Instance instance trace class bytes)
      → Has facts (Instance instance other_trace other more) → (class ≡ other) × (bytes ≡ more)
  one_instance instance trace class other_trace other bytes more has has_other =
      let same = agree (keys.Object instance) (Instance instance trace class bytes) (Instance instance other_trace other more) has has_other
      refl refl in
      (ap class_in same, ap bytes_in same)

  pub one_class : (instance class other : ℕ) → IsInstanceOf facts instance class → IsInstanceOf facts instance other → class ≡ other
  one_class instance class other is is_other =
      (one_instance instance is.1.trace class is_other.1.trace other is.0 is_other.0 is.1.has is_other.1.has).0

  -- a class has one known layout
  pub one_known : (class : ℕ) (slots others : List Slot) → IsKnown facts class slots → IsKnown facts class others → slots ≡ others
  one_known class slots others known known_too =
      let same : Known slots ≡ Known others =
      at_most_one facts class (Known slots) (Known others) (one_dump_each facts agree) known known_too in
      cc

  not_both_layouts : (class : ℕ) (slots : List Slot) (other : LayoutValue) → IsKnown facts class slots → IsLayout facts class other
      → Known slots ≡ other
  not_both_layouts class slots other known is = at_most_one facts class (Known slots) other (one_dump_each facts agree) known is

  -- a class has a known layout or none
  pub layout_or_not : (class : ℕ) → HasLayout facts class ⊎ (HasLayout facts class → ⊥)
  layout_or_not class = let one = at_least_one facts class in go one.0 one.1 where
    go : (layout : LayoutValue) → IsLayout facts class layout → HasLayout facts class ⊎ (HasLayout facts class → ⊥)
    go (Known slots) is = inl (slots, is)
    go (Missing missing) is =
        inr (λ has. (let same : Known has.0 ≡ Missing missing = not_both_layouts class has.0 (Missing missing) has.1 is in absurd cc))
    go Cyclic is = inr (λ has. (let same : Known has.0 ≡ Cyclic = not_both_layouts class has.0 Cyclic has.1 is in absurd cc))

-- ---- a fact more

module _ (before : List FactValue) (fact : FactValue) (facts : List FactValue) (adds : AddsFact before fact facts) where
  pub stays : (other : FactValue) → Has before other → Has facts other
  stays other has = (adds.same other).1 (inr has)

  pub was_or_is : (other : FactValue) → Has facts other → (other ≡ fact) ⊎ Has before other
  was_or_is other has = (adds.same other).0 has

  pub is_there : Has facts fact
  is_there = (adds.same fact).1 (inl refl)

  pub agreed : IsConsistent before
  agreed key one other has has_other key_of key_of_other =
      adds.agree key one other (stays one has) (stays other has_other) key_of key_of_other

  pub layout_stays : (class : ℕ) → HasLayout before class → HasLayout facts class
  layout_stays class has = (has.0, known_stays before facts stays class has.0 has.1)

  pub instance_stays : (instance class : ℕ) → IsInstanceOf before instance class → IsInstanceOf facts instance class
  instance_stays instance class is = (is.0, record { trace = is.1.trace; has = stays (Instance instance is.1.trace class is.0) is.1.has })

  pub laid_stays : (instance : ℕ) → CanBeLaid before instance → CanBeLaid facts instance
  laid_stays instance is = record {
    class = is.class;
    is_of = instance_stays instance is.class is.is_of;
    layout = layout_stays is.class is.layout;
  }

  -- an instance was one, or is that fact
  pub instance_was : (instance class : ℕ) (is : IsInstanceOf facts instance class)
      → (Instance instance is.1.trace class is.0 ≡ fact) ⊎ IsInstanceOf before instance class
  instance_was instance class is = elim (was_or_is (Instance instance is.1.trace class is.0) is.1.has) [
    | inl same ↦ inl same
    | inr had ↦ inr (is.0, record { trace = is.1.trace; has = had })
  ]

  -- the known layout of a class whose layout was known is that one
  pub known_was : (class : ℕ) (slots : List Slot) → HasLayout before class → IsKnown facts class slots → IsKnown before class slots
  known_was class slots had known =
      let still = known_stays before facts stays class had.0 had.1 in
      subst (IsKnown before class) (one_known facts adds.agree class had.0 slots still known) had.1
