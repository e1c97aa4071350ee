-- Weak edges, and strong ones: java.lang.ref of the JDK. A soft, weak or phantom reference does not keep its referent alive; the field
-- that holds it is declared by their superclass. Classes and fields are told by their names.
use Rattle.std.specs.Prelude.{◌≡◌, ◌≢◌, ◌⊎◌, ℕ, List, Some, slice_get, codes}
use Rattle.hprof_items.specs.FactValue.{FactValue}
use Rattle.hprof_heap.specs.Classes.{ClassValue}
use Rattle.hprof_heap.specs.Names.{HasName}
use Rattle.hprof_heap.specs.Objects.{HasInstance}
use Rattle.hprof_layouts.specs.declared.slot.Slot.{Slot}
use Rattle.hprof_layouts.specs.Chain.{IsChain}
use Rattle.hprof_layouts.specs.Layout.{IsKnown}
use Rattle.hprof_naming.specs.Called.{IsCalled}
use Rattle.hprof_edges.specs.declared.edge.Via.TheVariants as vias
use Rattle.hprof_edges.specs.declared.edge.Edge.{Edge}
use Rattle.hprof_edges.specs.declared.field_place.FieldPlace.{FieldPlace}

-- the class is one of those whose referents are cleared
abbrev pub IsClearing : List FactValue → ℕ → Type 0
IsClearing facts class = IsCalled facts class (codes "java/lang/ref/SoftReference")
    ⊎ (IsCalled facts class (codes "java/lang/ref/WeakReference") ⊎ IsCalled facts class (codes "java/lang/ref/PhantomReference"))

-- so is it, or one of its superclasses; 0 is no class
pub record IsCleared (facts : List FactValue) (class : ℕ) : Type 0 where
  pub dumps : List ClassValue
  pub superclass : ℕ
  pub chain : IsChain facts class dumps superclass
  pub not_zero : superclass ≢ 0
  pub clearing : IsClearing facts superclass

-- the field is the referent that java.lang.ref.Reference declares
pub record IsReferent (facts : List FactValue) (slot : Slot) : Type 0 where
  pub declared : IsCalled facts slot.class (codes "java/lang/ref/Reference")
  pub named : HasName facts slot.name (codes "referent")

-- the field at that place of the layout is the referent, and is cleared
pub record IsWeakField (facts : List FactValue) (field : FieldPlace) : Type 0 where
  pub slots : List Slot
  pub known : IsKnown facts field.class slots
  pub slot : Slot
  pub there : slice_get slots field.place ≡ Some slot
  pub referent : IsReferent facts slot
  pub cleared : IsCleared facts field.class

-- the edge is by such a field of an instance
pub record IsWeak (facts : List FactValue) (edge : Edge) : Type 0 where
  pub via_is : edge.via ≡ vias.Field
  pub class : ℕ
  pub bytes : List ℕ
  pub instance : HasInstance facts edge.from class bytes
  pub weak : IsWeakField facts (record { class = class; place = edge.position })

-- every other edge is strong
abbrev pub IsStrong : List FactValue → Edge → Type 0
IsStrong facts edge = ¬ IsWeak facts edge
