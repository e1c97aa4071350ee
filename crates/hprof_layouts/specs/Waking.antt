-- What stands while classes that wait are woken.
use Rattle.std.specs.Prelude.{◌≡◌, ◌≢◌, ◌⊎◌, ◌++◌, ℕ, List, nat_eq, Option, Some, None, Contains}
use Rattle.std.specs.List.{IsDistinct}
use Rattle.hprof_values.specs.declared.ids.IdSize.{IdSize}
use Rattle.hprof_items.specs.FactValue.{FactValue}
use Rattle.hprof_heap.specs.Classes.{ClassValue, HasDump}
use Rattle.hprof_layouts.specs.declared.slot.Slot.{Slot}
use Rattle.hprof_layouts.specs.declared.known.KnownLayouts.{KnownLayouts}
use Rattle.hprof_layouts.specs.declared.known.Waiting.{Waiting}
use Rattle.hprof_layouts.specs.declared.plan.Plan.{Plan}
use Rattle.hprof_layouts.specs.Known.{HasPlan, IsWaiting, Waits, IsOnceEach, plan_of, waiting_below}
use Rattle.hprof_layouts.specs.WaitingLists.{number_in}

-- there is a plan of the class
abbrev pub IsPlanned : (ℕ → Option Plan) → ℕ → Type 0
IsPlanned plans class = (plan : Plan) × (plans class ≡ Some plan)

-- the class needs no plan, or there is one
abbrev pub CanWake : (ℕ → Option Plan) → ℕ → Type 0
CanWake plans class = (class ≡ 0) ⊎ IsPlanned plans class

-- plans and what waits, where those are still to be woken that wait for some classes
pub record PlansStand (ids : IdSize) (facts : List FactValue) (plans : ℕ → Option Plan) (waits : ℕ → List Waiting) (pending : List ℕ)
    : Type 0 where
  pub each : (one other : ClassValue) → HasDump facts one → HasDump facts other → one.id ≡ other.id → one ≡ other
  -- each plan is right
  pub plans_are : (class : ℕ) (plan : Plan) → plans class ≡ Some plan → (slots : List Slot) × HasPlan ids facts plans class slots
  -- what waits has a dump and no plan
  pub waits_are : (superclass : ℕ) (waiting : Waiting) → Contains (waits superclass) waiting → IsWaiting ids facts superclass waiting
  pub unplanned : (superclass : ℕ) (waiting : Waiting) → Contains (waits superclass) waiting
      → (waiting.class ≢ 0) × (plans waiting.class ≡ None)
  -- each class that has a dump has a plan or waits
  pub all : (dump : ClassValue) → HasDump facts dump → dump.id ≢ 0 → IsPlanned plans dump.id ⊎ Waits waits dump
  -- none waits for a class that is ready, but for those
  pub closed : (superclass : ℕ) (waiting : Waiting) → Contains (waits superclass) waiting
      → Contains pending superclass ⊎ ((superclass ≢ 0) × (plans superclass ≡ None))
  pub once : (superclass : ℕ) → IsOnceEach (waits superclass)

-- these classes got plans
pub record Woke (before after : ℕ → Option Plan) (woken : List ℕ) : Type 0 where
  pub stays : (class : ℕ) → IsPlanned before class → IsPlanned after class
  pub gained : (class : ℕ) → IsPlanned after class → IsPlanned before class ⊎ Contains woken class
  pub woke : (class : ℕ) → Contains woken class → IsPlanned after class × (before class ≡ None)
  pub once : IsDistinct nat_eq woken

-- known layouts while classes are woken
pub record IsWaking (ids : IdSize) (facts : List FactValue) (before : ℕ → Option Plan) (known : KnownLayouts) (woken pending : List ℕ)
    : Type 0 where
  pub standing : PlansStand ids facts (plan_of known) (waiting_below known) pending
  pub woke : Woke before (plan_of known) woken

-- more classes were woken, for which others may wait
pub record Wakes (ids : IdSize) (facts : List FactValue) (before : ℕ → Option Plan) (known : KnownLayouts) (old new pending : List ℕ)
    : Type 0 where
  pub more : List ℕ
  pub woken_are : new ≡ old ++ more
  pub waking : IsWaking ids facts before known new (pending ++ more)

-- the number of classes that wait
abbrev pub number_waiting : KnownLayouts → ℕ
number_waiting known = number_in known.waiting
