-- What known layouts know.
use Rattle.std.specs.Prelude.{◌≡◌, ◌≢◌, ◌⊎◌, ◌↔◌, ℕ, List, map, nat_eq, Option, Some, Contains}
use Rattle.std.specs.List.{IsDistinct}
use Rattle.hprof_tables.specs.HintedMap.{value_in}
use Rattle.hprof_values.specs.declared.ids.IdSize.{IdSize}
use Rattle.hprof_items.specs.FactValue.{FactValue}
use Rattle.hprof_heap.specs.Classes.{ClassValue, HasDump}
use Rattle.hprof_layouts.specs.declared.slot.Slot.{Slot}
use Rattle.hprof_layouts.specs.Layout.{IsKnown, own_slots}
use Rattle.hprof_layouts.specs.declared.known.KnownLayouts.{KnownLayouts}
use Rattle.hprof_layouts.specs.declared.known.Waiting.{Waiting}
use Rattle.hprof_layouts.specs.declared.plan.Outline.{Outline}
use Rattle.hprof_layouts.specs.declared.plan.Plan.{Plan}
use Rattle.hprof_layouts.specs.OwnFields.{IsOwn}
use Rattle.hprof_layouts.specs.Plan.{IsPlan, NoTwoDumps, outline_at}
use Rattle.hprof_layouts.specs.WaitingLists.{waiting_for}

-- the layout of the class is known
abbrev pub HasLayout : List FactValue → ℕ → Type 0
HasLayout facts class = (slots : List Slot) × IsKnown facts class slots

-- the last facts have the class dumps of the first, and this one
abbrev pub HasDumpMore : List FactValue → ClassValue → List FactValue → Type 0
HasDumpMore facts row more = (dump : ClassValue) → HasDump more dump ↔ (HasDump facts dump ⊎ (dump ≡ row))

-- ---- what is kept

-- what is kept of a class whose layout is known
abbrev pub plan_of : KnownLayouts → ℕ → Option Plan
plan_of known class = value_in known.plans class

-- the classes that wait for their superclass
abbrev pub waiting_below : KnownLayouts → ℕ → List Waiting
waiting_below known = waiting_for known.waiting

-- with that laying the instances of the class begins
abbrev pub IsOutlineOf : KnownLayouts → ℕ → Outline → Type 0
IsOutlineOf known class outline = outline ≡ outline_at class (plan_of known class)

-- ---- what it means

-- there is a plan of the class, of these slots
pub record HasPlan (ids : IdSize) (facts : List FactValue) (plans : ℕ → Option Plan) (class : ℕ) (slots : List Slot) : Type 0 where
  pub plan : Plan
  pub found : plans class ≡ Some plan
  pub is : IsPlan ids facts class slots plan

-- no class has two dumps, and each plan is right
pub record ArePlans (ids : IdSize) (facts : List FactValue) (plans : ℕ → Option Plan) : Type 0 where
  pub each : NoTwoDumps facts
  pub plans_are : (class : ℕ) (plan : Plan) → plans class ≡ Some plan → (slots : List Slot) × HasPlan ids facts plans class slots

-- what waits is a class that has a dump, with that superclass
pub record IsWaiting (ids : IdSize) (facts : List FactValue) (superclass : ℕ) (waiting : Waiting) : Type 0 where
  pub dump : ClassValue
  pub has : HasDump facts dump
  pub id : dump.id ≡ waiting.class
  pub parent : dump.parent ≡ superclass
  pub own_are : IsOwn ids (own_slots dump) waiting.own

-- a dump's class waits for its superclass
pub record Waits (waits : ℕ → List Waiting) (dump : ClassValue) : Type 0 where
  pub waiting : Waiting
  pub there : Contains (waits dump.parent) waiting
  pub id : waiting.class ≡ dump.id

-- each class once
abbrev pub IsOnceEach : List Waiting → Type 0
IsOnceEach list = IsDistinct nat_eq (map (λ waiting. waiting.class) list)

-- what is known over these facts
pub record Knows (ids : IdSize) (facts : List FactValue) (known : KnownLayouts) : Type 0 where
  -- no class has two dumps
  pub each : (one other : ClassValue) → HasDump facts one → HasDump facts other → one.id ≡ other.id → one ≡ other
  -- each class whose layout is known has a plan, of its slots; class 0 needs none
  pub planned : (class : ℕ) (slots : List Slot) → class ≢ 0 → IsKnown facts class slots → HasPlan ids facts (plan_of known) class slots
  -- the layout of each class that has a plan is known
  pub only : (class : ℕ) (plan : Plan) → plan_of known class ≡ Some plan → (class ≢ 0) × HasLayout facts class
  -- what waits is a class that has a dump, and whose layout is not known
  pub waits : (superclass : ℕ) (waiting : Waiting) → Contains (waiting_below known superclass) waiting
      → IsWaiting ids facts superclass waiting × ¬ HasLayout facts waiting.class
  -- each such class waits
  pub all_wait : (dump : ClassValue) → HasDump facts dump → ¬ HasLayout facts dump.id → Waits (waiting_below known) dump
  -- and once
  pub once : (superclass : ℕ) → IsOnceEach (waiting_below known superclass)

-- these are the classes whose layouts become known, each once
pub record AreWoken (facts more : List FactValue) (woken : List ℕ) : Type 0 where
  pub each : (class : ℕ) → Contains woken class ↔ (HasLayout more class × ¬ HasLayout facts class)
  pub once : IsDistinct nat_eq woken
