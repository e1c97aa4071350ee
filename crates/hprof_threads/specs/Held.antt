-- What the frames of threads hold: heapDumper.cpp, "HPROF binary format", HPROF_GC_ROOT_JNI_LOCAL, HPROF_GC_ROOT_JAVA_FRAME,
-- HPROF_GC_ROOT_NATIVE_STACK and HPROF_GC_ROOT_THREAD_BLOCK.
use Rattle.std.specs.Prelude.{◌≡◌, ◌≢◌, ◌↔◌, ◌==◌, ℕ, List, [], ◌∷◌, Option, Some, None, Contains, if◌then◌else◌}
use Rattle.std.specs.List.Sorted.{IsStrictlySortedBy}
use Rattle.hprof_values.specs.declared.root.Root.{Root}
use Rattle.hprof_values.specs.declared.root.Root.TheVariants as roots
use Rattle.hprof_items.specs.FactValue.{FactValue, Rooted}
use Rattle.hprof_rows.specs.Facts.{Has}
use Rattle.hprof_threads.specs.declared.held.Held.{Held}
use Rattle.hprof_threads.specs.declared.held.Place.TheVariants as places
use Rattle.hprof_threads.specs.contracts.held.HeldOrd.TheImpl as held_ord

-- the place in a thread where a root holds its object
abbrev pub held_by : Root → Option Held
held_by (roots.JniLocal id thread frame) = Some (record { thread = thread; place = places.Frame frame; object = id })
held_by (roots.JavaFrame id thread frame) = Some (record { thread = thread; place = places.Frame frame; object = id })
held_by (roots.NativeStack id thread) = Some (record { thread = thread; place = places.NativeStack; object = id })
held_by (roots.Block id thread) = Some (record { thread = thread; place = places.ThreadBlock; object = id })
held_by other = None

-- one of the roots holds an object there; 0 is none
pub record IsHeld (facts : List FactValue) (held : Held) : Type 0 where
  pub root : Root
  pub has : Has facts (Rooted root)
  pub is : held_by root ≡ Some held
  pub some : held.object ≢ 0

-- all that threads hold, thread by thread, place by place, each object of a place once
pub record AreHeld (facts : List FactValue) (rows : List Held) : Type 0 where
  pub ascend : IsStrictlySortedBy ((held_ord.ghosts).cmp) rows
  pub exact : (held : Held) → Contains rows held ↔ IsHeld facts held

-- the same of one thread
pub record AreHeldBy (facts : List FactValue) (thread : ℕ) (rows : List Held) : Type 0 where
  pub ascend : IsStrictlySortedBy ((held_ord.ghosts).cmp) rows
  pub exact : (held : Held) → Contains rows held ↔ (IsHeld facts held × (held.thread ≡ thread))

-- ---- one by one

-- what the root that a fact is holds, if it holds an object
abbrev pub some_held : Option Held → List Held
some_held (Some held) = if held.object == 0 then [] else held ∷ []
some_held None = []

abbrev pub held_in : FactValue → List Held
held_in (Rooted root) = some_held (held_by root)
held_in fact = []
