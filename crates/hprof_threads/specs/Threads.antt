-- The root of a thread, its object, and its stack: heapDumper.cpp, "HPROF binary format", HPROF_GC_ROOT_THREAD_OBJ, HPROF_START_THREAD and
-- HPROF_TRACE. Which root speaks for a thread is this project's own rule.
use Rattle.std.specs.Prelude.{◌≡◌, ◌≢◌, ◌==◌, ℕ, List, Option, Some, None, if◌then◌else◌}
use Rattle.hprof_values.specs.declared.root.Root.TheVariants as roots
use Rattle.hprof_items.specs.FactValue.{FactValue, Rooted, Start, Trace}
use Rattle.hprof_rows.specs.Facts.{Has}
use Rattle.hprof_rows.specs.Order.{IsBefore}
use Rattle.hprof_threads.specs.declared.thread_root.ThreadRoot.{ThreadRoot}

-- ---- the root

-- the fact that a root of the thread is
abbrev pub fact_of_root : ℕ → ThreadRoot → FactValue
fact_of_root serial root = Rooted (roots.ThreadObject root.object serial root.trace)

-- one of the facts is this root of the thread
abbrev pub HasThreadRoot : List FactValue → ℕ → ThreadRoot → Type 0
HasThreadRoot facts serial root = Has facts (fact_of_root serial root)

-- the first root of the thread
pub record IsFirstRoot (facts : List FactValue) (serial : ℕ) (root : ThreadRoot) : Type 0 where
  pub has : HasThreadRoot facts serial root
  -- it has an object if one of them has
  pub with_object : (other : ThreadRoot) → HasThreadRoot facts serial other → other.object ≢ 0 → root.object ≢ 0
  -- what stands before it in canonical order has no object, and it has one
  pub first : (other : ThreadRoot) → HasThreadRoot facts serial other → IsBefore (fact_of_root serial other) (fact_of_root serial root)
      → (other.object ≡ 0) × (root.object ≢ 0)

-- the root of the thread, if it has one
abbrev pub IsRootOfThread : List FactValue → ℕ → Option ThreadRoot → Type 0
IsRootOfThread facts serial (Some root) = IsFirstRoot facts serial root
IsRootOfThread facts serial None = (root : ThreadRoot) → HasThreadRoot facts serial root → ⊥

-- ---- the object

-- START_THREAD gives the thread this object
pub record IsStarted (facts : List FactValue) (serial object : ℕ) : Type 0 where
  pub trace : ℕ
  pub name : ℕ
  pub group : ℕ
  pub parent_group : ℕ
  pub has : Has facts (Start serial object trace name group parent_group)

-- the object that START_THREAD gives the thread, if there is one
abbrev pub IsStartFound : List FactValue → ℕ → Option ℕ → Type 0
IsStartFound facts serial (Some object) = IsStarted facts serial object
IsStartFound facts serial None = (object : ℕ) → IsStarted facts serial object → ⊥

-- the object of a root; 0 without one
abbrev pub object_of_root : Option ThreadRoot → ℕ
object_of_root (Some root) = root.object
object_of_root None = 0

-- the object of START_THREAD; 0 without one
abbrev pub object_of_start : Option ℕ → ℕ
object_of_start (Some object) = object
object_of_start None = 0

-- the object of the thread: that of its root, and where this is 0, that of START_THREAD; 0 is none
pub record IsThreadObject (facts : List FactValue) (serial object : ℕ) : Type 0 where
  pub root : Option ThreadRoot
  pub is_root : IsRootOfThread facts serial root
  pub start : Option ℕ
  pub is_start : IsStartFound facts serial start
  pub is : object ≡ (if object_of_root root == 0 then object_of_start start else object_of_root root)

-- ---- the stack

-- TRACE gives the stack trace these frames
pub record IsTraced (facts : List FactValue) (trace : ℕ) (frames : List ℕ) : Type 0 where
  pub thread : ℕ
  pub has : Has facts (Trace trace thread frames)

-- the frames of the stack trace; none without a TRACE
abbrev pub IsTraceFound : List FactValue → ℕ → Option (List ℕ) → Type 0
IsTraceFound facts trace (Some frames) = IsTraced facts trace frames
IsTraceFound facts trace None = (frames : List ℕ) → IsTraced facts trace frames → ⊥

-- the stack trace that a root names
abbrev pub IsTraceOfRoot : List FactValue → Option ThreadRoot → Option (List ℕ) → Type 0
IsTraceOfRoot facts (Some root) frames = IsTraceFound facts root.trace frames
IsTraceOfRoot facts None frames = frames ≡ None

-- the stack of the thread: the frames of the TRACE that its root names, the innermost first
pub record IsThreadStack (facts : List FactValue) (serial : ℕ) (frames : Option (List ℕ)) : Type 0 where
  pub root : Option ThreadRoot
  pub is_root : IsRootOfThread facts serial root
  pub is : IsTraceOfRoot facts root frames
