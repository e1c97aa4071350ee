-- The threads of a heap: heapDumper.cpp, "HPROF binary format". Which serials count is this project's own rule.
use Rattle.std.specs.Prelude.{◌≡◌, ◌⊎◌, ◌↔◌, ℕ, true, List, [], ◌∷◌, Option, Some, None, Contains, if◌then◌else◌}
use Rattle.std.specs.BTreeSet.{BTreeSet, Updates, contains}
use Rattle.std.specs.List.Sorted.{IsStrictlyIncreasing}
use Rattle.std.specs.Ordering.{nat_cmp}
use Rattle.hprof_values.specs.declared.root.Root.{Root}
use Rattle.hprof_values.specs.declared.root.Root.TheVariants as roots
use Rattle.hprof_items.specs.FactValue.{End, FactValue, Rooted, Start}
use Rattle.hprof_rows.specs.Facts.{Has}
use Rattle.hprof_threads.specs.Threads.{IsStarted}

-- the serial of the thread that a root names, if it names one
abbrev pub thread_of_root : Root → Option ℕ
thread_of_root (roots.JniLocal id thread frame) = Some thread
thread_of_root (roots.JavaFrame id thread frame) = Some thread
thread_of_root (roots.NativeStack id thread) = Some thread
thread_of_root (roots.Block id thread) = Some thread
thread_of_root (roots.ThreadObject id thread trace) = Some thread
thread_of_root other = None

-- one of the roots names the thread
pub record IsOfRoot (facts : List FactValue) (serial : ℕ) : Type 0 where
  pub root : Root
  pub has : Has facts (Rooted root)
  pub is : thread_of_root root ≡ Some serial

-- START_THREAD has started it, and no END_THREAD has ended it
pub record IsRunning (facts : List FactValue) (serial : ℕ) : Type 0 where
  pub object : ℕ
  pub started : IsStarted facts serial object
  pub not_ended : ¬ Has facts (End serial)

-- a thread of the heap
abbrev pub IsThread : List FactValue → ℕ → Type 0
IsThread facts serial = IsOfRoot facts serial ⊎ IsRunning facts serial

-- all of them, each once
pub record AreSerials (facts : List FactValue) (serials : List ℕ) : Type 0 where
  pub ascend : IsStrictlyIncreasing serials
  pub exact : (serial : ℕ) → Contains serials serial ↔ IsThread facts serial

-- ---- one by one

-- the threads that have ended
abbrev pub AreEnded : List FactValue → BTreeSet ℕ → Type 0
AreEnded facts ended = (serial : ℕ) → (contains nat_cmp ended serial ≡ true) ↔ Has facts (End serial)

-- one fact more was gone over
abbrev pub NotesEnded : FactValue → BTreeSet ℕ → BTreeSet ℕ → Type 0
NotesEnded (End serial) old new = Updates nat_cmp old new serial true
NotesEnded fact old new = new ≡ old

abbrev pub as_list : Option ℕ → List ℕ
as_list (Some serial) = serial ∷ []
as_list None = []

-- the thread of the root that a fact is
abbrev pub serials_of_root : FactValue → List ℕ
serials_of_root (Rooted root) = as_list (thread_of_root root)
serials_of_root fact = []

-- the thread that a fact says was started, if it is none of those that have ended
abbrev pub serials_of_start : BTreeSet ℕ → FactValue → List ℕ
serials_of_start ended (Start serial object trace name group parent_group) = if contains nat_cmp ended serial then [] else serial ∷ []
serials_of_start ended fact = []
