-- The roots of all threads, gathered.
use Rattle.std.specs.Prelude.{◌==◌, ◌&&◌, not, ℕ, Bool, true, List, ◌++◌, [], ◌∷◌, Option, Some, None}
use Rattle.std.specs.Ordering.{nat_cmp}
use Rattle.std.specs.BTreeMap.{get}
use Rattle.hprof_values.specs.declared.root.Root.TheVariants as roots
use Rattle.hprof_items.specs.FactValue.{FactValue, Rooted}
use Rattle.hprof_rows.specs.Facts.{Has}
use Rattle.hprof_rows.specs.Order.{IsBefore}
use Rattle.hprof_threads.specs.declared.thread_root.ThreadRoot.{ThreadRoot}
use Rattle.hprof_threads.specs.declared.thread_roots.ThreadRoots.{ThreadRoots}
use Rattle.hprof_threads.specs.Threads.{IsRootOfThread}

-- the roots that were gathered are those of the facts, thread by thread
abbrev pub AreThreadRoots : List FactValue → ThreadRoots → Type 0
AreThreadRoots facts roots = (serial : ℕ) → IsRootOfThread facts serial (get nat_cmp roots.roots serial)

-- ---- one by one

-- the thread object root that a fact is, with the serial of its thread
abbrev pub thread_root_in : FactValue → Option (ℕ × ThreadRoot)
thread_root_in (Rooted (roots.ThreadObject object serial trace)) = Some (serial, record { object = object; trace = trace })
thread_root_in fact = None

-- a root that came first gives way to one with this object: there is none yet, or it has no object
abbrev pub gives_way : Option ThreadRoot → ℕ → Bool
gives_way (Some root) object = (root.object == 0) && not (object == 0)
gives_way None object = true

-- one fact more was gone over, which stands behind those before
abbrev pub NotesRoot : FactValue → ThreadRoots → ThreadRoots → Type 0
NotesRoot fact old new = (facts : List FactValue) → ((before : FactValue) → Has facts before → IsBefore before fact)
    → AreThreadRoots facts old → AreThreadRoots (facts ++ fact ∷ []) new
