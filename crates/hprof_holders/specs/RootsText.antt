-- The lines of GC roots, each with its thread. Their form is this project's own.
use Rattle.std.specs.Prelude.{ℕ, ◌==◌, List, [], ◌++◌, Option, Some, None, codes, slice_get, if◌then◌else◌}
use Rattle.std.specs.List.{flat_map}
use Rattle.hprof_values.specs.declared.root.Root.{Root}
use Rattle.hprof_values.specs.declared.root.Root.TheVariants as roots
use Rattle.hprof_threads.specs.Serials.{thread_of_root}
use Rattle.hprof_describe.specs.Findings.{Findings}
use Rattle.hprof_describe.specs.Nodes.{node_text}
use Rattle.hprof_holders.specs.RootLines.{root_line}
use Rattle.hprof_holders.specs.ThreadFindings.{ThreadFindings, frames_of}

-- the number of the frame that a root names, if it names one: heapDumper.cpp, HPROF_GC_ROOT_JAVA_FRAME, -1 for empty
abbrev pub some_frame : ℕ → Option ℕ
some_frame frame = if frame == 4294967295 then None else Some frame

abbrev pub frame_of_root : Root → Option ℕ
frame_of_root (roots.JniLocal id thread frame) = some_frame frame
frame_of_root (roots.JavaFrame id thread frame) = some_frame frame
frame_of_root other = None

-- ---- the thread of a root

-- its object; 0 is none
abbrev pub object_words : Findings → ℕ → Option (List ℕ)
object_words found object = if object == 0 then None else Some (node_text found object)

-- the frame, if the stack has it
abbrev pub at_frame : ThreadFindings → Option ℕ → Option (List ℕ)
at_frame threads (Some frame) = Some (codes "at " ++ threads.frame_line frame)
at_frame threads None = None

abbrev pub frame_words_of : ThreadFindings → ℕ → Option ℕ → Option (List ℕ)
frame_words_of threads serial (Some number) = at_frame threads (slice_get (frames_of threads serial) number)
frame_words_of threads serial None = None

-- behind two spaces the object and the frame, or the one that there is; no line if there is neither
abbrev pub words_line : Option (List ℕ) → Option (List ℕ) → List ℕ
words_line (Some object) (Some frame) = codes "  " ++ object ++ codes " " ++ frame ++ codes "\n"
words_line (Some object) None = codes "  " ++ object ++ codes "\n"
words_line None (Some frame) = codes "  " ++ frame ++ codes "\n"
words_line None None = []

abbrev pub thread_line : Findings → ThreadFindings → Root → Option ℕ → List ℕ
thread_line found threads root (Some serial) =
    words_line (object_words found (threads.object serial)) (frame_words_of threads serial (frame_of_root root))
thread_line found threads root None = []

-- ---- the text

-- a root, and below it its thread
unfoldable pub root_text : Findings → ThreadFindings → Root → List ℕ
root_text found threads root = root_line root ++ thread_line found threads root (thread_of_root root)

abbrev pub roots_text : Findings → ThreadFindings → List Root → List ℕ
roots_text found threads roots = flat_map (root_text found threads) roots
