-- What is found of each thread.
use Rattle.std.specs.Prelude.{ℕ, List, [], Option, Some, None}
use Rattle.hprof_items.specs.FactValue.{FactValue}
use Rattle.hprof_naming.specs.Naming.{Naming}
use Rattle.hprof_threads.specs.Frames.{IsFrameLine}
use Rattle.hprof_threads.specs.Threads.{IsThreadObject, IsThreadStack}

-- of each thread its object, where 0 is none, and its stack; and of each frame its line
pub record ThreadFindings : Type 0 where
  pub object : ℕ → ℕ
  pub stack : ℕ → Option (List ℕ)
  pub frame_line : ℕ → List ℕ

-- so it is among these facts
pub record AreThreadFindings (facts : List FactValue) (naming : Naming) (threads : ThreadFindings) : Type 0 where
  pub objects : (serial : ℕ) → IsThreadObject facts serial (threads.object serial)
  pub stacks : (serial : ℕ) → IsThreadStack facts serial (threads.stack serial)
  pub frame_lines : (frame : ℕ) → IsFrameLine facts naming frame (threads.frame_line frame)

-- the frames of a stack; no stack has none
abbrev pub frames_in : Option (List ℕ) → List ℕ
frames_in (Some frames) = frames
frames_in None = []

-- the frames of a thread, the innermost first
abbrev pub frames_of : ThreadFindings → ℕ → List ℕ
frames_of threads serial = frames_in (threads.stack serial)
