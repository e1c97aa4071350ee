-- The lines of roots, in parts.
use Rattle.std.proofs.Common.{◌≡◌, ℕ, ◌++◌, Option, Some, None, refl}
use Rattle.hprof_values.specs.declared.root.Root.{Root}
use Rattle.hprof_threads.specs.Serials.{thread_of_root}
use Rattle.hprof_describe.specs.Findings.{Findings}
use Rattle.hprof_holders.specs.RootLines.{root_line}
use Rattle.hprof_holders.specs.RootsText.{at_frame, frame_words_of, root_text, thread_line}
use Rattle.hprof_holders.specs.StackFrames.{frame_at}
use Rattle.hprof_holders.specs.ThreadFindings.{ThreadFindings}

module _ (found : Findings) (threads : ThreadFindings) where
  pub root_parts : (root : Root) → root_text found threads root
      ≡ root_line root ++ thread_line found threads root (thread_of_root root)
  unfolding root_text
  root_parts root = refl

-- the frame that a root names
pub frame_told : (threads : ThreadFindings) (serial : ℕ) (number : Option ℕ)
    → at_frame threads (frame_at (threads.stack serial) number) ≡ frame_words_of threads serial number
frame_told threads serial (Some number) = refl
frame_told threads serial None = refl
