-- The frames of a stack, by their numbers.
use Rattle.std.specs.Prelude.{ℕ, List, Option, Some, None, slice_get}
use Rattle.hprof_holders.specs.ThreadFindings.{frames_in}

-- the frame with that number, if one is asked for and the stack has it
abbrev pub frame_at : Option (List ℕ) → Option ℕ → Option ℕ
frame_at stack (Some number) = slice_get (frames_in stack) number
frame_at stack None = None
