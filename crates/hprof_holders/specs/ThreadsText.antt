-- The report `threads`: each thread, its stack, and the objects that its frames hold. Its form is this project's own.
use Rattle.std.specs.Prelude.{◌≡◌, ℕ, ◌+◌, ◌==◌, nat_le, Bool, true, false, List, [], ◌∷◌, ◌++◌, length, codes, if◌then◌else◌}
use Rattle.std.specs.Fmt.{decimal}
use Rattle.std.specs.List.{filter, flat_map}
use Rattle.hprof_values.specs.declared.ids.IdSize.{IdSize}
use Rattle.hprof_items.specs.FactValue.{FactValue}
use Rattle.hprof_rows.specs.Conflict.{IsConsistent}
use Rattle.hprof_threads.specs.declared.held.Held.{Held}
use Rattle.hprof_threads.specs.declared.held.Place.{Place}
use Rattle.hprof_threads.specs.declared.held.Place.TheVariants as places
use Rattle.hprof_threads.specs.Held.{AreHeldBy}
use Rattle.hprof_threads.specs.Serials.{AreSerials}
use Rattle.hprof_describe.specs.Findings.{AreFindings, Findings}
use Rattle.hprof_describe.specs.Nodes.{node_text}
use Rattle.hprof_holders.specs.RootLines.{frame_words}
use Rattle.hprof_holders.specs.ThreadFindings.{AreThreadFindings, ThreadFindings, frames_of}

-- ---- objects

-- behind four spaces an object that is held
abbrev pub held_line : Findings → Held → List ℕ
held_line found held = codes "    " ++ node_text found held.object ++ codes "\n"

-- ---- the stack

-- it is held in the frame with that number
abbrev pub is_in_frame : ℕ → Held → Bool
is_in_frame number held = in_frame held.place where
  in_frame : Place → Bool
  in_frame (places.Frame frame) = frame == number
  in_frame place = false

-- the line of a frame, and below it the objects that it holds
abbrev pub frame_text : Findings → ThreadFindings → List Held → (number frame : ℕ) → List ℕ
frame_text found threads rows number frame = codes "  at " ++ threads.frame_line frame ++ codes "\n"
    ++ flat_map (held_line found) (filter (is_in_frame number) rows)

-- the frames from that number on
unfoldable pub stack_text : Findings → ThreadFindings → (number : ℕ) → List Held → (frames : List ℕ) → List ℕ
stack_text found threads number rows [] = []
stack_text found threads number rows (frame ∷ frames) =
    frame_text found threads rows number frame ++ stack_text found threads (number + 1) rows frames

-- ---- elsewhere

-- the stack of so many frames does not have the place
abbrev pub is_elsewhere : ℕ → Held → Bool
is_elsewhere count held = elsewhere held.place where
  elsewhere : Place → Bool
  elsewhere (places.Frame frame) = nat_le count frame
  elsewhere place = true

-- what a place is called
abbrev pub place_words : Place → List ℕ
place_words (places.Frame frame) = frame_words frame
place_words places.NativeStack = codes "native stack"
place_words places.ThreadBlock = codes "thread block"

-- two places are one
abbrev pub same_place : Place → Place → Bool
same_place (places.Frame one) (places.Frame other) = one == other
same_place places.NativeStack places.NativeStack = true
same_place places.ThreadBlock places.ThreadBlock = true
same_place one other = false

abbrev pub place_line : Place → List ℕ
place_line place = codes "  " ++ place_words place ++ codes "\n"

-- what is held elsewhere, behind something that is held at that place: the line of each place once, before its objects
unfoldable pub rows_behind : Findings → Place → List Held → List ℕ
rows_behind found before [] = []
rows_behind found before (row ∷ rows) = (if same_place before row.place then [] else place_line row.place) ++ held_line found row
    ++ rows_behind found row.place rows

abbrev pub elsewhere_text : Findings → List Held → List ℕ
elsewhere_text found [] = []
elsewhere_text found (row ∷ rows) = place_line row.place ++ held_line found row ++ rows_behind found row.place rows

-- ---- a thread

-- the serial of a thread, and its object if it has one
abbrev pub head_line : Findings → ThreadFindings → ℕ → List ℕ
head_line found threads serial = codes "thread " ++ decimal serial
    ++ (if threads.object serial == 0 then [] else codes " " ++ node_text found (threads.object serial)) ++ codes "\n"

-- a thread that holds this
unfoldable pub thread_text : Findings → ThreadFindings → ℕ → List Held → List ℕ
thread_text found threads serial rows = head_line found threads serial ++ stack_text found threads 0 rows (frames_of threads serial)
    ++ elsewhere_text found (filter (is_elsewhere (length (frames_of threads serial))) rows)

-- the text is the report of these facts, which agree
pub record IsThreadsText (ids : IdSize) (facts : List FactValue) (text : List ℕ) : Type 0 where
  pub agree : IsConsistent facts
  pub found : Findings
  pub are_found : AreFindings ids facts found
  pub threads : ThreadFindings
  pub are_threads : AreThreadFindings facts found.naming threads
  pub held : ℕ → List Held
  pub are_held : (serial : ℕ) → AreHeldBy facts serial (held serial)
  pub serials : List ℕ
  pub are_serials : AreSerials facts serials
  pub is : text ≡ flat_map (λ serial. thread_text found threads serial (held serial)) serials
