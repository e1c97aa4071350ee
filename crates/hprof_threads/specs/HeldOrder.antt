-- The order of what threads hold. It is this project's own: by the thread, then by the place, then by the object. Places are ordered so:
-- frames by number, the native stack, the thread block.
use Rattle.std.specs.Prelude.{ℕ, List, [], ◌∷◌}
use Rattle.hprof_threads.specs.declared.held.Held.{Held}
use Rattle.hprof_threads.specs.declared.held.Place.{Place}
use Rattle.hprof_threads.specs.declared.held.Place.TheVariants as places

-- the kinds of places are numbered
abbrev pub number_of_place : Place → ℕ
number_of_place (places.Frame frame) = 1
number_of_place places.NativeStack = 2
number_of_place places.ThreadBlock = 3

-- the number of a frame; 0 of what is no frame
abbrev pub frame_of_place : Place → ℕ
frame_of_place (places.Frame frame) = frame
frame_of_place place = 0

-- what is held, as numbers: of two the first numbers that differ tell which comes first
abbrev pub numbers_of_held : Held → List ℕ
numbers_of_held held = held.thread ∷ number_of_place held.place ∷ frame_of_place held.place ∷ held.object ∷ []
