-- What a live heap answers, with a function applied to it.
use Rattle.std.specs.Prelude.{⊤}
use Rattle.hprof_graph.specs.declared.live.Live.{Live}
use Rattle.hprof_graph.specs.declared.live.Live.TheVariants as lives

-- the second is what the function gives of the first
abbrev pub MapsTo : {X Y : Type 0} → (X → Y → Type 0) → Live X → Live Y → Type 0
MapsTo gives (lives.Is answer) (lives.Is mapped) = gives answer mapped
MapsTo gives lives.InConflict lives.InConflict = ⊤
MapsTo gives lives.Failed lives.Failed = ⊤
MapsTo gives one other = ⊥
