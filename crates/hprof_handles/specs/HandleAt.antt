-- A reader of a handle from an offset on.
use Rattle.std.specs.Prelude.{ℕ, List, drop, Option, Some, None}
use Rattle.hprof_handles.specs.declared.handle_at.HandleAt.{HandleAt}

abbrev pub handle_of : {H : Type 0} → HandleAt H → H
handle_of it = it.handle.now

abbrev pub offset_of : {H : Type 0} → HandleAt H → ℕ
offset_of it = it.at

-- the bytes from an offset on, where they are told
abbrev pub rest_at : Option (List ℕ) → ℕ → Option (List ℕ)
rest_at None at = None
rest_at (Some bytes) at = Some (drop at bytes)
