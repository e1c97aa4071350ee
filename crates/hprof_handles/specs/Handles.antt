-- Handles as parts.
use Rattle.std.specs.Prelude.{List}
use Rattle.hprof_handles.specs.declared.handles.Handles.{Handles}

-- the handles
abbrev pub handles_of : {H : Type 0} → Handles H → List H
handles_of it = it.handles.now
