-- Which of some fields is the first that does not lie within bounds.
use Rattle.std.specs.Prelude.{◌≡◌, ℕ, ◌+◌, ◌<◌, List, ◌∷◌, ◌++◌, length, sum, Err}
use Rattle.hprof_values.specs.declared.parse_stop.ParseStop.{ParseStop}
use Rattle.hprof_values.specs.FieldGroups.{Bounds, field_end, IsWithin}

-- of fields of those widths that begin there, one has a test that fails with this, and those before it end within all bounds
pub record IsFirstStop (bounds : Bounds) (at : ℕ) (widths : List ℕ) (stop : ParseStop) : Type 0 where
  pub before : List ℕ
  pub width : ℕ
  pub behind : List ℕ
  pub parts : widths ≡ before ++ (width ∷ behind)
  pub within : 0 < length before → IsWithin bounds (at + sum before)
  pub stops : field_end bounds (at + sum before + width) ≡ Err stop
