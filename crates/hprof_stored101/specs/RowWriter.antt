-- Writing the bytes of rows.
use Rattle.std.specs.Prelude.{◌≡◌, ℕ, List, Option}
use Rattle.std.specs.Io.KnownBytes.{Appends}
use Rattle.hprof_devices.specs.declared.health.Health.{Health}
use Rattle.hprof_devices.specs.Device.{health_after}
use Rattle.hprof_segments.specs.declared.segment_fault.SegmentFault.{SegmentFault}
use Rattle.hprof_segments.specs.declared.segment_fault.SegmentFault.TheVariants as segments
use Rattle.hprof_stored.specs.Dumping.{WritesSome}
use Rattle.hprof_stored101.specs.declared.row_writer.RowWriter.{RowWriter}

-- both write to the same target
abbrev pub IsOverSame : {W : Type 0} → RowWriter W → RowWriter W → Type 0
IsOverSame old new = new.target.ghost_name ≡ old.target.ghost_name

module _ {W : Type 0} (written : W → Option (List ℕ)) where
  -- the bytes of a row were written
  abbrev pub WritesRow : RowWriter W → ℕ → List ℕ → RowWriter W → Type 0
  WritesRow old key bytes new = IsOverSame old new × Appends (written old.target.now) (written new.target.now) bytes

  -- the target failed at a row: some of its bytes were written, from the front
  abbrev pub StopsAtRow : (W → Health) → RowWriter W → ℕ → List ℕ → SegmentFault → RowWriter W → Type 0
  StopsAtRow health old key bytes segments.NoSubRecord new = ⊥
  StopsAtRow health old key bytes (segments.Write fault) new = IsOverSame old new
      × (health new.target.now ≡ health_after fault) × WritesSome (written old.target.now) (written new.target.now) bytes
