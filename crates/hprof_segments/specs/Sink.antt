-- Rows that are taken as sub-records.
use Rattle.std.specs.Prelude.{◌≡◌, ℕ, List, [], ◌∷◌, ◌++◌, Option, Err}
use Rattle.std.specs.Borrow.{MutBor}
use Rattle.hprof_devices.specs.declared.health.Health.{Health}
use Rattle.hprof_devices.specs.declared.health.WriteFault.{WriteFault}
use Rattle.hprof_devices.specs.Device.{Writes, health_after}
use Rattle.hprof_segments.specs.declared.segment_sink.SegmentSink.{SegmentSink}
use Rattle.hprof_segments.specs.declared.segment_writer.SegmentWriter.{SegmentWriter}
use Rattle.hprof_segments.specs.declared.segment_fault.SegmentFault.{SegmentFault}
use Rattle.hprof_segments.specs.declared.segment_fault.SegmentFault.TheVariants.{NoSubRecord, Write}
use Rattle.hprof_segments.specs.ByteSegments.{IsSub, segment_records}
use Rattle.hprof_segments.specs.Taking.{HasTaken}
use Rattle.hprof_segments.specs.Writer.{held_bytes}

-- the writer and the target of a sink
abbrev pub sink_state : {W : Type 0} → SegmentSink W → SegmentWriter × W
sink_state sink = (sink.writer.now, sink.target.now)

-- it is a sink into this writer and this target
abbrev pub IsInto : {W : Type 0} → SegmentSink W → MutBor SegmentWriter → MutBor W → Type 0
IsInto sink writer target = (sink.writer.ghost_name ≡ writer.ghost_name) × (sink.target.ghost_name ≡ target.ghost_name)

-- both are sinks into the same writer and the same target
abbrev pub IsOverSame : {W : Type 0} → SegmentSink W → SegmentSink W → Type 0
IsOverSame old new = IsInto new old.writer old.target

module _ {W : Type 0} (written : W → Option (List ℕ)) where
  -- the writer has taken these sub-records since the target held `start`
  abbrev pub HasTakenRows : SegmentWriter × W → Option (List ℕ) → List (List ℕ) → Type 0
  HasTakenRows state start subs = HasTaken start (written state.1) (held_bytes state.0) subs

  -- the bytes of a row were taken as a sub-record, behind those that were taken before
  pub record TakesRow (old : SegmentWriter × W) (key : ℕ) (bytes : List ℕ) (new : SegmentWriter × W) : Type 0 where
    pub sub : IsSub bytes
    pub taken : (start : Option (List ℕ)) (subs : List (List ℕ)) → HasTakenRows old start subs → HasTakenRows new start (subs ++ bytes ∷ [])

  -- the target failed at a row: whatever would have come behind it, a prefix of the records of all went out
  pub record FailsAtRow (well : W → Health) (old : SegmentWriter × W) (bytes : List ℕ) (fault : WriteFault) (new : SegmentWriter × W)
      : Type 0 where
    pub sub : IsSub bytes
    pub health : well new.1 ≡ health_after fault
    pub prefix : (start : Option (List ℕ)) (subs more : List (List ℕ)) → HasTakenRows old start subs
        → Writes {A = Unit {0}} start (written new.1) (Err fault) (segment_records (subs ++ bytes ∷ more))

  -- a row was refused: it is no sub-record, and nothing changed; or the target failed
  abbrev pub RefusesRow : (W → Health) → SegmentWriter × W → ℕ → List ℕ → SegmentFault → SegmentWriter × W → Type 0
  RefusesRow well old key bytes NoSubRecord new = (¬ IsSub bytes) × (new ≡ old)
  RefusesRow well old key bytes (Write fault) new = FailsAtRow well old bytes fault new

  -- a sink took a row, or refused it
  abbrev pub TakesIntoSink : SegmentSink W → ℕ → List ℕ → SegmentSink W → Type 0
  TakesIntoSink old key bytes new = IsOverSame old new × TakesRow (sink_state old) key bytes (sink_state new)

  abbrev pub SinkRefuses : (W → Health) → SegmentSink W → ℕ → List ℕ → SegmentFault → SegmentSink W → Type 0
  SinkRefuses well old key bytes fault new = IsOverSame old new × RefusesRow well (sink_state old) key bytes fault (sink_state new)
