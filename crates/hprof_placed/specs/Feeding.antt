-- Feeding all pieces of a source, and telling the sink the places before them.
use Rattle.std.specs.Prelude.{◌≡◌, ℕ, Bool, List, [], Option, None, Result, Ok, Err}
use Rattle.std.specs.Io.KnownBytes.{IsAtEnd}
use Rattle.hprof_items.specs.declared.header.Header.{Header}
use Rattle.hprof_items.specs.FactValue.{FactValue}
use Rattle.hprof_devices.specs.declared.health.Health.{Health}
use Rattle.hprof_devices.specs.declared.health.Health.TheVariants as healths
use Rattle.hprof_stream.specs.declared.limits.Limits.{Limits}
use Rattle.hprof_stream.specs.declared.part_fault.PartFault.{PartFault}
use Rattle.hprof_stream.specs.declared.part_reader.PartReader.{PartReader}
use Rattle.hprof_stream.specs.declared.sink.SinkFault.{SinkFault}
use Rattle.hprof_stream.specs.Reader.{HasRead, PulledOut, header_of}
use Rattle.hprof_placed.specs.Reading.{HoldsFront, ReadsPlaced, holds_behind}

module _ {R : Type 0} (left : R → Option (List ℕ)) (health : R → Health) (pulls : R → ℕ)
    {S Earlier : Type 0} (holds : S → Limits → Earlier → Option Header → List ℕ → List FactValue → Type 0)
    (refuses : S → List FactValue → SinkFault → S → Type 0) (failed : S → Bool) where
  -- feeding a new reader all pieces of a source
  abbrev pub FeedsPlaced : Limits → R → List ℕ → R → S → Result (Unit {0}) PartFault → PartReader → S → Type 0
  FeedsPlaced limits was came is old (Ok _) to new =
      PulledOut left pulls limits was came is × IsAtEnd (left is) × (health is ≡ healths.Well)
      × ((facts : List FactValue) × HasRead limits came facts to
      × ((earlier : Earlier) → holds old limits earlier None [] []
      → HoldsFront (holds_behind holds earlier) limits came (header_of to) facts new))
  FeedsPlaced limits was came is old (Err fault) to new =
      ReadsPlaced left health pulls holds refuses failed limits was came is old (Err fault) new
