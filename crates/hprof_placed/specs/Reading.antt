-- Reading a part into a sink that is told places of it.
use Rattle.std.specs.Prelude.{◌≡◌, ℕ, ◌≤◌, Bool, List, [], ◌++◌, length, Option, None, Result, Err}
use Rattle.hprof_items.specs.declared.header.Header.{Header}
use Rattle.hprof_items.specs.FactValue.{FactValue}
use Rattle.hprof_devices.specs.declared.health.Health.{Health}
use Rattle.hprof_stream.specs.declared.limits.Limits.{Limits}
use Rattle.hprof_stream.specs.declared.part_fault.PartFault.{PartFault}
use Rattle.hprof_stream.specs.declared.part_fault.PartFault.TheVariants as faults
use Rattle.hprof_stream.specs.declared.sink.SinkFault.{SinkFault}
use Rattle.hprof_stream.specs.declared.summary.PartSummary.{PartSummary}
use Rattle.hprof_stream.specs.Reader.{ReadsPart}
use Rattle.hprof_stream.specs.Walking.{Refuses}
use Rattle.hprof_placed.specs.Handed.{Handed, nothing_handed}
use Rattle.hprof_placed.specs.Handed as listing

-- what a sink holds behind what it was given earlier
abbrev pub holds_behind : {S Earlier : Type 0} → (S → Limits → Earlier → Option Header → List ℕ → List FactValue → Type 0) → Earlier
    → S → Limits → Option Header → List ℕ → List FactValue → Type 0
holds_behind holds earlier = λ sink limits header bytes facts. holds sink limits earlier header bytes facts

module _ {S : Type 0} (holds : S → Limits → Option Header → List ℕ → List FactValue → Type 0) where
  -- the sink holds that it was given this header and these facts, and of the bytes that came all but the last piece
  pub record HoldsFront (limits : Limits) (came : List ℕ) (header : Option Header) (facts : List FactValue) (sink : S) : Type 0 where
    pub before : List ℕ
    pub piece : List ℕ
    pub parts : came ≡ before ++ piece
    pub few : length piece ≤ 65536
    pub held : holds sink limits header before facts

module _ {S : Type 0} (holds : S → Limits → Option Header → List ℕ → List FactValue → Type 0) (refuses : S → List FactValue → SinkFault
    → S → Type 0) (failed : S → Bool) where
  -- where reading came to that result, the sink holds what was handed to it; where the sink is the reason, it held that, and refused the
  -- header or the fact that came then
  abbrev pub HoldsHanded : Limits → List ℕ → Result PartSummary PartFault → Handed → S → Type 0
  HoldsHanded limits came (Err (faults.Sink fault)) handed new =
      (mid : S) × HoldsFront holds limits came handed.header handed.facts mid × Refuses refuses failed mid handed.refused fault new
  HoldsHanded limits came result handed new = HoldsFront holds limits came handed.header handed.facts new

module _ {R : Type 0} (left : R → Option (List ℕ)) (health : R → Health) (pulls : R → ℕ) where
  -- what reading a part to its end comes to for a sink that lists what it is handed, by the definition of `read_part`
  abbrev pub ListsPart : Limits → R → List ℕ → R → Result PartSummary PartFault → Handed → Type 0
  ListsPart limits was came is result handed =
      ReadsPart left health pulls listing.begins listing.steps listing.refuses listing.failed limits was came is nothing_handed result
      handed

module _ {R : Type 0} (left : R → Option (List ℕ)) (health : R → Health) (pulls : R → ℕ)
    {S Earlier : Type 0} (holds : S → Limits → Earlier → Option Header → List ℕ → List FactValue → Type 0)
    (refuses : S → List FactValue → SinkFault → S → Type 0) (failed : S → Bool) where
  -- what reading a part to its end comes to, where these bytes came from a source: what it comes to for a sink that lists what it is
  -- handed, and a sink that held nothing of the part holds just that, behind the same that it held earlier
  --   was, is: the source, before and afterwards
  abbrev pub ReadsPlaced : Limits → R → List ℕ → R → S → Result PartSummary PartFault → S → Type 0
  ReadsPlaced limits was came is old result new =
      (handed : Handed) × ListsPart left health pulls limits was came is result handed
      × ((earlier : Earlier) → holds old limits earlier None [] []
      → HoldsHanded (holds_behind holds earlier) refuses failed limits came result handed new)
