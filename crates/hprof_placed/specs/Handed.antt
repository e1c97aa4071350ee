-- What a sink was handed of a part, and a sink that only lists it.
use Rattle.std.specs.Prelude.{◌≡◌, ℕ, Bool, true, false, List, [], ◌∷◌, ◌++◌, Option, Some, None}
use Rattle.hprof_items.specs.declared.header.Header.{Header}
use Rattle.hprof_items.specs.FactValue.{FactValue}
use Rattle.hprof_stream.specs.declared.part_fault.PartFault.{PartFault}
use Rattle.hprof_stream.specs.declared.part_fault.PartFault.TheVariants as faults
use Rattle.hprof_stream.specs.declared.sink.SinkFault.{SinkFault}
use Rattle.hprof_stream.specs.Item.{header_before}
use Rattle.hprof_stream.specs.Part.{all_facts}
use Rattle.hprof_stream.specs.Reader.{BeginsWhole}

pub record Handed : Type 0 where
  -- the header, if it came
  pub header : Option Header
  -- the facts, in order
  pub facts : List FactValue
  -- the fact that was refused: none, unless the sink refused one
  pub refused : List FactValue

-- this header and these facts, and nothing was refused
abbrev pub handed_so : Option Header → List FactValue → Handed
handed_so header facts = record { header = header; facts = facts; refused = [] }

abbrev pub nothing_handed : Handed
nothing_handed = handed_so None []

-- ---- the sink that lists

abbrev pub begins : Handed → Header → Handed → Type 0
begins old header new = new ≡ record old { header = Some header }

abbrev pub steps : Handed → FactValue → Handed → Type 0
steps old fact new = new ≡ record old { facts = old.facts ++ fact ∷ [] }

-- with any fault
abbrev pub refuses : Handed → List FactValue → SinkFault → Handed → Type 0
refuses old given fault new = new ≡ record old { refused = given }

-- it is only asked where it has refused
abbrev pub failed : Handed → Bool
failed handed = true

-- ---- faults

-- a fault of the bytes, the source or the limits, and not of memory or the sink
abbrev pub is_of_input : PartFault → Bool
is_of_input (faults.Malformed at reason) = true
is_of_input (faults.ItemTooLong at) = true
is_of_input faults.OutOfMemory = false
is_of_input (faults.Sink fault) = false
is_of_input faults.Failed = false
is_of_input faults.Read = true
is_of_input faults.ReadsExceeded = true
is_of_input faults.BytesExceeded = true

-- it was handed what comes before that item, and refused the item
pub record IsUpTo {longest : ℕ} {bytes : List ℕ} {told : Option Header} (whole : BeginsWhole longest bytes told) (handed : Handed)
    : Type 0 where
  pub has_header : handed.header ≡ header_before whole.before
  pub has_facts : handed.facts ≡ all_facts whole.items
  pub has_refused : handed.refused ≡ whole.last.facts
