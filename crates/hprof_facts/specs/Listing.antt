-- A sink that lists the facts that it is given. What a reader that is pulled gives is what such a sink takes.
use Rattle.std.specs.Prelude.{◌≡◌, Bool, true, List, [], ◌∷◌, ◌++◌}
use Rattle.hprof_items.specs.declared.header.Header.{Header}
use Rattle.hprof_items.specs.FactValue.{FactValue}
use Rattle.hprof_stream.specs.declared.sink.SinkFault.{SinkFault}
use Rattle.hprof_stream.specs.declared.sink.SinkFault.TheVariants.{OutOfMemory}

-- a header adds nothing
abbrev pub begins : List FactValue → Header → List FactValue → Type 0
begins old header new = new ≡ old

abbrev pub steps : List FactValue → FactValue → List FactValue → Type 0
steps old fact new = new ≡ old ++ fact ∷ []

-- only memory can be wanting
abbrev pub refuses : List FactValue → List FactValue → SinkFault → List FactValue → Type 0
refuses old given fault new = (fault ≡ OutOfMemory) × (new ≡ old)

-- it is only asked where it has refused
abbrev pub failed : List FactValue → Bool
failed list = true
