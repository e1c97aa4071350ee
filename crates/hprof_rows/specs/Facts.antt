-- Lists of facts as sets.
use Rattle.std.specs.Prelude.{◌≡◌, ◌⊎◌, ◌↔◌, List, [], ◌∷◌}
use Rattle.hprof_values.specs.declared.ids.IdSize.{IdSize}
use Rattle.hprof_items.specs.FactValue.{FactValue}
use Rattle.hprof_items.specs.Spelling.{Fits}

-- the fact is one of these
abbrev pub Has : List FactValue → FactValue → Type 0
Has [] fact = ⊥
Has (first ∷ facts) fact = (fact ≡ first) ⊎ Has facts fact

-- the same facts, in whatever order and however often
abbrev pub SameFacts : List FactValue → List FactValue → Type 0
SameFacts facts others = (fact : FactValue) → Has facts fact ↔ Has others fact

-- each of the facts has a spelling
abbrev pub AllFit : IdSize → List FactValue → Type 0
AllFit ids facts = (fact : FactValue) → Has facts fact → Fits ids fact
