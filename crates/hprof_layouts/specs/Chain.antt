-- The chain of superclasses: a class, its superclass, and so on.
use Rattle.std.specs.Prelude.{◌≡◌, ◌≢◌, ℕ, List, [], ◌∷◌}
use Rattle.hprof_items.specs.FactValue.{FactValue}
use Rattle.hprof_heap.specs.Classes.{ClassValue, HasDump}

-- from the class on, the dumps of it, of its superclass, and so on, come to that identifier; 0 is no class, and the chain ends there
abbrev pub IsChain : List FactValue → ℕ → List ClassValue → ℕ → Type 0
IsChain facts class [] end = class ≡ end
IsChain facts class (dump ∷ dumps) end = (class ≢ 0) × (dump.id ≡ class) × HasDump facts dump × IsChain facts dump.parent dumps end
