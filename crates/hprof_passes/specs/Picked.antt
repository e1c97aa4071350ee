-- Objects whose identifiers are wanted.
use Rattle.std.specs.Prelude.{◌==◌, ℕ, Bool, false, List, Option, Some, None}
use Rattle.std.specs.List.{filter, list_any}
use Rattle.std.specs.List.Sorted.{IsStrictlyIncreasing}
use Rattle.std.proofs.Props.{props}
use Rattle.hprof_items.specs.FactValue.{FactValue, Instance, ObjArray, PrimArray}

-- the identifier of an instance or an array
abbrev pub object_of : FactValue → Option ℕ
object_of (Instance id trace class bytes) = Some id
object_of (ObjArray id trace class elements) = Some id
object_of (PrimArray id trace elem bytes) = Some id
object_of fact = None

-- whether the identifier, if there is one, is one of these
abbrev pub is_one_of : List ℕ → Option ℕ → Bool
is_one_of wanted (Some id) = list_any (λ other. other == id) wanted
is_one_of wanted None = false

-- whether the fact is an object whose identifier is wanted
abbrev pub is_wanted : List ℕ → FactValue → Bool
is_wanted wanted fact = is_one_of wanted (object_of fact)

-- those of the objects whose identifiers are wanted, in their order
abbrev pub picked : List ℕ → List FactValue → List FactValue
picked wanted objects = filter (is_wanted wanted) objects

-- that identifiers ascend strictly has at most one proof
pub ascends-prop : (wanted : List ℕ) → IsProp (IsStrictlyIncreasing wanted)
ascends-prop wanted = hlevel props
