-- Whether there is room for the growing stretch among those that stay.
use Rattle.std.specs.Prelude.{ℕ, ◌<◌, Option, Some, None, ⊤}
use Rattle.hprof_objects.specs.declared.growing.Growing.{Growing}
use Rattle.hprof_objects.specs.declared.growing.Stands.{Stands}
use Rattle.hprof_objects.specs.declared.growing.Stands.TheVariants.{InMemory, InPart}
use Rattle.std.specs.Coded.{Unit-prop}
use Rattle.std.proofs.Props.{props}

-- one that stays has room
abbrev pub HasRoom : Stands → ℕ → ℕ → Type 0
HasRoom (InMemory from) count room = ⊤
HasRoom InPart count room = count < room

abbrev pub IsReserved : Option Growing → ℕ → ℕ → Type 0
IsReserved None count room = ⊤
IsReserved (Some growing) count room = HasRoom growing.stands count room

-- each has at most one proof
HasRoom-prop : (stands : Stands) (count room : ℕ) → IsProp (HasRoom stands count room)
HasRoom-prop (InMemory from) count room = Unit-prop
HasRoom-prop InPart count room = hlevel props

pub IsReserved-prop : (growing : Option Growing) (count room : ℕ) → IsProp (IsReserved growing count room)
IsReserved-prop None count room = Unit-prop
IsReserved-prop (Some growing) count room = HasRoom-prop growing.stands count room
