-- A sink of objects over another one, which is given those that are wanted.
use Rattle.std.specs.Prelude.{◌≡◌, ℕ, true, List, [], ◌∷◌}
use Rattle.std.specs.Borrow.{MutBor}
use Rattle.hprof_values.specs.declared.ids.IdSize.{IdSize}
use Rattle.hprof_items.specs.FactValue.{FactValue}
use Rattle.hprof_passes.specs.declared.picking.Picking.{Picking}
use Rattle.hprof_passes.specs.Passing.{TakesObjects}
use Rattle.hprof_passes.specs.Picked.{is_wanted, picked}

-- the sink under it
abbrev pub sink_under : {T : Type 0} → Picking T → T
sink_under it = it.sink.now

-- the identifiers that are wanted
abbrev pub wanted_by : {T : Type 0} → Picking T → List ℕ
wanted_by it = it.wanted.now

-- it gives the objects with these identifiers to this sink
abbrev pub PicksInto : {T : Type 0} → Picking T → List ℕ → MutBor T → Type 0
PicksInto it wanted sink = (wanted_by it ≡ wanted) × (it.sink.ghost_name ≡ sink.ghost_name)

-- both give the same objects to the same sink
abbrev pub PickAlike : {T : Type 0} → Picking T → Picking T → Type 0
PickAlike old new = PicksInto new (wanted_by old) old.sink

-- the sink under it took the object if it is wanted, and is as it was if not
pub record PicksObject {T : Type 0} (takes : T → IdSize → FactValue → T → Type 0) (old : Picking T) (ids : IdSize) (object : FactValue)
    (new : Picking T) : Type 0 where
  pub alike : PickAlike old new
  pub took : TakesObjects takes ids (sink_under old) (picked (wanted_by old) (object ∷ [])) (sink_under new)

-- the object is wanted, and the sink under it refused it
pub record RefusesPicked {T E : Type 0} (refuses : T → IdSize → FactValue → E → T → Type 0) (old : Picking T) (ids : IdSize)
    (object : FactValue) (fault : E) (new : Picking T) : Type 0 where
  pub alike : PickAlike old new
  pub wanted : is_wanted (wanted_by old) object ≡ true
  pub refused : refuses (sink_under old) ids object fault (sink_under new)
