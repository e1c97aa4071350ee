-- A sink of rows over another one, which is given the wanted rows.
use Rattle.std.specs.Prelude.{◌≡◌, ◌≤◌, ℕ, Bool, true, false, List}
use Rattle.std.specs.Borrow.{MutBor}
use Rattle.hprof_objects.specs.declared.picking_sink.PickingSink.{PickingSink}
use Rattle.hprof_objects.specs.Wanted.{Rises, is_among}

-- the sink under it
abbrev pub sink_under : {T : Type 0} → PickingSink T → T
sink_under it = it.sink.now

-- the keys that are wanted still
abbrev pub wanted_under : {T : Type 0} → PickingSink T → List ℕ
wanted_under it = it.wanted.now

-- it gives rows to this sink
abbrev pub IsOver : {T : Type 0} → PickingSink T → MutBor T → Type 0
IsOver it sink = it.sink.ghost_name ≡ sink.ghost_name

-- what is wanted ascends, and the sink under it may be called
abbrev pub IsWell : {T : Type 0} → (T → Type 0) → PickingSink T → Type 0
IsWell well it = Rises (wanted_under it) × well (sink_under it)

-- if the row is wanted, the sink took it; if not, it is unchanged
abbrev pub TakesIf : {T : Type 0} → (T → ℕ → List ℕ → T → Type 0) → Bool → T → ℕ → List ℕ → T → Type 0
TakesIf steps true old key bytes new = steps old key bytes new
TakesIf steps false old key bytes new = old ≡ new

-- the sink under it took the row if it is wanted; from its key on the same keys are wanted
pub record PicksRow {T : Type 0} (steps : T → ℕ → List ℕ → T → Type 0) (old : PickingSink T) (key : ℕ) (bytes : List ℕ)
    (new : PickingSink T) : Type 0 where
  pub over : IsOver new old.sink
  pub same : (id : ℕ) → key ≤ id → is_among (wanted_under new) id ≡ is_among (wanted_under old) id
  pub took : TakesIf steps (is_among (wanted_under old) key) (sink_under old) key bytes (sink_under new)

-- the row is wanted, and the sink under it refused it
pub record RefusesPicked {T G : Type 0} (refuses : T → ℕ → List ℕ → G → T → Type 0) (old : PickingSink T) (key : ℕ) (bytes : List ℕ)
    (fault : G) (new : PickingSink T) : Type 0 where
  pub over : IsOver new old.sink
  pub wanted : is_among (wanted_under old) key ≡ true
  pub refused : refuses (sink_under old) key bytes fault (sink_under new)
