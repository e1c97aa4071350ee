-- The bytes of a run that are still to come.
use Rattle.std.specs.Prelude.{◌≡◌, ◌+◌, ◌-◌, ◌≤◌, ◌<◌, ◌++◌, ℕ, List, length, take, drop, Option, Some}
use Rattle.hprof_runs.specs.declared.run_bytes.RunBytes.{RunBytes}
use Rattle.hprof_runs.specs.declared.run_fault.RunFault.{RunFault}
use Rattle.hprof_runs.specs.RunFault.{IfDamaged}

-- those that were read already
abbrev pub held_bytes : {S : Type 0} → RunBytes S → List ℕ
held_bytes it = take (it.end - it.start) (drop it.start it.block.items)

-- the scratch that they are read from
abbrev pub scratch_under : {S : Type 0} → RunBytes S → S
scratch_under it = it.scratch.now

module _ {S : Type 0} (written : S → Option (List ℕ)) where
  -- the scratch tells its bytes, and these of the run are still to come
  pub record Brings (it : RunBytes S) (bytes : List ℕ) : Type 0 where
    pub all : List ℕ
    pub told : written it.scratch.now ≡ Some all
    pub within : it.at + it.left ≤ length all
    pub same : held_bytes it ++ take it.left (drop it.at all) ≡ bytes

  -- those that are still to come stay the same
  abbrev pub KeepsBytes : RunBytes S → RunBytes S → Type 0
  KeepsBytes old new = (bytes : List ℕ) → Brings old bytes → Brings new bytes

  -- the first of them are passed
  abbrev pub PassesBytes : ℕ → RunBytes S → RunBytes S → Type 0
  PassesBytes count old new = (bytes : List ℕ) → Brings old bytes → Brings new (drop count bytes)

  -- if it is a damage, fewer bytes are still to come, where these are told
  abbrev pub LacksBytes : ℕ → RunBytes S → RunFault → Type 0
  LacksBytes count old fault = IfDamaged fault ((bytes : List ℕ) → Brings old bytes → length bytes < count)
