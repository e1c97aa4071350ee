-- How many facts of each form were given.
use Rattle.std.specs.Prelude.{◌≡◌, ◌==◌, ℕ, Option, ◌-◌, ◌^◌, ◌<◌, min, List, ◌∷◌, [], ◌++◌, length, slice_index}
use Rattle.std.specs.List.{count_by}
use Rattle.hprof_items.specs.FactValue.{FactValue, Name, Load, Unload, Frame, Trace, Start, End, Rooted, Class, Instance, ObjArray}
use Rattle.hprof_items.specs.FactValue.{PrimArray}
use Rattle.hprof_values.specs.declared.ids.IdSize.{IdSize}
use Rattle.hprof_stream.specs.declared.tally.Tally.{Tally}

-- the place of a fact's form among the twelve
abbrev pub form_of : FactValue → ℕ
form_of (Name id text) = 0
form_of (Load serial class trace name) = 1
form_of (Unload serial) = 2
form_of (Frame id method signature source class_serial line) = 3
form_of (Trace serial thread frames) = 4
form_of (Start thread object trace name group parent_group) = 5
form_of (End thread) = 6
form_of (Rooted root) = 7
form_of (Class id trace parent loader signers domain reserved1 reserved2 size constants statics fields) = 8
form_of (Instance id trace class bytes) = 9
form_of (ObjArray id trace class elements) = 10
form_of (PrimArray id trace elem bytes) = 11

-- for each form, how many of the facts have it, stopped at the greatest number
pub record Counts (facts : List FactValue) (counts : List ℕ) : Type 0 where
  pub forms : length counts ≡ 12
  pub each : (form : ℕ) → form < 12 → slice_index counts form ≡ min (count_by (λ fact. form_of fact == form) facts) (2 ^ 64 - 1)

-- it was given these facts since it was made
abbrev pub HasCounted : Tally → List FactValue → Type 0
HasCounted tally facts = Counts facts tally.counts

-- one more fact was counted
abbrev pub CountsOne : Tally → FactValue → Tally → Type 0
CountsOne old fact new = (facts : List FactValue) → HasCounted old facts → HasCounted new (facts ++ fact ∷ [])

-- the size that was begun last
abbrev pub begun_with : Tally → Option IdSize
begun_with tally = tally.begun
