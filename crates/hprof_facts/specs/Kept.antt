-- How a queue keeps facts: the numbers of each in a slot, and the bytes behind them in one buffer.
use Rattle.std.specs.Prelude.{◌≡◌, ℕ, ◌+◌, ◌%◌, ◌≤◌, List, [], ◌∷◌, length, take, drop, Option, Some, None}
use Rattle.hprof_values.specs.declared.ids.IdSize.{IdSize}
use Rattle.hprof_values.specs.Ids.{width_of}
use Rattle.hprof_values.specs.Lists.{ids_in}
use Rattle.hprof_items.specs.FactValue.{FactValue, Name, Load, Unload, Frame, Trace, Start, End}
use Rattle.hprof_rows.specs.Spelled.{Spells}
use Rattle.hprof_facts.specs.declared.kept.Form.{Form}
use Rattle.hprof_facts.specs.declared.kept.Form.TheVariants as forms
use Rattle.hprof_facts.specs.declared.kept.Slot.{Slot}
use Rattle.hprof_facts.specs.ObjectKeys.{object_key}

-- these numbers and bytes are what is kept of the fact
abbrev pub Keeps : IdSize → Form → List ℕ → FactValue → Type 0
Keeps ids (forms.Name id) bytes fact = fact ≡ Name id bytes
Keeps ids (forms.Load serial class trace name) bytes fact = fact ≡ Load serial class trace name
Keeps ids (forms.Unload serial) bytes fact = fact ≡ Unload serial
Keeps ids (forms.Frame id method signature source class_serial line) bytes fact =
    fact ≡ Frame id method signature source class_serial line
Keeps ids (forms.Trace serial thread) bytes fact = (length bytes % width_of ids ≡ 0) × (fact ≡ Trace serial thread (ids_in ids bytes))
Keeps ids (forms.Start thread object trace name group parent_group) bytes fact =
    fact ≡ Start thread object trace name group parent_group
Keeps ids (forms.End thread) bytes fact = fact ≡ End thread
Keeps ids (forms.Object id) bytes fact = Spells ids fact bytes × (object_key fact ≡ Some id)
Keeps ids forms.Spelled bytes fact = Spells ids fact bytes × (object_key fact ≡ None)

-- a slot of a queue with these bytes keeps the fact
pub record KeepsAt (ids : IdSize) (bytes : List ℕ) (slot : Slot) (fact : FactValue) : Type 0 where
  pub within : slot.at + slot.len ≤ length bytes
  pub keeps : Keeps ids slot.form (take slot.len (drop slot.at bytes)) fact

-- the slots keep the facts, one each
abbrev pub AreKept : IdSize → List ℕ → List Slot → List FactValue → Type 0
AreKept ids bytes [] [] = Unit {0}
AreKept ids bytes (slot ∷ slots) (fact ∷ facts) = KeepsAt ids bytes slot fact × AreKept ids bytes slots facts
AreKept ids bytes _ _ = ⊥

-- the same under the size that was begun; with none there are no facts
abbrev pub AreKeptUnder : Option IdSize → List ℕ → List Slot → List FactValue → Type 0
AreKeptUnder None bytes slots facts = (slots ≡ []) × (facts ≡ [])
AreKeptUnder (Some ids) bytes slots facts = AreKept ids bytes slots facts
