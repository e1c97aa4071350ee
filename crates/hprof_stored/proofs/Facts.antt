-- Objects and other facts, as they are taken.
use Rattle.std.proofs.Common.{◌≡◌, ◌<◌, ◌^◌, ℕ, false, List, [], ◌∷◌, length, Option, Some, None, inr, refl, sym, ap, subst, arith}
use Rattle.std.specs.Prelude.{is_some, ◌||◌}
use Rattle.hprof_values.specs.declared.ids.IdSize.{IdSize}
use Rattle.hprof_items.specs.FactValue.{FactValue, Instance, ObjArray, PrimArray}
use Rattle.hprof_items.specs.SubRecord.{dump_bytes}
use Rattle.hprof_stream.specs.declared.sink.SinkFault.{SinkFault}
use Rattle.hprof_stream.specs.declared.sink.SinkFault.TheVariants as sinks
use Rattle.hprof_stream.specs.Run.{FitsBegun, SpellsBegun}
use Rattle.hprof_heap.specs.Gathering.{Gathered, LacksRow}
use Rattle.hprof_runs.specs.declared.scratch_fault.ScratchFault.{ScratchFault}
use Rattle.hprof_facts.specs.ObjectKeys.{object_key}
use Rattle.hprof_objects.specs.ObjectRows.{object_row}
use Rattle.hprof_objects.specs.Whole.{is_object}
use Rattle.hprof_stored.specs.Storing.{HaveObject, IsStoredRefusal, TakesOther}

-- the row of an object
row_spelled : (ids : IdSize) (fact : FactValue) (id : ℕ) (spelled : List ℕ) → object_key fact ≡ Some id → spelled ≡ dump_bytes ids fact
    → object_row ids fact ≡ Some (id, spelled)
row_spelled ids (Instance id trace class bytes) key spelled is spells = cc
row_spelled ids (ObjArray id trace class elements) key spelled is spells = cc
row_spelled ids (PrimArray id trace elem bytes) key spelled is spells = cc
row_spelled ids fact key spelled is spells = absurd cc

pub row_of_object : (begun : Option IdSize) (ids : IdSize) (fact : FactValue) (id : ℕ) (spelled : List ℕ) → begun ≡ Some ids
    → object_key fact ≡ Some id → SpellsBegun begun fact spelled → object_row ids fact ≡ Some (id, spelled)
row_of_object begun ids fact id spelled is key spells =
    row_spelled ids fact id spelled key (subst (λ (b : Option IdSize). SpellsBegun b fact spelled) is spells)

-- an object has fewer bytes than a length can say
short_spelled : (ids : IdSize) (fact : FactValue) (id : ℕ) (spelled : List ℕ) → object_key fact ≡ Some id → FitsBegun (Some ids) fact
    → spelled ≡ dump_bytes ids fact → length spelled < 2 ^ 32
short_spelled ids (Instance id trace class bytes) key spelled is fits spells = omega (arith, ap length spells, fits.1)
short_spelled ids (ObjArray id trace class elements) key spelled is fits spells = omega (arith, ap length spells, fits.1)
short_spelled ids (PrimArray id trace elem bytes) key spelled is fits spells = omega (arith, ap length spells, fits.1)
short_spelled ids fact key spelled is fits spells = absurd cc

pub object_short : (begun : Option IdSize) (fact : FactValue) (id : ℕ) (spelled : List ℕ) → object_key fact ≡ Some id
    → FitsBegun begun fact → SpellsBegun begun fact spelled → length spelled < 2 ^ 32
object_short None fact id spelled key fits spells = absurd fits
object_short (Some ids) fact id spelled key fits spells = short_spelled ids fact id spelled key fits spells

-- another fact has no row
pub no_row : (ids : IdSize) (fact : FactValue) → object_key fact ≡ None → object_row ids fact ≡ None
no_row ids (Instance id trace class bytes) none = absurd cc
no_row ids (ObjArray id trace class elements) none = absurd cc
no_row ids (PrimArray id trace elem bytes) none = absurd cc
no_row ids fact none = refl

-- an object changes nothing of what was gathered, and another fact is taken
pub object_taken : (old : Gathered) (fact : FactValue) (id : ℕ) → object_key fact ≡ Some id → TakesOther (is_object fact) old fact old
object_taken old fact id key = subst (λ (k : Option ℕ). TakesOther (is_some k) old fact old) (sym key) refl

pub other_taken : (old new : Gathered) (fact : FactValue) → object_key fact ≡ None → TakesOther false old fact new
    → TakesOther (is_object fact) old fact new
other_taken old new fact key takes = subst (λ (k : Option ℕ). TakesOther (is_some k) old fact new) (sym key) takes

-- memory was wanted for an object
pub wants_object : (fact : FactValue) (id : ℕ) → object_key fact ≡ Some id → HaveObject (fact ∷ [])
wants_object fact id key = ap (λ (k : Option ℕ). is_some k || false) key

-- or for another fact
pub wants_other : (old : Gathered) (given : List FactValue) (fault : SinkFault) (full : Option ScratchFault)
    → (fault ≡ sinks.OutOfMemory) × LacksRow old given → IsStoredRefusal old given fault full
wants_other old given sinks.OutOfMemory full why = inr why.1
wants_other old given sinks.Failed full why = absurd (let same = why.0 in cc)
