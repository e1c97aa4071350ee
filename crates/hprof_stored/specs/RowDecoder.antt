-- Rows that spell objects, and a sink of rows over a sink of objects.
use Rattle.std.specs.Prelude.{◌≡◌, ℕ, List, true}
use Rattle.std.specs.Borrow.{MutBor}
use Rattle.hprof_values.specs.declared.ids.IdSize.{IdSize}
use Rattle.hprof_items.specs.FactValue.{FactValue}
use Rattle.hprof_items.specs.Spelling.{Fits}
use Rattle.hprof_items.specs.SubRecord.{dump_bytes}
use Rattle.hprof_objects.specs.Whole.{is_object}
use Rattle.hprof_stored.specs.declared.row_decoder.RowDecoder.{RowDecoder}
use Rattle.hprof_stored.specs.declared.row_decoder.RowRefusal.{RowRefusal}
use Rattle.hprof_stored.specs.declared.row_decoder.RowRefusal.TheVariants.{NoObject, Sink}

-- the bytes are the sub-record of this object, which has a spelling
pub record SpellsObject (ids : IdSize) (bytes : List ℕ) (object : FactValue) : Type 0 where
  pub fits : Fits ids object
  pub is : is_object object ≡ true
  pub spelled : bytes ≡ dump_bytes ids object

-- the sink of objects under it
abbrev pub sink_under : {T : Type 0} → RowDecoder T → T
sink_under it = it.sink.now

-- it gives objects with identifiers of this size to this sink
abbrev pub IsOver : {T : Type 0} → RowDecoder T → IdSize → MutBor T → Type 0
IsOver it ids sink = (it.ids ≡ ids) × (it.sink.ghost_name ≡ sink.ghost_name)

-- both give the same objects to the same sink
abbrev pub AreOverSame : {T : Type 0} → RowDecoder T → RowDecoder T → Type 0
AreOverSame old new = IsOver new old.ids old.sink

-- the sink under it took the object that the bytes spell
pub record GivesObject {T : Type 0} (takes : T → IdSize → FactValue → T → Type 0) (old : RowDecoder T) (key : ℕ) (bytes : List ℕ)
    (new : RowDecoder T) : Type 0 where
  pub over : AreOverSame old new
  pub object : FactValue
  pub spells : SpellsObject old.ids bytes object
  pub took : takes (sink_under old) old.ids object (sink_under new)

module _ {T E : Type 0} (refuses : T → IdSize → FactValue → E → T → Type 0) where
  -- the bytes spell no object, and the sink under it is unchanged; or that sink refused the object
  abbrev pub IsRefused : RowDecoder T → List ℕ → RowRefusal E → RowDecoder T → Type 0
  IsRefused old bytes NoObject new =
      (sink_under new ≡ sink_under old) × ((object : FactValue) → SpellsObject old.ids bytes object → ⊥)
  IsRefused old bytes (Sink fault) new =
      (object : FactValue) × SpellsObject old.ids bytes object × refuses (sink_under old) old.ids object fault (sink_under new)

  abbrev pub GivesNone : RowDecoder T → ℕ → List ℕ → RowRefusal E → RowDecoder T → Type 0
  GivesNone old key bytes refusal new = AreOverSame old new × IsRefused old bytes refusal new
