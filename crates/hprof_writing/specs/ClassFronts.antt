-- What the fields of a class's sub-record and the lists behind them say of the fact that it states.
use Rattle.std.specs.Prelude.{ℕ, List, ◌∷◌, ◌++◌, ◌≡◌, ◌↔◌, None}
use Rattle.byteorder.specs.Endian.{big_bytes}
use Rattle.hprof_values.specs.declared.ids.IdSize.{IdSize}
use Rattle.hprof_values.specs.declared.number_writing.Number.{Number}
use Rattle.hprof_values.specs.FieldGroups.{field_bytes, FitFields}
use Rattle.hprof_values.specs.Numbers.{number_widths, number_values}
use Rattle.hprof_items.specs.declared.fact.Fact.{Fact}
use Rattle.hprof_items.specs.FactValue.{value_of, ListsHave}
use Rattle.hprof_items.specs.ClassDump.{class_widths}
use Rattle.hprof_items.specs.RecordBody.{record_of}
use Rattle.hprof_items.specs.Spelling.{Fits}
use Rattle.hprof_items.specs.SubRecord.{dump_bytes}

-- a list behind the number of its entries
abbrev pub counted : ℕ → List ℕ → List ℕ
counted count bytes = big_bytes 2 count ++ bytes

-- they spell the fact, whose lists have that size; it fits as soon as the fields, of which the first is the tag, are in
-- their ranges
pub record IsClassFront (ids : IdSize) (fact : Fact) (fields : List Number) (constants statics own : List ℕ) : Type 0 where
  pub is : record_of (value_of fact) ≡ None
  pub widths : number_widths ids fields ≡ 1 ∷ class_widths ids
  pub spelled : dump_bytes ids (value_of fact) ≡ field_bytes (number_widths ids fields) (number_values fields)
      ++ (constants ++ (statics ++ own))
  pub fits : FitFields (number_widths ids fields) (number_values fields) ↔ Fits ids (value_of fact)
  pub lists : ListsHave ids fact
