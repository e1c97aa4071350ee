-- What the fields of a record and the bytes behind them say of the fact that it states.
use Rattle.std.specs.Prelude.{ℕ, List, ◌≡◌, Some}
use Rattle.hprof_values.specs.declared.ids.IdSize.{IdSize}
use Rattle.hprof_values.specs.declared.number_writing.Number.{Number}
use Rattle.hprof_values.specs.declared.record_tag.RecordTag.{RecordTag}
use Rattle.hprof_values.specs.Numbers.{number_widths, number_values}
use Rattle.hprof_values.specs.RecordTag.{record_fields}
use Rattle.hprof_items.specs.declared.fact.Fact.{Fact}
use Rattle.hprof_items.specs.FactValue.{value_of, ListsHave}
use Rattle.hprof_items.specs.RecordBody.{record_of, record_numbers, record_rest, RestFits}

-- they are those of the fact's body, whose lists have that size; whether the fields are in their ranges is left open
pub record IsRecordFront (ids : IdSize) (fact : Fact) (tag : RecordTag) (fields : List Number) (more : List ℕ) : Type 0 where
  pub is : record_of (value_of fact) ≡ Some tag
  pub widths : number_widths ids fields ≡ record_fields ids tag
  pub numbers : number_values fields ≡ record_numbers (value_of fact)
  pub behind : more ≡ record_rest ids (value_of fact)
  pub rest : RestFits ids (value_of fact)
  pub lists : ListsHave ids fact
