-- What the fields of a sub-record and the bytes behind them say of the fact that it states.
use Rattle.std.specs.Prelude.{ℕ, List, ◌≡◌, ◌↔◌, None, ⊤}
use Rattle.hprof_values.specs.declared.ids.IdSize.{IdSize}
use Rattle.hprof_values.specs.declared.number_writing.Number.{Number}
use Rattle.hprof_values.specs.declared.sub_tag.SubTag.{SubTag}
use Rattle.hprof_values.specs.FieldGroups.{FitFields}
use Rattle.hprof_values.specs.Numbers.{number_widths, number_values}
use Rattle.hprof_items.specs.declared.fact.Fact.{Fact}
use Rattle.hprof_items.specs.FactValue.{FactValue, Rooted, Instance, ObjArray, PrimArray, value_of, ListsHave}
use Rattle.hprof_items.specs.RecordBody.{record_of}
use Rattle.hprof_items.specs.SubRecord.{tagged_bytes, dump_bytes, DumpFits}

-- a fact whose sub-record is a group of fields behind its tag and at most one further field: a root, an instance, an array
abbrev pub HasSubFront : FactValue → Type 0
HasSubFront (Rooted root) = ⊤
HasSubFront (Instance id trace class bytes) = ⊤
HasSubFront (ObjArray id trace class elements) = ⊤
HasSubFront (PrimArray id trace elem bytes) = ⊤
HasSubFront _ = ⊥

-- they spell the fact, whose lists have that size; it fits as soon as the fields are in their ranges
pub record IsSubFront (ids : IdSize) (fact : Fact) (tag : SubTag) (fields : List Number) (more : List ℕ) : Type 0 where
  pub is : record_of (value_of fact) ≡ None
  pub spelled : dump_bytes ids (value_of fact) ≡ tagged_bytes tag (number_widths ids fields) (number_values fields) more
  pub fits : FitFields (number_widths ids fields) (number_values fields) ↔ DumpFits ids (value_of fact)
  pub lists : ListsHave ids fact
