-- What stands at the front as one item, with the fact in hand that it states.
use Rattle.std.specs.Prelude.{ℕ, Result, Ok}
use Rattle.hprof_items.specs.declared.header.Header as headers
use Rattle.hprof_items.specs.declared.fact.Fact as facts
use Rattle.hprof_items.specs.declared.fact.Fact.TheVariants as fact_forms
use Rattle.hprof_values.specs.declared.parse_stop.ParseStop.{ParseStop}
use Rattle.hprof_values.specs.FieldGroups.{◌>>=◌}
use Rattle.hprof_stream.specs.declared.item.Item.{Item}
use Rattle.hprof_stream.specs.declared.item.Item.TheVariants as kinds

pub data ItemValue : Type 0 where
  -- the header
  Header : headers.Header → ItemValue
  -- a record that states a fact
  Fact : facts.Fact → ItemValue
  -- the head of a heap dump, with the number of bytes of its sub-records
  Dump : (len : ℕ) → ItemValue
  -- the end of a heap dump
  End : ItemValue
  -- a record that is passed over
  Skipped : ItemValue
  -- a sub-record
  Sub : facts.Fact → ItemValue

-- an item with the fact that was read beside it
abbrev pub with_fact : Item → facts.Fact → ItemValue
with_fact (kinds.Header header) fact = Header header
with_fact kinds.Fact fact = Fact fact
with_fact (kinds.Dump len) fact = Dump len
with_fact kinds.End fact = End
with_fact kinds.Skipped fact = Skipped

-- an item apart from the fact that it states
abbrev pub bare : Item → ItemValue
bare item = with_fact item (fact_forms.End 0)

-- what was read, with the fact that was read beside it
abbrev pub read_with : Result (Item × ℕ) ParseStop → facts.Fact → Result (ItemValue × ℕ) ParseStop
read_with read fact = read >>= λ (item, n). Ok (with_fact item fact, n)
