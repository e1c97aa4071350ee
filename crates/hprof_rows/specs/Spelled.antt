-- What spells a sub-record.
use Rattle.std.specs.Prelude.{◌≡◌, ◌≤◌, ℕ, List, length}
use Rattle.hprof_values.specs.declared.ids.IdSize.{IdSize}
use Rattle.hprof_items.specs.FactValue.{FactValue}
use Rattle.hprof_items.specs.Spelling.{longest_body}
use Rattle.hprof_items.specs.SubRecord.{DumpFits, dump_bytes}

-- the bytes are the spelling of the sub-record that states this fact, which has one
pub record Spells (ids : IdSize) (fact : FactValue) (bytes : List ℕ) : Type 0 where
  pub fits : DumpFits ids fact
  pub spelled : bytes ≡ dump_bytes ids fact
  pub short : length bytes ≤ longest_body
