-- The size of identifiers under which facts are kept is the one that their part states.
use Rattle.std.specs.Prelude.{◌≡◌, ℕ, List, Option}
use Rattle.hprof_values.specs.declared.ids.IdSize.{IdSize}
use Rattle.hprof_items.specs.FactValue.{FactValue}
use Rattle.hprof_stream.specs.Part.{Stated, all_facts}
use Rattle.hprof_stream.specs.Item.{Place, header_before}
use Rattle.hprof_stream.specs.Fault.{Splits}
use Rattle.hprof_stream.specs.Walking.{IsBegun}

-- the bytes begin with whole and right items that state these facts, and the size that was begun is that of the header among them
pub record StatesUnder (longest : ℕ) (bytes : List ℕ) (facts : List FactValue) (begun : Option IdSize) : Type 0 where
  pub items : List Stated
  pub place : Place
  pub rest : List ℕ
  pub splits : Splits longest bytes items place rest
  pub has_facts : all_facts items ≡ facts
  pub has_size : IsBegun (header_before place) begun
