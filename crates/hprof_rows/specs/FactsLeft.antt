-- What an iterator over the facts of a table shows.
use Rattle.std.specs.Prelude.{◌≡◌, List, Option, IfSome}
use Rattle.std.specs.Iterator.{YieldsFirstBy}
use Rattle.hprof_values.specs.declared.ids.IdSize.{IdSize}
use Rattle.hprof_items.specs.declared.fact.Fact.{Fact}
use Rattle.hprof_items.specs.FactValue.{FactValue, ListsHave, value_of}
use Rattle.hprof_rows.specs.declared.facts.Facts.{Facts}
use Rattle.hprof_rows.specs.TableRows.{facts_in_rows}

-- the facts that are still to come
abbrev pub facts_left : Facts → List FactValue
facts_left facts = facts_in_rows facts.ids facts.rows

-- the size of identifiers in their lists
abbrev pub facts_ids : Facts → IdSize
facts_ids facts = facts.ids

-- the first of them is yielded, and its lists have identifiers of the size
abbrev pub YieldsFact : Facts → Option Fact → Facts → Type 0
YieldsFact old result new =
    YieldsFirstBy value_of facts_left old result new × IfSome result (ListsHave (facts_ids old)) × (facts_ids new ≡ facts_ids old)
