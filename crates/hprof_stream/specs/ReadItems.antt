-- How far reading has come behind some items.
use Rattle.std.specs.Prelude.{◌≡◌, ◌||◌, ℕ, ◌+◌, List, [], ◌∷◌, length}
use Rattle.std.specs.List.{list_any}
use Rattle.hprof_stream.specs.ItemValue.{ItemValue}
use Rattle.hprof_stream.specs.declared.progress.Progress.{Progress}
use Rattle.hprof_stream.specs.Part.{Stated, all_bytes, all_facts, is_end}
use Rattle.hprof_stream.specs.Item.{IsItem, AreItems, records_begun}
use Rattle.hprof_stream.specs.ItemStep.{facts_stated, place_after, Stands, is_end_item}
use Rattle.hprof_stream.specs.Progress.{place_of, advanced}

-- the item of these bytes and facts that comes next was read as this one
pub record IsReadAs (longest : ℕ) (from : Progress) (one : Stated) (item : ItemValue) : Type 0 where
  pub is : IsItem longest (place_of from) one (place_after (place_of from) item (length one.bytes))
  pub has_facts : one.facts ≡ facts_stated item
  pub stands : Stands (place_of from) item
  pub ends : is_end_item item ≡ is_end one

-- one item after the other was read, from one progress to another
pub data ReadsItems (longest : ℕ) : Progress → List Stated → Progress → Type 0 where
  none : {progress : Progress} → ReadsItems longest progress [] progress
  more : {from to : Progress} {one : Stated} {items : List Stated} {item : ItemValue} → IsReadAs longest from one item
      → ReadsItems longest (advanced from item (length one.bytes)) items to → ReadsItems longest from (one ∷ items) to

-- the second progress is behind the first by these items, their bytes, the records that they begin and their facts, and tells
-- whether one of them ends a heap dump
pub record CountsItems (longest : ℕ) (from : Progress) (items : List Stated) (to : Progress) : Type 0 where
  pub each : AreItems longest (place_of from) items (place_of to)
  pub same_limits : to.limits ≡ from.limits
  pub offset : to.at ≡ from.at + length (all_bytes items)
  pub record_count : to.records ≡ from.records + records_begun each
  pub fact_count : to.facts ≡ from.facts + length (all_facts items)
  pub has_end : to.ended ≡ (from.ended || list_any is_end items)
