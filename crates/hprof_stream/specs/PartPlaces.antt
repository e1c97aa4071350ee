-- Places of a part at which reading can begin again.
use Rattle.std.specs.Prelude.{◌≡◌, ℕ, ◌≤◌, List, length, Option}
use Rattle.std.specs.List.{list_any}
use Rattle.hprof_items.specs.declared.header.Header.{Header}
use Rattle.hprof_items.specs.FactValue.{FactValue}
use Rattle.hprof_stream.specs.declared.limits.Limits.{Limits}
use Rattle.hprof_stream.specs.declared.part_place.PartPlace.{PartPlace}
use Rattle.hprof_stream.specs.declared.progress.Progress.{Progress}
use Rattle.hprof_stream.specs.Part.{Stated, all_bytes, all_facts, is_end}
use Rattle.hprof_stream.specs.Item.{AreItems, Start, records_begun}
use Rattle.hprof_stream.specs.Progress.{place_of}

-- the header that was read before the place
abbrev pub header_at : PartPlace → Option Header
header_at place = place.progress.header

-- reading has come behind these bytes, which are whole and right items and state these facts
pub record IsBehind (limits : Limits) (bytes : List ℕ) (facts : List FactValue) (progress : Progress) : Type 0 where
  pub has_limits : progress.limits ≡ limits
  pub within : length bytes ≤ limits.max_bytes
  pub items : List Stated
  pub each : AreItems limits.max_item Start items (place_of progress)
  pub parts : bytes ≡ all_bytes items
  pub has_facts : all_facts items ≡ facts
  pub offset : progress.at ≡ length bytes
  pub record_count : progress.records ≡ records_begun each
  pub fact_count : progress.facts ≡ length facts
  pub has_end : progress.ended ≡ list_any is_end items

-- the place is behind these bytes
abbrev pub IsPlaceBehind : Limits → List ℕ → List FactValue → PartPlace → Type 0
IsPlaceBehind limits bytes facts place = IsBehind limits bytes facts place.progress
