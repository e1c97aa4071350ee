-- How far into a part reading has come.
use Rattle.std.specs.Prelude.{◌≡◌, ℕ, ◌+◌, ◌-◌, ◌^◌, ◌<◌, ◌≤◌, true, false, Some, None}
use Rattle.hprof_items.specs.declared.header.Header.{Header}
use Rattle.hprof_stream.specs.declared.limits.Limits.{Limits}
use Rattle.hprof_stream.specs.ItemValue.{ItemValue}
use Rattle.hprof_stream.specs.ItemValue as items
use Rattle.hprof_stream.specs.declared.progress.Progress.{Progress}
use Rattle.hprof_stream.specs.Item.{Place, place_behind}

-- nothing was read
abbrev pub start_of : Limits → Progress
start_of limits = record { limits = limits; header = None; room = 0; at = 0; records = 0; facts = 0; ended = false }

-- the place of the next item
abbrev pub place_of : Progress → Place
place_of progress = place_behind progress.header progress.room

-- the next item stands within no heap dump
abbrev pub IsOutside : Progress → Type 0
IsOutside progress = (header : Header) → progress.header ≡ Some header → progress.room ≡ 0

-- there is room for so many more bytes; each record, and each fact, has a byte
pub record IsCounted (progress : Progress) (more : ℕ) : Type 0 where
  pub limit : progress.limits.max_bytes < 2 ^ 64
  pub room : progress.at + more ≤ progress.limits.max_bytes
  pub records : progress.records ≤ progress.at
  pub facts : progress.facts ≤ progress.at

-- an item of so many bytes can come next: each has one, and a sub-record no more than its record has left
abbrev pub IsNext : Progress → ItemValue → ℕ → Type 0
IsNext progress (items.Sub fact) len = (0 < len) × (len ≤ progress.room)
IsNext progress item len = 0 < len

-- behind an item of so many bytes
abbrev pub advanced : Progress → ItemValue → ℕ → Progress
advanced progress (items.Header header) len = record progress { header = Some header; at = progress.at + len; room = 0 }
advanced progress (items.Fact fact) len = record progress {
  at = progress.at + len;
  records = progress.records + 1;
  facts =
      progress.facts + 1;
}
advanced progress (items.Dump room) len = record progress { at = progress.at + len; records = progress.records + 1; room = room }
advanced progress items.End len = record progress { at = progress.at + len; records = progress.records + 1; ended = true }
advanced progress items.Skipped len = record progress { at = progress.at + len; records = progress.records + 1 }
advanced progress (items.Sub fact) len = record progress { at = progress.at + len; facts = progress.facts + 1; room = progress.room - len }
