-- What is kept of each label.
use Rattle.std.specs.Prelude.{◌≡◌, ℕ, List, Bool, unwrap_or, is_some, map, string_bytes}
use Rattle.std.specs.BTreeMap.{get_by_text, keys}
use Rattle.hprof_items.specs.FactValue.{FactValue}
use Rattle.hprof_diff.specs.declared.counted.Counted.{Counted}
use Rattle.hprof_diff.specs.declared.label_count.LabelCount.{LabelCount}
use Rattle.hprof_diff.specs.declared.label_count.LabelSource.{LabelSource}
use Rattle.hprof_diff.specs.declared.label_counts.LabelCounts.{LabelCounts}
use Rattle.hprof_diff.specs.Counts.{Totals}
use Rattle.hprof_diff.specs.Sources.{AreSourceLabels, nothing, parts_under}

-- the objects of a label, none where it is not kept
abbrev pub kept_in : LabelCounts → List ℕ → Counted
kept_in counts text = unwrap_or (get_by_text counts.labels text) nothing

-- what is kept, as totals
abbrev pub totals_in : LabelCounts → Totals
totals_in counts = record { count = λ text. (kept_in counts text).count; bytes = λ text. (kept_in counts text).bytes }

-- whether the label is kept
abbrev pub has_label : LabelCounts → List ℕ → Bool
has_label counts text = is_some (get_by_text counts.labels text)

-- the labels that are kept
abbrev pub labels_in : LabelCounts → List (List ℕ)
labels_in counts = map string_bytes (keys counts.labels)

-- the objects of the parts are kept under their labels
abbrev pub AreKept : List FactValue → List LabelCount → LabelCounts → Type 0
AreKept facts parts counts = (label : LabelSource → List ℕ) → AreSourceLabels facts label → (text : List ℕ)
    → kept_in counts text ≡ parts_under label text parts
