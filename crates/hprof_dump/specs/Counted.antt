-- How the sub-records that are still to come are divided among segments.
use Rattle.std.specs.Prelude.{◌≡◌, ◌≤◌, ℕ, List, [], ◌∷◌, ◌++◌, length, Option, Some, None}
use Rattle.std.specs.List.{flat_map}
use Rattle.hprof_values.specs.declared.ids.IdSize.{IdSize}
use Rattle.hprof_items.specs.FactValue.{FactValue}
use Rattle.hprof_items.specs.Spelling.{longest_body}
use Rattle.hprof_items.specs.SubRecord.{dump_bytes}
use Rattle.hprof_rows.specs.declared.sub_row.SubRow.{SubRow}
use Rattle.hprof_rows.specs.SubRow.{sub_fact}
use Rattle.hprof_dump.specs.Dump.{segments_of}

-- one that was taken, and those behind it; where none was taken, none is left
abbrev pub with_taken : IdSize → Option SubRow → List FactValue → List FactValue
with_taken ids None left = []
with_taken ids (Some taken) left = sub_fact ids taken ∷ left

-- the first segment of the sub-records has so many of them, one or more, and so many bytes; the others are the rest
pub record IsFirstSegment (ids : IdSize) (subs : List FactValue) (count len : ℕ) (rest : List FactValue) : Type 0 where
  pub segment : List FactValue
  pub parts : subs ≡ segment ++ rest
  pub first : segments_of ids subs ≡ segment ∷ segments_of ids rest
  pub has_count : count ≡ length segment
  pub some : 1 ≤ count
  pub has_len : len ≡ length (flat_map (dump_bytes ids) segment)
  pub short : len ≤ longest_body
