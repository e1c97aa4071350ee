-- What is told of a distance and a path is the report.
use Rattle.std.proofs.Common.{ℕ, List, Option, refl}
use Rattle.hprof_values.specs.declared.ids.IdSize.{IdSize}
use Rattle.hprof_items.specs.FactValue.{FactValue}
use Rattle.hprof_reach.specs.Reaching.{IsDistanceFromRoots, IsPathFromRoots}
use Rattle.hprof_reports.specs.PathText.{IsPathText, reached_text}

pub told : (ids : IdSize) (facts : List FactValue) (id : ℕ) (distance : Option ℕ) (path : Option (List ℕ))
    → IsDistanceFromRoots ids facts id distance → IsPathFromRoots ids facts id path → IsPathText ids facts id (reached_text distance path)
told ids facts id distance path is_distance is_path = record {
  distance = distance;
  is_distance = is_distance;
  path = path;
  is_path = is_path;
  is = refl;
}
