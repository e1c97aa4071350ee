-- The report `path` is one text.
use Rattle.std.proofs.Common.{◌≡◌, ℕ, List, Option, sym, ap, ◌∙◌}
use Rattle.hprof_values.specs.declared.ids.IdSize.{IdSize}
use Rattle.hprof_items.specs.FactValue.{FactValue}
use Rattle.hprof_search.proofs.OneWalk.{one_distance, one_path}
use Rattle.hprof_reach.specs.Reaching.{IsStart, IsStep}
use Rattle.hprof_reports.specs.PathText.{IsPathText, reached_text}

pub one_path_text : (ids : IdSize) (facts : List FactValue) (id : ℕ) (one other : List ℕ) → IsPathText ids facts id one
    → IsPathText ids facts id other → one ≡ other
one_path_text ids facts id one other is is_too =
    let distance = one_distance (IsStart facts) (IsStep ids facts) id is.distance is_too.distance is.is_distance is_too.is_distance in
    let path = one_path (IsStart facts) (IsStep ids facts) id is.path is_too.path is.is_path is_too.is_path in
    is.is ∙ ap (λ (d : Option ℕ). reached_text d is.path) distance ∙ ap (reached_text is_too.distance) path ∙ sym is_too.is
