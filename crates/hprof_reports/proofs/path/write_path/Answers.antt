use Rattle.std.proofs.Common.{ℕ, List, Some, None, subst}
use Rattle.std.specs.Option.{option_map}
use Rattle.std.proofs.lemmas.Result.{err_from_is_err_and}
use Rattle.hprof_search.proofs.Told.{distance_in, path_in, tells_distance, tells_path}
use Rattle.hprof_reach.specs.Reaching.{IsDistanceFromRoots, IsPathFromRoots, IsStart, IsStep}
use Rattle.hprof_reports.specs.PathText.{distance_line, nodes_text, reached_text}
use Rattle.hprof_lines.specs.Stopping.{WritesText}
use Rattle.hprof_reports.proofs.PathTold.{told}
use Rattle.hprof_lines.proofs.TextWriting.{text_stops, text_then, text_unwritten}
use Rattle.hprof_reports.proofs.path.write_path.Goals as goal
use Rattle.hprof_reports.proofs.path.write_path.Goals.{in_default-via-in-Some+in_default, in_default-via-in_default}

-- memory was wanted before the first line
pub returns-in_err-path-clause-bytes : goal.returns-in_err-path-clause-bytes
returns-in_err-path-clause-bytes g c = λ ids facts is.
    let search = c.args.reach.now.search in
    let id = c.args.id in
    let p = err_from_is_err_and c.from_residual.result c.from_residual.ensures.1 in
    let text = reached_text (distance_in search id) (path_in search id) in (
      text,
      told ids facts id (distance_in search id) (path_in search id) (tells_distance (IsStart facts) (IsStep ids facts) search is id)
          (tells_path (IsStart facts) (IsStep ids facts) search is id),
      text_unwritten c.from_residual.result (g.W.Target.written c.args.target.now) p.0 text p.1,
    )

pub returns-in_err-write_line-in-Some-Some-clause-bytes : goal.returns-in_err-write_line-in-Some-Some-clause-bytes
returns-in_err-write_line-in-Some-Some-clause-bytes g c = λ ids facts is.
    let distance = c.in-Some-Some.distance in
    let nodes = c.in-Some-Some.nodes.items in
    let r = c.from_residual-in_err-write_line-in-Some-Some in
    let p = err_from_is_err_and r.result r.ensures.1 in (
      reached_text (Some distance) (Some nodes),
      told ids facts c.args.id (Some distance) (Some nodes)
          (subst (IsDistanceFromRoots ids facts c.args.id) c.in-Some-Some.is-0 (c.distance-distance.ensures ids facts is))
          (subst (λ path. IsPathFromRoots ids facts c.args.id (option_map (λ nodes. nodes.items) path)) c.in-Some-Some.is-1
          (c.in_ok-path.ensures ids facts is)),
      text_stops r.result (g.W.Target.written c.args.target.now) (g.W.Target.written c.write_line.new.target) p.0 (distance_line distance)
          (nodes_text nodes) p.1 (c.in_err-write_line-in-Some-Some.ensures.bytes (distance_line distance) c.distance_line.ensures),
    )

pub returns-in_ok-write_line-in-Some-Some-clause-bytes : goal.returns-in_ok-write_line-in-Some-Some-clause-bytes
returns-in_ok-write_line-in-Some-Some-clause-bytes g c = λ ids facts is.
    let distance = c.in-Some-Some.distance in
    let nodes = c.in-Some-Some.nodes.items in
    let mid = g.W.Target.written c.write_line.new.target in
    let new = g.W.Target.written c.write_nodes.new.target in (
      reached_text (Some distance) (Some nodes),
      told ids facts c.args.id (Some distance) (Some nodes)
          (subst (IsDistanceFromRoots ids facts c.args.id) c.in-Some-Some.is-0 (c.distance-distance.ensures ids facts is))
          (subst (λ path. IsPathFromRoots ids facts c.args.id (option_map (λ nodes. nodes.items) path)) c.in-Some-Some.is-1
          (c.in_ok-path.ensures ids facts is)),
      text_then c.write_nodes.result (g.W.Target.written c.args.target.now) mid new (distance_line distance) (nodes_text nodes)
          (c.in_ok-write_line-in-Some-Some.ensures.bytes (distance_line distance) c.distance_line.ensures)
          (subst (λ (list : List ℕ). WritesText mid new c.write_nodes.result (nodes_text list)) c.deref.ensures.value
          c.write_nodes.ensures.bytes),
    )

-- a distance or a path is missing
pub returns-in_default-clause-bytes : goal.returns-in_default-clause-bytes
returns-in_default-clause-bytes g c = λ ids facts is.
    let id = c.args.id in
    elim c.in_default.branch [
      | in_default-via-in-Some+in_default w ↦
          let distance = w.in_default.field-0-0 in (
            reached_text (Some distance) None,
            told ids facts id (Some distance) None
                (subst (IsDistanceFromRoots ids facts id) w.in_default.is-0 (c.distance-distance.ensures ids facts is))
                (subst (λ path. IsPathFromRoots ids facts id (option_map (λ nodes. nodes.items) path)) w.in_default.is-1
                (c.in_ok-path.ensures ids facts is)),
            c.write_str.ensures.bytes,
          )
      | in_default-via-in_default w ↦ (
        reached_text None (option_map (λ nodes. nodes.items) c.in_ok-path.path),
        told ids facts id None (option_map (λ nodes. nodes.items) c.in_ok-path.path)
            (subst (IsDistanceFromRoots ids facts id) w.in_default.is-0 (c.distance-distance.ensures ids facts is))
            (c.in_ok-path.ensures ids facts is),
        c.write_str.ensures.bytes,
      )
    ]
