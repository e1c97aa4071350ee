use Rattle.std.proofs.Common.{rules, of_calls}
use Rattle.std.proofs.lemmas.Fn.{filter_same}
use Rattle.hprof_edges.proofs.LeftOutEdges.{stays}
use Rattle.hprof_edges.proofs.kept_edges.leave_out.Goals as goal

pub returns : goal.returns
returns c = filter_same _ (stays c.args.fields.now) _ (λ x b f k. search (rules, of_calls)) _ _ c.retain.ensures.filtered
