use Rattle.hprof_graph.proofs.Deriving.{laid_one}
use Rattle.hprof_graph.proofs.derived.Derived.lay.Goals as goal

pub returns-clause-lays : goal.returns-clause-lays
returns-clause-lays c = λ facts laid gone trace has layout fresh is.
    laid_one c.args.ids facts c.args.self.now laid gone is c.args.instance trace c.args.class c.args.bytes.now has layout fresh
    c.field_edges.new.into (λ edges of. c.in_ok-is_laid.ensures.holds facts edges is.knows of) c.field_edges.new.references
    c.saturating_add-self.result c.saturating_add-self.ensures
