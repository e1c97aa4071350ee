use Rattle.hprof_graph.proofs.FactsMore.{is_other}
use Rattle.hprof_graph.proofs.derived.Derived.add.Goals as goal

pub add_other-requires : goal.add_other-requires
add_other-requires c = is_other c.args.fact.now c.in_default.not-Instance c.in_default.not-ObjArray
