use Rattle.std.proofs.Common.{refl, subst}
use Rattle.hprof_items.specs.FactValue.{FactValue, value_of}
use Rattle.hprof_edges.specs.Collecting.{PutBehind}
use Rattle.hprof_edges.specs.DumpEdges.{IsObjectEdge}
use Rattle.hprof_edges.specs.EdgeSet.{SetOf}
use Rattle.hprof_edges.proofs.PutTogether.{put_nothing}
use Rattle.hprof_edges.proofs.TableEdges.{no_object_no_edge}
use Rattle.hprof_edges.proofs.referrer_sink.ReferrerSinkObjectSink.take.Goals as goal

pub returns-in_default-clause-takes : goal.returns-in_default-clause-takes
returns-in_default-clause-takes c = record {
  known = refl;
  keeps = refl;
  gives = λ facts edges knows held.
      let fact = value_of c.args.object.now in
      put_nothing edges (SetOf c.args.self.now.set) (IsObjectEdge c.args.ids facts fact) held
      (no_object_no_edge c.args.ids facts fact c.in_default.ensures.none);
}

pub returns-clause-takes : goal.returns-clause-takes
returns-clause-takes c = record {
  known = refl;
  keeps = c.in_ok-object_edges.ensures.keeps;
  gives = λ facts edges knows held.
      subst (λ (fact : FactValue). PutBehind (SetOf c.object_edges.new.into) edges (IsObjectEdge c.args.ids facts fact))
      c.in-Some.ensures.found (c.in_ok-object_edges.ensures.holds facts edges knows held);
}
