use Rattle.std.proofs.Common.{refl}
use Rattle.hprof_retained.proofs.border_sink.BorderSinkObjectSink.take.Goals as goal

pub returns-in_ok-see-clause-takes : goal.returns-in_ok-see-clause-takes
returns-in_ok-see-clause-takes c =
    let is = c.in-Some.ensures.found in record {
      retained = refl;
      weak = λ i. (c.in_ok-see.ensures.weak i).now;
      others = rw is at c.in_ok-see.ensures.others;
      sources = rw is at c.in_ok-see.ensures.sources;
    }
