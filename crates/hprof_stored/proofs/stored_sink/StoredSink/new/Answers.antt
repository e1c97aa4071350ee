use Rattle.std.proofs.Common.{ap, refl, sym}
use Rattle.hprof_heap.specs.Gathering.{Gathered}
use Rattle.hprof_stored.proofs.stored_sink.StoredSink.new.Goals as goal

pub returns : goal.returns
returns g c = record {
  holds = λ limits. record {
    gathers = sym c.new-2.ensures;
    logs = λ told. c.in_ok-log.ensures.holds told limits;
    number = refl;
    none = refl;
    without = refl;
    sound = refl;
  };
  begun = ap (λ (it : Gathered). it.begun) c.new-2.ensures;
}
