use Rattle.std.proofs.Common.{refl}
use Rattle.hprof_objects.specs.PartsRead.{with_bytes}
use Rattle.hprof_stored.proofs.stored_sink.StoredSink.end_part.Goals as goal

pub returns : goal.returns
returns g c = record {
  gathers = refl;
  logs = λ limits parts part more logged. c.end.ensures.log limits parts (with_bytes part more)
      (c.note.ensures.log limits parts part more logged tt);
  part = refl;
  place = refl;
  within = refl;
  sound = refl;
}
