use Rattle.std.proofs.Common.{refl}
use Rattle.hprof_objects.specs.PartsRead.{part_begun}
use Rattle.hprof_stored.proofs.stored_sink.StoredSinkSink.begin_part.Goals as goal

pub returns-clause-begins : goal.returns-clause-begins
returns-clause-begins g c = record {
  gathers = c.in-Ok.ensures.begins;
  logs = λ limits parts bytes holds number place. c.note.ensures.log limits parts (part_begun c.args.header.ids) bytes
      (c.begin.ensures.log limits parts c.args.header.ids holds number) place;
  part = refl;
  within = refl;
  sound = c.if-self.false;
}
