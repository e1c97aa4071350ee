use Rattle.std.proofs.Common.{refl}
use Rattle.hprof_heap.specs.Gathering.{gathered}
use Rattle.hprof_items.specs.FactValue.{value_of}
use Rattle.hprof_stored.proofs.Facts.{no_row, other_taken}
use Rattle.hprof_stored.proofs.stored_sink.StoredSink.take_other.Goals as goal

pub returns-clause-steps : goal.returns-clause-steps
returns-clause-steps g c =
    let fact = value_of c.args.fact.now in
    record {
      gathers = other_taken (gathered c.args.self.now.gatherer) (gathered c.take.new.self) fact c.requires.other c.in-Ok.ensures.steps;
      begun = c.in-Ok.ensures.begun;
      logs = λ limits parts part begun logged. c.skip.ensures.log limits parts part fact logged (no_row part.ids fact c.requires.other);
      part = refl;
      within = refl;
      sound = c.requires.sound;
    }
