use Rattle.std.proofs.Common.{refl}
use Rattle.hprof_heap.specs.Gathering.{gathered}
use Rattle.hprof_items.specs.FactValue.{value_of}
use Rattle.hprof_stored.proofs.Facts.{object_taken, row_of_object}
use Rattle.hprof_stored.proofs.stored_sink.StoredSink.take_object.Goals as goal

pub returns-in-Ok-clause-steps : goal.returns-in-Ok-clause-steps
returns-in-Ok-clause-steps g c =
    let fact = value_of c.args.fact.now in
    record {
      gathers = object_taken (gathered c.args.self.now.gatherer) fact c.args.id c.requires.object;
      begun = refl;
      logs = λ limits parts part begun logged. c.in-Ok.ensures.log limits parts part fact logged
          (row_of_object (gathered c.args.self.now.gatherer).begun part.ids fact c.args.id c.args.spelled.now begun c.requires.object
          c.requires.spelled);
      part = refl;
      within = refl;
      sound = refl;
    }
