use Rattle.hprof_stream.proofs.Resuming.{behind_items}
use Rattle.hprof_stream.proofs.part_reader.PartReader.place.Goals as goal

pub returns-clause-behind : goal.returns-clause-behind
returns-clause-behind c = λ limits bytes facts read. behind_items limits bytes facts c.args.self.now read
