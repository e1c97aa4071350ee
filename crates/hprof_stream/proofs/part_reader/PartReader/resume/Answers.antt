use Rattle.std.proofs.Common.{refl}
use Rattle.hprof_stream.proofs.Resuming.{resumed}
use Rattle.hprof_stream.proofs.part_reader.PartReader.resume.Goals as goal

pub returns-clause-read : goal.returns-clause-read
returns-clause-read c = λ limits bytes facts is.
    resumed limits bytes facts _ c.new.ensures.held c.new.ensures.passing c.new.ensures.walk refl is
