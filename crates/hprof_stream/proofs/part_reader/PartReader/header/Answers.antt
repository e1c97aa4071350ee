use Rattle.std.proofs.Common.{rules}
use Rattle.hprof_stream.proofs.part_reader.PartReader.header.Goals as goal

pub returns : goal.returns
returns c = search rules
