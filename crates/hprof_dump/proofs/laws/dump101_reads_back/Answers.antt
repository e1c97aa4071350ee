use Rattle.hprof_dump.proofs.ReadsBack.{dump_is_part}
use Rattle.hprof_dump.proofs.laws.dump101_reads_back.Goals as goal

pub returns : goal.returns
returns c = dump_is_part
