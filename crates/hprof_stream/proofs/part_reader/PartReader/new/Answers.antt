use Rattle.std.proofs.Common.{refl, rules}
use Rattle.hprof_stream.proofs.Feeding.{HasRead-none}
use Rattle.hprof_stream.proofs.part_reader.PartReader.new.Goals as goal

pub returns-clause-read : goal.returns-clause-read
returns-clause-read c = HasRead-none c.args.limits _ c.start.ensures c.new.ensures.held c.new.ensures.passing refl

pub returns-clause-no_memory : goal.returns-clause-no_memory
returns-clause-no_memory c = search rules

pub returns-clause-ready : goal.returns-clause-ready
returns-clause-ready c = search rules
