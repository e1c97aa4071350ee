use Rattle.std.proofs.Common.{arith}
use Rattle.hprof_items.proofs.WalksReads.{sub_more}
use Rattle.hprof_items.proofs.laws.fronts_of_sub_records_are_short.Goals as goal

pub returns : goal.returns
returns c = record { more = λ ids bounds bytes more all. sub_more ids bounds bytes more (omega arith) }
