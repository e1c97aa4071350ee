use Rattle.std.proofs.Common.{take, ap, ◌∙◌}
use Rattle.std.specs.Int.{w32, w64, from_be_bytes}
use Rattle.hprof_runs.specs.Spelling.{spelled_key, spelled_len}
use Rattle.hprof_runs.proofs.header.first_header.Goals as goal

pub returns-clause-key : goal.returns-clause-key
unfolding spelled_key
returns-clause-key c = c.from_be_bytes.ensures ∙ ap (from_be_bytes w64) c.in-Some.ensures.cases.0

pub returns-clause-len : goal.returns-clause-len
unfolding spelled_len
returns-clause-len c =
    c.from_be_bytes-2.ensures
    ∙ ap (from_be_bytes w32) (c.in-Some-split_first_chunk.ensures.cases.0 ∙ ap (take 4) c.in-Some.ensures.cases.1)
