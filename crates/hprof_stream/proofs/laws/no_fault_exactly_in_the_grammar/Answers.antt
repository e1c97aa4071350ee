use Rattle.hprof_items.specs.Spelling.{longest_body}
use Rattle.hprof_stream.proofs.Grammar.{sound_part}
use Rattle.hprof_stream.proofs.Parts.{part_sound}
use Rattle.hprof_stream.proofs.laws.no_fault_exactly_in_the_grammar.Goals as goal

pub returns : goal.returns
returns c = λ bytes. (sound_part longest_body bytes, λ p. part_sound bytes p.3.header p.3.records p.3.written)
