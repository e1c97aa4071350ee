use Rattle.std.specs.String.{string_bytes}
use Rattle.hprof_heap.specs.HeapFacts.{facts_of, size_of}
use Rattle.hprof_suspects.specs.SuspectsText.{IsSuspectsText}
use Rattle.hprof_suspects.proofs.SomeSuspectsText.{made_or_some, suspects_exist}
use Rattle.hprof_suspects.proofs.writing.write_suspects.Goals as goal

pub returns-clause-bytes : goal.returns-clause-bytes
returns-clause-bytes g c =
    let ids = size_of c.args.heap.now in
    let facts = facts_of c.args.heap.now in
    let text = made_or_some c.suspects_text-text.result string_bytes (IsSuspectsText ids facts) c.suspects_text-text.ensures.text
    (suspects_exist ids facts c.holds_of_heap.ensures.agree) in
    (text.0, text.1, c.write_line.ensures.bytes text.0 text.2)
