use Rattle.std.proofs.Common.{◌≢◌, take}
use Rattle.std.specs.List.{AllByRecursion}
use Rattle.hprof_questions.proofs.question.is_word.Given as goal

abbrev pub invariant-loop-byte : goal.invariant-loop-byte
invariant-loop-byte l = AllByRecursion (λ byte. byte ≢ 32) (take l.byte-index l.bytes)
