use Rattle.std.specs.Prelude.{⊤}
use Rattle.hprof_large.proofs.texts.CachedTexts.find.Given as goal

abbrev pub invariant-loop-text : goal.invariant-loop-text
invariant-loop-text l = ⊤
