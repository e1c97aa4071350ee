use Rattle.std.proofs.Common.{ℕ, List, length}
use Rattle.hprof_heap.specs.HeapFacts.{facts_of}
use Rattle.hprof_naming.specs.MeantLabel.{IsMeantBy}
use Rattle.hprof_meaning.specs.BareLabels.{AreBareLabels}
use Rattle.hprof_meaning.proofs.JudgedNames.{AreFoundTo}
use Rattle.hprof_meaning.proofs.judging.meant_among.Given as goal

abbrev pub invariant-loop-class : goal.invariant-loop-class
invariant-loop-class l =
    (word : List ℕ) (label : ℕ → List ℕ) → IsMeantBy word l.meant → AreBareLabels (facts_of l.heap) label
    → AreFoundTo (facts_of l.heap) word label l.classes l.found.items l.rest l.judged

abbrev pub decreases-loop-class : goal.decreases-loop-class
decreases-loop-class l = length l.rest
