use Rattle.std.proofs.Common.{◌≡◌, ◌≤◌, ℕ, List, Option, ◌++◌, take, vec_capacity}
use Rattle.hprof_devices.specs.declared.health.Health.TheVariants.{Well}
use Rattle.hprof_rows.specs.HeapValue.{HeapValue}
use Rattle.hprof_questions.specs.Dialogue.{Heard, TakesLines}
use Rattle.hprof_questions.proofs.dialogue.go_over.Given as goal

-- the bytes so far are heard
abbrev pub invariant-loop-byte : goal.invariant-loop-byte
invariant-loop-byte g l = record {
  heard : (heap : HeapValue) → g.A.Answers.about l.answers heap → (bytes : List ℕ) (start : Option (List ℕ))
      → Heard (g.A.Answers.is_answer l.answers heap) bytes start (g.W.Target.written l.fn.target) l.fn.line.items
      → Heard (g.A.Answers.is_answer l.answers heap) (bytes ++ take l.byte-index l.piece) start (g.W.Target.written l.target) l.line.items;
  takes : (bytes : List ℕ) → TakesLines bytes l.fn.line.items → TakesLines (bytes ++ take l.byte-index l.piece) l.line.items;
  well : g.W.Target.health l.target ≡ Well;
  keeps : g.A.Answers.keeps l.answers l.cache;
  room : 4098 ≤ vec_capacity l.line;
}
