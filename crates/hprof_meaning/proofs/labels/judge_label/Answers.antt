use Rattle.std.proofs.Common.{◌≡◌, ◌↔◌, true, ℕ, List, subst}
use Rattle.std.specs.String.{string_bytes}
use Rattle.hprof_heap.specs.HeapFacts.{facts_of}
use Rattle.hprof_naming.specs.MeantLabel.{Means}
use Rattle.hprof_meaning.proofs.JudgedNames.{judged_by}
use Rattle.hprof_meaning.proofs.labels.judge_label.Goals as goal

pub returns : goal.returns
returns c = λ word meant.
    judged_by (facts_of c.args.heap.now) c.holds_of_heap.ensures.agree word c.args.name (string_bytes c.in_ok-label.label)
    c.matches-is_meant.result c.in_ok-label.ensures
    (subst (λ (l : List ℕ). (c.matches-is_meant.result ≡ true) ↔ Means word l) c.as_bytes.ensures.value
    (c.matches-is_meant.ensures word meant))
