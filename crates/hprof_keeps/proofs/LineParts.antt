-- Lines, from the texts that stand in them.
use Rattle.std.proofs.Common.{◌≡◌, ◌≢◌, ℕ, Bool, List, [], ◌++◌, ◌∙◌, ap, append_assoc, codes, sym}
use Rattle.std.specs.Prelude.{if◌then◌else◌}
use Rattle.std.specs.Fmt.{decimal}
use Rattle.std.proofs.lemmas.Bool.{ne_eqb}
use Rattle.hprof_describe.specs.Findings.{Findings}
use Rattle.hprof_describe.specs.Nodes.{node_text}
use Rattle.hprof_retained.specs.Retained.{Sum}
use Rattle.hprof_keeps.specs.KeepsText.{retained_line, sum_words, weakly_line}

pub total_parts : (sum : Sum) (end : List ℕ) → decimal sum.bytes ++ (codes " " ++ (decimal sum.objects ++ end)) ≡ sum_words sum ++ end
total_parts sum end = simp append_assoc

-- of some nodes there is a line
pub weakly_parts : (sum : Sum) → sum.objects ≢ 0
    → decimal sum.bytes ++ (codes " " ++ (decimal sum.objects ++ codes " only by weak references\n")) ≡ weakly_line sum
weakly_parts sum some =
    total_parts sum (codes " only by weak references\n")
    ∙ sym (ap (λ (none : Bool). if none then [] else sum_words sum ++ codes " only by weak references\n") (ne_eqb sum.objects 0 some))

regrouped : (front bytes objects node : List ℕ) → front ++ (bytes ++ (codes " " ++ (objects ++ (codes " " ++ (node ++ codes "\n")))))
    ≡ front ++ (bytes ++ codes " " ++ objects ++ codes " " ++ node ++ codes "\n")
regrouped front bytes objects node = simp append_assoc

pub node_parts : (found : Findings) (retained : ℕ → Sum) (node : ℕ) (front told : List ℕ) (sum : Sum) → told ≡ node_text found node
    → sum ≡ retained node
    → front ++ (decimal sum.bytes ++ (codes " " ++ (decimal sum.objects ++ (codes " " ++ (told ++ codes "\n")))))
    ≡ front ++ retained_line found retained node
unfolding retained_line
node_parts found retained node front told sum is same =
    regrouped front (decimal sum.bytes) (decimal sum.objects) told
    ∙ ap (λ (t : List ℕ). front ++ (sum_words sum ++ codes " " ++ t ++ codes "\n")) is
    ∙ ap (λ (s : Sum). front ++ (sum_words s ++ codes " " ++ node_text found node ++ codes "\n")) same
