-- A text in quotes from its parts.
use Rattle.std.proofs.Common.{◌≡◌, ℕ, List, ◌++◌, length, take, sym, ap, codes, append_assoc, ◌∙◌}
use Rattle.hprof_lines.specs.Printed.{printed_units}
use Rattle.hprof_describe.specs.Quoted.{more_text, quoted}

pub quoted_of_parts : (units first more : List ℕ) (count : ℕ) → first ≡ printed_units (take 100 units) → count ≡ length units
    → more ≡ more_text count → codes "\"" ++ (first ++ (codes "\"" ++ more)) ≡ quoted units
unfolding quoted
quoted_of_parts units first more count is counts is_more =
    ap (λ (l : List ℕ). codes "\"" ++ (l ++ (codes "\"" ++ more))) is
    ∙ ap (λ (l : List ℕ). codes "\"" ++ (printed_units (take 100 units) ++ (codes "\"" ++ l))) (is_more ∙ ap more_text counts)
    ∙ ap (λ (l : List ℕ). codes "\"" ++ l) (sym (append_assoc (printed_units (take 100 units)) (codes "\"") (more_text (length units))))
