-- Lines, from the texts that stand in them.
use Rattle.std.proofs.Common.{◌≡◌, ◌++◌, ◌∙◌, ◌*◌, ◌/◌, ℕ, List, ap, append_assoc, codes}
use Rattle.std.specs.Fmt.{decimal}
use Rattle.hprof_retained.specs.Retained.{Sum}
use Rattle.hprof_suspects.specs.SuspectsText.{piece_line, suspect_line}

regrouped : (bytes count label : List ℕ)
    → codes "  " ++ (bytes ++ (codes " " ++ (count ++ (codes " " ++ (label ++ codes "\n")))))
    ≡ codes "  " ++ bytes ++ codes " " ++ count ++ codes " " ++ label ++ codes "\n"
regrouped bytes count label = simp append_assoc

pub piece_parts : (bytes count : ℕ) (told label : List ℕ) → told ≡ label
    → codes "  " ++ (decimal bytes ++ (codes " " ++ (decimal count ++ (codes " " ++ (told ++ codes "\n")))))
    ≡ piece_line (record { label = label; bytes = bytes; count = count })
piece_parts bytes count told label same =
    regrouped (decimal bytes) (decimal count) told
    ∙ ap (λ t. codes "  " ++ decimal bytes ++ codes " " ++ decimal count ++ codes " " ++ t ++ codes "\n") same

suspect_regrouped : (percent pieces : List ℕ)
    → codes "suspect " ++ (percent ++ (codes "% " ++ (pieces ++ codes "\n"))) ≡ codes "suspect " ++ percent ++ codes "% " ++ pieces ++
    codes "\n"
suspect_regrouped percent pieces = simp append_assoc

pub suspect_parts : (total : Sum) (percent pieces : ℕ) → percent ≡ 100 * pieces / total.bytes
    → codes "suspect " ++ (decimal percent ++ (codes "% " ++ (decimal pieces ++ codes "\n"))) ≡ suspect_line total pieces
suspect_parts total percent pieces same =
    suspect_regrouped (decimal percent) (decimal pieces)
    ∙ ap (λ n. codes "suspect " ++ decimal n ++ codes "% " ++ decimal pieces ++ codes "\n") same
