use Rattle.std.proofs.Common.{◌≡◌, ◌++◌, Some, codes, ◌∙◌, string_bytes}
use Rattle.hprof_naming.proofs.Namings.{of_text}
use Rattle.hprof_holders.specs.RootsText.{words_line}
use Rattle.hprof_holders.proofs.StepWords.{four_more}
use Rattle.hprof_holders.proofs.root_lines.words_line.Goals as goal

pub returns-in-Some-Some : goal.returns-in-Some-Some
returns-in-Some-Some c =
    let w = c.in-Some-Some in
    let object = string_bytes w.object in
    let frame = string_bytes w.frame in
    rw (w.is-0, w.is-1)
    (of_text (λ line. string_bytes line ≡ codes "  " ++ (object ++ (codes " " ++ (frame ++ codes "\n"))))
    (λ line. string_bytes line ≡ words_line (Some object) (Some frame)) c.format.result
    (λ line e. e ∙ four_more (codes "  ") object (codes " ") frame (codes "\n")) c.format.ensures.ok)
