use Rattle.std.proofs.Common.{◌≡◌, ◌++◌, codes, ◌∙◌}
use Rattle.std.specs.String.{string_bytes}
use Rattle.hprof_naming.proofs.Namings.{of_text}
use Rattle.hprof_holders.specs.WhoText.{edge_line}
use Rattle.hprof_holders.proofs.WhoWords.{line_of_parts}
use Rattle.hprof_holders.proofs.who_report.edge_line.Goals as goal

pub returns : goal.returns
returns c = λ found names are name_is weak_is.
    let edge = c.args.step.edge in
    let node = string_bytes c.in_ok-node.node in
    let words = string_bytes c.in_ok-words.words in
    of_text (λ text. string_bytes text ≡ node ++ (codes " " ++ (words ++ codes "\n")))
    (λ text. string_bytes text ≡ edge_line found names edge) c.format.result
    (λ text e. e ∙ line_of_parts found names edge node words (c.in_ok-node.ensures found are)
    (c.in_ok-words.ensures found.naming names are.is_naming name_is weak_is))
    c.format.ensures.ok
