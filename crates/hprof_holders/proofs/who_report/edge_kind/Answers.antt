use Rattle.std.proofs.Common.{◌≡◌, ◌++◌, codes, ◌∙◌}
use Rattle.std.specs.String.{string_bytes}
use Rattle.hprof_naming.proofs.Namings.{of_text}
use Rattle.hprof_holders.specs.WhoText.{edge_kind}
use Rattle.hprof_holders.proofs.WhoWords.{kind_of_parts}
use Rattle.hprof_holders.proofs.who_report.edge_kind.Goals as goal

pub returns : goal.returns
returns c = λ found names are name_is weak_is.
    let edge = c.args.step.edge in
    let kind = string_bytes c.in_ok-kind.kind in
    let words = string_bytes c.in_ok-words.words in
    of_text (λ text. string_bytes text ≡ kind ++ (codes " " ++ words))
    (λ text. string_bytes text ≡ edge_kind found names edge) c.format.result
    (λ text e. e ∙ kind_of_parts found names edge kind words (c.in_ok-kind.ensures found are)
    (c.in_ok-words.ensures found.naming names are.is_naming name_is weak_is))
    c.format.ensures.ok
