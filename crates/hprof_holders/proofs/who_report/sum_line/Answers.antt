use Rattle.std.proofs.Common.{◌≡◌, ◌++◌, List, ℕ, codes, ap, ◌∙◌, string_bytes}
use Rattle.std.specs.Fmt.{decimal}
use Rattle.hprof_naming.proofs.Namings.{of_text}
use Rattle.hprof_holders.specs.SumCounts.{sum_value}
use Rattle.hprof_holders.specs.WhoText.{sum_line}
use Rattle.hprof_holders.proofs.WhoWords.{sum_parts}
use Rattle.hprof_holders.proofs.who_report.sum_line.Goals as goal

pub returns : goal.returns
returns c =
    let sum = c.args.sum.now in
    of_text (λ line. string_bytes line ≡ decimal sum.count ++ (codes " times " ++ (c.as_str-text.result.now ++ codes "\n")))
    (λ line. string_bytes line ≡ sum_line (sum_value sum)) c.format.result
    (λ line e. e ∙ ap (λ (t : List ℕ). decimal sum.count ++ (codes " times " ++ (t ++ codes "\n"))) c.as_str-text.ensures.value
    ∙ sum_parts (sum_value sum))
    c.format.ensures.ok
