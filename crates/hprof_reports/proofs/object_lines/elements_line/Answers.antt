use Rattle.std.proofs.Common.{◌≡◌, ◌∙◌, ℕ, List, length, subst}
use Rattle.std.specs.Prelude.{IfOk}
use Rattle.std.specs.String.{string_bytes}
use Rattle.hprof_values.specs.Lists.{identifiers_of}
use Rattle.hprof_reports.specs.ObjectText.{counted_line}
use Rattle.hprof_reports.proofs.object_lines.elements_line.Goals as goal

pub returns : goal.returns
returns c = λ naming is.
    subst (λ (label : List ℕ). IfOk c.counted_line.result
    (λ line. string_bytes line ≡ counted_line c.args.id c.args.class (length (identifiers_of c.args.elements.now)) label))
    (c.deref.ensures ∙ c.in_ok-label.ensures.named naming is)
    (subst (λ (len : ℕ). IfOk c.counted_line.result
    (λ line. string_bytes line ≡ counted_line c.args.id c.args.class len c.deref.result.now))
    c.len.ensures c.counted_line.ensures)
