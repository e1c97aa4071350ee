use Rattle.std.proofs.Common.{◌≡◌, ◌∙◌, ℕ, List, ap, subst}
use Rattle.std.specs.Prelude.{IfOk}
use Rattle.std.specs.String.{string_bytes}
use Rattle.hprof_heap.specs.ClassDump.{class_value}
use Rattle.hprof_reports.specs.ObjectText.{line_from_signers, line_to_loader}
use Rattle.hprof_reports.proofs.class_lines.class_line.Goals as goal

pub returns : goal.returns
returns c = λ naming is.
    let dump = class_value c.args.dump.now in
    let end = c.deref-2.ensures ∙ c.in_ok-end.ensures
    ∙ ap (line_from_signers dump) (c.deref.ensures ∙ c.in_ok-label.ensures.named naming is) in
    subst (λ (end : List ℕ). IfOk c.line_to_loader.result (λ line. string_bytes line ≡ line_to_loader dump end)) end
    c.line_to_loader.ensures
