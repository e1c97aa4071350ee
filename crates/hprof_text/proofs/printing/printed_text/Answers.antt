use Rattle.std.proofs.Common.{Bool, subst, rules}
use Rattle.hprof_text.specs.Printed.{PrintsIfUnits}
use Rattle.hprof_text.proofs.Prints.{IsPrinted-units}
use Rattle.hprof_text.proofs.printing.printed_text.Goals as goal

pub returns-then-branch : goal.returns-then-branch
returns-then-branch c =
    let text = c.push_units.new.text.items in
    IsPrinted-units c.args.bytes.now text (subst (λ (all : Bool). PrintsIfUnits c.args.bytes.now all text) c.if-branch.true
    c.in_ok-push_units.ensures)

pub returns-in_err-push_bytes : goal.returns-in_err-push_bytes
returns-in_err-push_bytes c = search rules

pub returns-in_err-push_units : goal.returns-in_err-push_units
returns-in_err-push_units c = search rules

pub returns-in_err-text : goal.returns-in_err-text
returns-in_err-text c = search rules

pub returns : goal.returns
returns c = search rules
