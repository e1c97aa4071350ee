use Rattle.std.proofs.Common.{sym, ap, ◌∙◌, arith, rules}
use Rattle.hprof_items.specs.Reading.{head_at}
use Rattle.hprof_items.proofs.Heads.{head_found, head_again}
use Rattle.hprof_items.proofs.head_reading.read_head.Goals as goal

pub returns-clause-found : goal.returns-clause-found
returns-clause-found c = λ head n e.
    head_found c.args.ids c.args.longest c.args.bytes.now head n (λ i. omega (arith, c.type_inv.bytes i)) (sym c.head_in.ensures ∙ e)

pub returns-clause-only : goal.returns-clause-only
returns-clause-only c = λ head rest right e.
    c.head_in.ensures ∙ ap (head_at c.args.ids c.args.longest) e ∙ head_again c.args.ids c.args.longest head rest right

pub returns-clause-exact : goal.returns-clause-exact
returns-clause-exact c = search rules
