use Rattle.std.proofs.Common.{sym, ap, ◌∙◌, arith, rules}
use Rattle.hprof_items.specs.Reading.{header_at}
use Rattle.hprof_items.proofs.Headers.{header_found, header_again}
use Rattle.hprof_items.proofs.header_reading.read_header.Goals as goal

pub returns-clause-found : goal.returns-clause-found
returns-clause-found c = λ h n e. header_found c.args.bytes.now h n (λ i. omega (arith, c.type_inv.bytes i)) (sym c.header_in.ensures ∙ e)

pub returns-clause-only : goal.returns-clause-only
returns-clause-only c = λ h rest fits e. c.header_in.ensures ∙ ap header_at e ∙ header_again h rest fits

pub returns-clause-exact : goal.returns-clause-exact
returns-clause-exact c = search rules
