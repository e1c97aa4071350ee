use Rattle.std.proofs.Common.{subst, sym, ◌↔◌, Contains, IsTrue}
use Rattle.hprof_numbers.specs.Numbered.{nodes_in}
use Rattle.hprof_numbers.proofs.Placed.{has_number}
use Rattle.hprof_numbers.proofs.numbered.Numbered.has.Goals as goal

pub returns : goal.returns
returns c =
    subst (λ b. IsTrue b ↔ Contains (nodes_in c.args.self.now) c.args.node) (sym c.is_some.ensures)
    (has_number (nodes_in c.args.self.now) c.args.node c.number_of.result c.number_of.ensures)
