use Rattle.std.specs.Prelude.{◌↔◌, Contains}
use Rattle.std.proofs.Common.{None, List, ℕ, length, sym, subst}
use Rattle.hprof_numbers.specs.Numbered.{nodes_in}
use Rattle.hprof_numbers.specs.Numbers.{items_in}
use Rattle.hprof_numbers.specs.Targets.{IsNumberOf}
use Rattle.hprof_numbers.proofs.Behind.{IsInRow, row_last}
use Rattle.hprof_numbers.proofs.Targets.{below_more, number_of_node}
use Rattle.hprof_numbers.proofs.lists.Lists.push.Goals as goal

pub returns-in-Ok-clause-last : goal.returns-in-Ok-clause-last
returns-in-Ok-clause-last c = λ one.
    let old = c.args.self.now in
    let nodes = nodes_in c.args.nodes.now in
    let then = items_in c.put_row.new.items in
    let came = row_last _ (items_in old.ends) (items_in old.items) then
    (record { within = old.within; ascend = old.ascend; whole = old.whole }) c.in-Ok.ensures.items one in
    let is = number_of_node nodes c.args.nodes.now.ascend (Contains c.args.targets.now) one in
    let here : IsInRow (items_in c.put_row.new.ends) then (length (items_in old.ends)) one
    ↔ IsNumberOf nodes None (Contains c.args.targets.now) one =
    subst (λ (ends : List ℕ). IsInRow ends then (length (items_in old.ends)) one
    ↔ IsNumberOf nodes None (Contains c.args.targets.now) one) (sym c.in-Ok.ensures.ends) came in
    (λ has. is.0 (here.0 has), λ both. here.1 (is.1 both))

pub returns-in-Ok-clause-below : goal.returns-in-Ok-clause-below
returns-in-Ok-clause-below c = λ below number one listed.
    let old = c.args.self.now in
    let then = items_in c.put_row.new.items in
    below_more (nodes_in c.args.nodes.now) (items_in old.ends) (items_in old.items) then c.args.targets.now
    (record { within = old.within; ascend = old.ascend; whole = old.whole }) c.in-Ok.ensures.items below number one
    (subst (λ (ends : List ℕ). IsInRow ends then number one) c.in-Ok.ensures.ends listed)
