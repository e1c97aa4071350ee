use Rattle.std.proofs.Common.{◌≡◌, [], subst, sym, rules}
use Rattle.hprof_tables.specs.PageRows.{IsPage}
use Rattle.hprof_tables.proofs.PageRows.{nothing_ascends}
use Rattle.hprof_tables.proofs.page.Page.take_rows.Goals as goal

pub invariant_of-self : goal.invariant_of-self
invariant_of-self g c =
    let page = c.args.self.now in
    let none : c.replace.new.dest.items ≡ [] = search rules in
    record { sound = subst (IsPage page.from page.to) (sym none) (record { ascends = nothing_ascends g.row.V.Denot; within = tt }) }
