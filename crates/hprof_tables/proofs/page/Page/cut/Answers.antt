use Rattle.std.proofs.Common.{◌≡◌, ◌<◌, ◌-◌, ◌+◌, take, drop, arith, rules, sym, subst}
use Rattle.hprof_tables.specs.PageRows.{IsPage}
use Rattle.hprof_tables.proofs.SortedRows.{AreKeys-weaker}
use Rattle.hprof_tables.proofs.PageRows.{page_above, page_below}
use Rattle.hprof_tables.proofs.page.Page.cut.Goals as goal

pub invariant_of-self-2 : goal.invariant_of-self-2
invariant_of-self-2 g c =
    let page = c.args.self.now in
    let key = c.args.cut.key in
    let place = c.args.cut.place in
    let rows : c.shrink_to.new.self.items ≡ take place page.rows.items = search rules in
    let above : page.from < key = c.requires.above in
    record {
      sound =
          subst (IsPage page.from (key - 1)) (sym rows) (page_below page.from page.to (key - 1) place page.rows.items page.sound
          (AreKeys-weaker (λ k. k < key) (λ k. k < key - 1 + 1) (take place page.rows.items) (λ k lt. omega arith) c.requires.before));
    }

pub invariant_of-next : goal.invariant_of-next
invariant_of-next g c =
    let page = c.args.self.now in
    let place = c.args.cut.place in
    let rows : c.in_ok-rows.rows.items ≡ drop place page.rows.items = search rules in
    record {
      sound =
          subst (IsPage c.args.cut.key page.to) (sym rows)
          (page_above page.from page.to c.args.cut.key place page.rows.items page.sound c.requires.behind);
    }
