use Rattle.std.proofs.Common.{◌≡◌, length, subst, sym, ◌∙◌, rules}
use Rattle.std.specs.List.{insert}
use Rattle.hprof_tables.specs.PageRows.{IsPage}
use Rattle.hprof_tables.proofs.PageRows.{goes_push, goes_put, page_put}
use Rattle.hprof_tables.proofs.page.Page.put.Goals as goal

pub returns-then-place-len-clause-rows : goal.returns-then-place-len-clause-rows
returns-then-place-len-clause-rows g c =
    let page = c.args.self.now in
    let last : c.args.place ≡ length page.rows.items = search rules in
    c.push_reserved.ensures.items ∙ goes_push c.args.key c.args.place c.args.row page.rows.items c.requires.goes last

pub invariant_of-self : goal.invariant_of-self
invariant_of-self g c =
    let page = c.args.self.now in
    let last : c.args.place ≡ length page.rows.items = search rules in
    let rows = c.push_reserved.ensures.items ∙ goes_push c.args.key c.args.place c.args.row page.rows.items c.requires.goes last in
    record {
      sound =
          subst (IsPage page.from page.to) (sym rows)
          (page_put page.from page.to c.args.key c.args.row page.rows.items page.sound c.requires.has.0 c.requires.has.1);
    }

pub returns-clause-rows : goal.returns-clause-rows
returns-clause-rows g c =
    let page = c.args.self.now in
    let put : c.insert.new.self.items ≡ insert page.rows.items c.args.place (c.args.key, c.args.row) = search rules in
    put ∙ goes_put c.args.key c.args.place c.args.row page.rows.items c.requires.goes

pub invariant_of-self-2 : goal.invariant_of-self-2
invariant_of-self-2 g c =
    let page = c.args.self.now in
    let put : c.insert.new.self.items ≡ insert page.rows.items c.args.place (c.args.key, c.args.row) = search rules in
    record {
      sound =
          subst (IsPage page.from page.to) (sym (put ∙ goes_put c.args.key c.args.place c.args.row page.rows.items c.requires.goes))
          (page_put page.from page.to c.args.key c.args.row page.rows.items page.sound c.requires.has.0 c.requires.has.1);
    }
