use Rattle.std.proofs.Common.{◌≡◌, length, rules}
use Rattle.std.proofs.lemmas.List.Sorted.{answers_always}
use Rattle.hprof_tables.proofs.PageRows.{goes_last, searched_new, searched_there}
use Rattle.hprof_tables.proofs.page.Page.place_of.Goals as goal

pub returns-then-ends_below-clause-new : goal.returns-then-ends_below-clause-new
returns-then-ends_below-clause-new g c =
    let rows = c.args.self.now.rows.items in
    let count : c.len.result ≡ length rows = search rules in
    rw count (goes_last c.args.key rows (c.ends_below.ensures c.if-ends_below.true))

pub returns-clause-there : goal.returns-clause-there
returns-clause-there g c =
    searched_there c.args.self.now.rows.items c.deref.result.now c.args.key c.binary_search_by_key.result c.deref.ensures.value
    c.binary_search_by_key.ensures.bound
    (c.binary_search_by_key.ensures.position (λ row. row.0) (answers_always _ _ _ (λ f a r f' k. search rules)))

pub returns-clause-new : goal.returns-clause-new
returns-clause-new g c =
    let page = c.args.self.now in
    searched_new page.rows.items c.deref.result.now c.args.key c.binary_search_by_key.result c.deref.ensures.value page.sound.ascends
    c.binary_search_by_key.ensures.bound
    (c.binary_search_by_key.ensures.position (λ row. row.0) (answers_always _ _ _ (λ f a r f' k. search rules)))
