use Rattle.std.proofs.Common.{◌≡◌, ℕ, List, length, ap, subst, sym, inl, inr, ◌∙◌, rules}
use Rattle.std.specs.Prelude.{slice_get}
use Rattle.hprof_tables.specs.Pages.{HasKey}
use Rattle.hprof_tables.specs.SortedRows.{row_at}
use Rattle.hprof_tables.proofs.Pages.{listed-within}
use Rattle.hprof_tables.proofs.SortedList.{at_err}
use Rattle.hprof_tables.proofs.TablePages.{cut_has, cut_tried, lacks_there, spot_at, spot_new}
use Rattle.hprof_tables.proofs.sorted_table.SortedTable.cut_spot.Goals as goal

pub cut_page-requires-clause-new : goal.cut_page-requires-clause-new
cut_page-requires-clause-new g c =
    let table = c.args.self.now in
    let at = spot_at table.pages.items c.args.key c.args.spot c.index-2.result.now c.requires c.index-2.ensures in
    listed-within table.pages.items table.places.entries c.args.spot.page c.cut_for-cut.result.key c.index-2.result.now table.listed at.0
    c.cut_for-cut.ensures.above c.cut_for-cut.ensures.within

pub invariant_of-self : goal.invariant_of-self
invariant_of-self g c =
    let table = c.args.self.now in
    let tried =
    cut_tried c.cut_page.result table.pages.items c.cut_page.new.pages.items table.places.entries c.cut_page.new.places.entries
    c.args.spot.page c.cut_for-cut.result.key table.listed c.cut_page.ensures.pages c.cut_page.ensures.places c.cut_page.ensures.err
    c.cut_page.ensures.unlisted in
    record { listed = tried.0; count = table.count ∙ sym (ap (λ (l : List (ℕ × g.row.V.Denot)). length l) tried.1) }

pub returns-in_err-cut_page-clause-full : goal.returns-in_err-cut_page-clause-full
returns-in_err-cut_page-clause-full g c =
    let takes = c.takes.ensures c.if-takes.false in
    at_err c.from_residual.result _ (inr (inl (lacks_there c.args.self.now.pages.items c.args.key c.args.spot c.index.result.now c.requires
    c.index.ensures takes.0 takes.1)))

pub returns-in_err-cut_page-clause-same : goal.returns-in_err-cut_page-clause-same
returns-in_err-cut_page-clause-same g c =
    let takes = c.takes.ensures c.if-takes.false in
    inr (inr (inl (lacks_there c.args.self.now.pages.items c.args.key c.args.spot c.index.result.now c.requires c.index.ensures takes.0
    takes.1)))

pub spot_in-requires-clause-has : goal.spot_in-requires-clause-has
spot_in-requires-clause-has g c =
    let table = c.args.self.now in
    let page = c.index-2.result.now in
    let at = spot_at table.pages.items c.args.key c.args.spot page c.requires c.index-2.ensures in
    let has =
    cut_has table.pages.items c.cut_page.new.pages.items c.args.spot.page c.cut_for-cut.result.key c.args.key page
    c.in_ok-cut_page.ensures.pages
    at.0 at.1 in
    has.0 c.if-key-cut.true

pub spot_in-requires-clause-new : goal.spot_in-requires-clause-new
spot_in-requires-clause-new g c =
    let table = c.args.self.now in
    let tried =
    cut_tried c.cut_page.result table.pages.items c.cut_page.new.pages.items table.places.entries c.cut_page.new.places.entries
    c.args.spot.page c.cut_for-cut.result.key table.listed c.cut_page.ensures.pages c.cut_page.ensures.places c.cut_page.ensures.err
    c.cut_page.ensures.unlisted in
    ap (row_at c.args.key) tried.1 ∙ spot_new table.pages.items table.places.entries c.args.key c.args.spot table.listed c.requires

pub returns-then-key-cut-clause-rows : goal.returns-then-key-cut-clause-rows
returns-then-key-cut-clause-rows g c =
    let table = c.args.self.now in
    let tried =
    cut_tried c.cut_page.result table.pages.items c.cut_page.new.pages.items table.places.entries c.cut_page.new.places.entries
    c.args.spot.page c.cut_for-cut.result.key table.listed c.cut_page.ensures.pages c.cut_page.ensures.places c.cut_page.ensures.err
    c.cut_page.ensures.unlisted in
    tried.1

pub returns-then-key-cut-clause-same : goal.returns-then-key-cut-clause-same
returns-then-key-cut-clause-same g c =
    let takes = c.takes.ensures c.if-takes.false in
    inr (inr (inl (lacks_there c.args.self.now.pages.items c.args.key c.args.spot c.index.result.now c.requires c.index.ensures takes.0
    takes.1)))

pub spot_in-requires-2-clause-has : goal.spot_in-requires-2-clause-has
spot_in-requires-2-clause-has g c =
    let table = c.args.self.now in
    let page = c.index-2.result.now in
    let at = spot_at table.pages.items c.args.key c.args.spot page c.requires c.index-2.ensures in
    let has =
    cut_has table.pages.items c.cut_page.new.pages.items c.args.spot.page c.cut_for-cut.result.key c.args.key page
    c.in_ok-cut_page.ensures.pages
    at.0 at.1 in
    let count : c.len-count.result ≡ length table.pages.items = search rules in
    subst (λ (n : ℕ). HasKey (slice_get c.cut_page.new.pages.items n) c.args.key) (sym count) (has.1 c.if-key-cut.false)

pub spot_in-requires-2-clause-new : goal.spot_in-requires-2-clause-new
spot_in-requires-2-clause-new g c =
    let table = c.args.self.now in
    let tried =
    cut_tried c.cut_page.result table.pages.items c.cut_page.new.pages.items table.places.entries c.cut_page.new.places.entries
    c.args.spot.page c.cut_for-cut.result.key table.listed c.cut_page.ensures.pages c.cut_page.ensures.places c.cut_page.ensures.err
    c.cut_page.ensures.unlisted in
    ap (row_at c.args.key) tried.1 ∙ spot_new table.pages.items table.places.entries c.args.key c.args.spot table.listed c.requires

pub returns-clause-rows : goal.returns-clause-rows
returns-clause-rows g c =
    let table = c.args.self.now in
    let tried =
    cut_tried c.cut_page.result table.pages.items c.cut_page.new.pages.items table.places.entries c.cut_page.new.places.entries
    c.args.spot.page c.cut_for-cut.result.key table.listed c.cut_page.ensures.pages c.cut_page.ensures.places c.cut_page.ensures.err
    c.cut_page.ensures.unlisted in
    tried.1

pub returns-clause-same : goal.returns-clause-same
returns-clause-same g c =
    let takes = c.takes.ensures c.if-takes.false in
    inr (inr (inl (lacks_there c.args.self.now.pages.items c.args.key c.args.spot c.index.result.now c.requires c.index.ensures takes.0
    takes.1)))
