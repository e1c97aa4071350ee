use Rattle.std.proofs.Common.{◌<◌, ◌+◌, ℕ, List, length, ap, sym, subst, ◌∙◌, rules}
use Rattle.std.specs.Map.{values_of}
use Rattle.hprof_tables.specs.Pages.{rows_along}
use Rattle.hprof_tables.specs.SortedTable.{HasRoomIn}
use Rattle.hprof_tables.proofs.Pages.{insert-length, listed-replaced, rows-put}
use Rattle.hprof_tables.proofs.TablePages.{spot_at, spot_new, spot_within}
use Rattle.hprof_tables.proofs.sorted_table.SortedTable.make_at.Goals as goal

pub returns-in_err-row-clause-absent : goal.returns-in_err-row-clause-absent
returns-in_err-row-clause-absent g c =
    let table = c.args.self.now in
    spot_new table.pages.items table.places.entries c.args.key c.args.spot table.listed c.requires.spot

pub index_mut-requires : goal.index_mut-requires
index_mut-requires g c =
    let lt : c.args.spot.page < length c.args.self.now.pages.items =
    spot_within c.args.self.now.pages.items c.args.key c.args.spot c.requires.spot in
    search rules

pub put-requires-clause-has : goal.put-requires-clause-has
put-requires-clause-has g c =
    (spot_at c.args.self.now.pages.items c.args.key c.args.spot c.index_mut.result.now c.requires.spot c.index_mut.ensures.value).1

pub put-requires-clause-goes : goal.put-requires-clause-goes
put-requires-clause-goes g c =
    (spot_at c.args.self.now.pages.items c.args.key c.args.spot c.index_mut.result.now c.requires.spot c.index_mut.ensures.value).2

pub put-requires-clause-room : goal.put-requires-clause-room
put-requires-clause-room g c =
    let at = spot_at c.args.self.now.pages.items c.args.key c.args.spot c.index_mut.result.now c.requires.spot c.index_mut.ensures.value in
    subst HasRoomIn at.0 c.requires.room

pub invariant_of-self : goal.invariant_of-self
invariant_of-self g c =
    let table = c.args.self.now in
    let page = c.index_mut.result.now in
    let rows = rows_along table.pages.items (values_of table.places.entries) in
    let at = spot_at table.pages.items c.args.key c.args.spot page c.requires.spot c.index_mut.ensures.value in
    let none = spot_new table.pages.items table.places.entries c.args.key c.args.spot table.listed c.requires.spot in
    let put =
    rows-put table.pages.items table.places.entries c.args.spot.page c.args.key c.in_ok-row.row page c.put.new.self table.listed at.0 at.1
    c.put.ensures.from c.put.ensures.to c.put.ensures.rows in
    record {
      listed = listed-replaced table.pages.items table.places.entries c.args.spot.page page c.put.new.self table.listed at.0
          c.put.ensures.from c.put.ensures.to;
      count = ap (λ (n : ℕ). n + 1) table.count
          ∙ sym (ap (λ (l : List (ℕ × g.row.V.Denot)). length l) put ∙ insert-length rows c.args.key c.in_ok-row.row none);
    }

pub returns-clause-ok : goal.returns-clause-ok
returns-clause-ok g c =
    let table = c.args.self.now in
    let page = c.index_mut.result.now in
    let at = spot_at table.pages.items c.args.key c.args.spot page c.requires.spot c.index_mut.ensures.value in (
      c.in_ok-row.row,
      c.in_ok-row.ensures.ok,
      rows-put table.pages.items table.places.entries c.args.spot.page c.args.key c.in_ok-row.row page c.put.new.self table.listed at.0 at.1
          c.put.ensures.from c.put.ensures.to c.put.ensures.rows,
    )

pub returns-clause-absent : goal.returns-clause-absent
returns-clause-absent g c =
    let table = c.args.self.now in
    spot_new table.pages.items table.places.entries c.args.key c.args.spot table.listed c.requires.spot
