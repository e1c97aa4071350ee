use Rattle.std.proofs.Common.{arith, length, refl, ap, sym, ◌∙◌, slice_get}
use Rattle.std.specs.Option.{option_and_then, option_copied}
use Rattle.std.proofs.lemmas.Option.{slice_get_read}
use Rattle.hprof_tables.specs.SortedTable.{entries_of}
use Rattle.hprof_tables.proofs.PlacedRows.{place_within, placed_row}
use Rattle.hprof_tables.proofs.relation.Relation.get.Goals as goal

pub returns-in_err-place : goal.returns-in_err-place
returns-in_err-place g c =
    let table = c.args.self.now in
    ap option_copied c.from_residual.ensures ∙ sym (placed_row c.args.key table.rows.items (entries_of table.places) table.sound
    ∙ ap (option_and_then (slice_get table.rows.items)) (sym c.in_err-place.ensures))

pub index-requires : goal.index-requires
index-requires g c =
    let table = c.args.self.now in
    let count = table.rows.ok.0 in
    omega (
      arith,
      place_within table.rows.items (entries_of table.places) c.args.key c.in_ok-place.place.now table.sound (sym c.in_ok-place.ensures),
    )

pub returns : goal.returns
returns g c =
    let table = c.args.self.now in
    let rows = table.rows.items in
    let place = c.in_ok-place.place.now in
    sym (placed_row c.args.key rows (entries_of table.places) table.sound
    ∙ ap (option_and_then (slice_get rows)) (sym c.in_ok-place.ensures)
    ∙ slice_get_read rows (length rows) place c.index.result.now refl
    (place_within rows (entries_of table.places) c.args.key place table.sound (sym c.in_ok-place.ensures)) c.index.ensures)
