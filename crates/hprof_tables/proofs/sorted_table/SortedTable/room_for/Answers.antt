use Rattle.std.proofs.Common.{ℕ, List, length, ap, subst, sym, inl, inr, ◌∙◌}
use Rattle.hprof_tables.specs.declared.sorted_table.SortedTable.{SortedTable}
use Rattle.hprof_tables.specs.SortedTable.{HasRoomIn, LacksRoomThere}
use Rattle.hprof_tables.proofs.Pages.{get_replaced, listed-replaced, rows-replaced}
use Rattle.hprof_tables.proofs.SortedList.{at_err}
use Rattle.hprof_tables.proofs.TablePages.{spot_at, spot_stays}
use Rattle.hprof_tables.proofs.sorted_table.SortedTable.room_for.Goals as goal

pub invariant_of-self : goal.invariant_of-self
invariant_of-self g c =
    let now = c.cut_spot.new.self in
    let spot = c.in_ok-spot.spot in
    let page = c.index_mut.result.now in
    let new = c.make_room.new.self in
    let room = c.make_room.ensures in
    let at = spot_at now.pages.items c.args.key spot page c.in_ok-spot.ensures.ok c.index_mut.ensures.value in
    record {
      listed = listed-replaced now.pages.items now.places.entries spot.page page new now.listed at.0 room.from room.to;
      count = now.count ∙ sym (ap (λ (l : List (ℕ × g.row.V.Denot)). length l)
          (rows-replaced now.pages.items now.places.entries spot.page page new at.0 room.rows));
    }

pub returns-in_err-make_room-clause-rows : goal.returns-in_err-make_room-clause-rows
returns-in_err-make_room-clause-rows g c =
    let now = c.cut_spot.new.self in
    let spot = c.in_ok-spot.spot in
    let page = c.index_mut.result.now in
    let new = c.make_room.new.self in
    let room = c.make_room.ensures in
    let at = spot_at now.pages.items c.args.key spot page c.in_ok-spot.ensures.ok c.index_mut.ensures.value in
    rows-replaced now.pages.items now.places.entries spot.page page new at.0 room.rows ∙ c.cut_spot.ensures.rows

pub returns-in_err-make_room-clause-full : goal.returns-in_err-make_room-clause-full
returns-in_err-make_room-clause-full g c =
    let now = c.cut_spot.new.self in
    let spot = c.in_ok-spot.spot in
    let page = c.index_mut.result.now in
    let new = c.make_room.new.self in
    let room = c.make_room.ensures in
    let at = spot_at now.pages.items c.args.key spot page c.in_ok-spot.ensures.ok c.index_mut.ensures.value in
    at_err c.from_residual-in_err-make_room.result _ (elim c.cut_spot.ensures.same [
      | inl same ↦ inr (inl (subst (λ (t : SortedTable g.row.V.Denot). LacksRoomThere t.pages.items c.args.key) same (record {
        number = spot.page;
        page = page;
        there = at.0;
        has = at.1;
        lacks = inl c.in_err-make_room.ensures.full;
      })))
      | inr lacks ↦ lacks
    ])

pub returns-clause-rows : goal.returns-clause-rows
returns-clause-rows g c =
    let now = c.cut_spot.new.self in
    let spot = c.in_ok-spot.spot in
    let page = c.index_mut.result.now in
    let new = c.make_room.new.self in
    let room = c.make_room.ensures in
    let at = spot_at now.pages.items c.args.key spot page c.in_ok-spot.ensures.ok c.index_mut.ensures.value in
    rows-replaced now.pages.items now.places.entries spot.page page new at.0 room.rows ∙ c.cut_spot.ensures.rows

pub returns-clause-ok : goal.returns-clause-ok
returns-clause-ok g c =
    let now = c.cut_spot.new.self in
    let spot = c.in_ok-spot.spot in
    let page = c.index_mut.result.now in
    let new = c.make_room.new.self in
    let room = c.make_room.ensures in
    let at = spot_at now.pages.items c.args.key spot page c.in_ok-spot.ensures.ok c.index_mut.ensures.value in
    spot_stays now.pages.items c.args.key spot page new c.in_ok-spot.ensures.ok c.index_mut.ensures.value room.from room.to room.rows

pub returns-clause-room : goal.returns-clause-room
returns-clause-room g c =
    let now = c.cut_spot.new.self in
    let spot = c.in_ok-spot.spot in
    let page = c.index_mut.result.now in
    let new = c.make_room.new.self in
    let room = c.make_room.ensures in
    let at = spot_at now.pages.items c.args.key spot page c.in_ok-spot.ensures.ok c.index_mut.ensures.value in
    subst HasRoomIn (sym (get_replaced now.pages.items spot.page page new at.0)) c.in_ok-make_room.ensures.ok
