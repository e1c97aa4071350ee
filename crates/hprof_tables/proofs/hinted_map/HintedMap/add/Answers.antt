use Rattle.std.proofs.Common.{◌≡◌, ◌++◌, ◌∷◌, [], ℕ, List, length, Some, ap, ◌∙◌, arith}
use Rattle.std.specs.Map.{lookup}
use Rattle.std.specs.Prelude.{nat_eq}
use Rattle.hprof_tables.specs.SortedRows.{row_at}
use Rattle.hprof_tables.proofs.Places.{found_added, places_added, rows_added}
use Rattle.hprof_tables.proofs.hinted_map.HintedMap.add.Goals as goal

pub invariant_of-self-in-Break-branch-2 : goal.invariant_of-self-in-Break-branch-2
invariant_of-self-in-Break-branch-2 g c = record { sound = rw c.reserve.ensures.items c.args.self.now.sound }

pub invariant_of-self-in-Break-branch-3 : goal.invariant_of-self-in-Break-branch-3
invariant_of-self-in-Break-branch-3 g c = record {
  sound = rw (c.reserve.ensures.items, c.in_err-insert.ensures.err) c.args.self.now.sound;
}

pub invariant_of-self-2 : goal.invariant_of-self-2
invariant_of-self-2 g c =
    let map = c.args.self.now in
    let reserved = c.reserve.ensures.items in
    let rows = c.in_ok-push.ensures.items in
    let updates = c.in_ok-insert.ensures.updates in
    let places = places_added map.rows.items map.places.entries c.insert.new.self.entries c.args.key map.sound c.requires updates.2 in
    let len = c.reserve.new.self.ok.0 in
    let count = c.len-place.ensures in
    let same = ap (λ (rs : List (ℕ × g.row.V.Denot)). length rs) reserved in
    let all : c.len-place.result ≡ length map.rows.items = omega arith in
    let last : row_at c.args.key c.insert.new.self.entries ≡ Some (length map.rows.items) = updates.1 ∙ ap Some all in
    record { sound = rw (rows, reserved) (rows_added map.rows.items c.insert.new.self.entries c.args.key c.args.value places last) }

pub returns-clause-ok : goal.returns-clause-ok
returns-clause-ok g c = λ at.
    let map = c.args.self.now in
    ap (λ (rows : List (ℕ × g.row.V.Denot)). lookup (nat_eq at) rows) c.in_ok-push.ensures.items
    ∙ ap (λ (rows : List (ℕ × g.row.V.Denot)). lookup (nat_eq at) (rows ++ (c.args.key, c.args.value) ∷ [])) c.reserve.ensures.items
    ∙ found_added map.rows.items c.args.key c.args.value c.requires at
