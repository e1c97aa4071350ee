use Rattle.std.proofs.Common.{◌+◌, ◌++◌, ◌∷◌, [], ℕ, List, length, ap, sym, ◌∙◌}
use Rattle.std.proofs.lemmas.List.{length-append}
use Rattle.hprof_tables.specs.SortedTable.{entries_of}
use Rattle.hprof_tables.proofs.Pages.{insert-length}
use Rattle.hprof_tables.proofs.PlacedRows.{added-rows, added-within, placed_none, visit_new}
use Rattle.hprof_tables.proofs.relation.Relation.add.Goals as goal

pub invariant_of-self-2 : goal.invariant_of-self-2
invariant_of-self-2 g c =
    let old = c.args.self.now in
    let row = c.args.row in
    let place = c.len.result in
    let rows = c.push_reserved.ensures.items ∙ ap (λ (l : List g.row.V.Denot). l ++ row ∷ []) c.reserve.ensures.items in
    let last = c.len.ensures ∙ c.reserve.new.self.ok.0 ∙ ap (λ (l : List g.row.V.Denot). length l) c.reserve.ensures.items in
    let none = placed_none old.rows.items (entries_of old.places) c.args.key old.sound c.requires in
    let put = visit_new _ place c.args.key (entries_of old.places) (entries_of c.visit.new.self) c.in_ok-visit.field-0
    c.in_ok-visit.ensures.ok none in
    let more = ap (λ (l : List g.row.V.Denot). length l) rows ∙ length-append old.rows.items (row ∷ []) in
    let entries = ap (λ (l : List (ℕ × ℕ)). length l) put ∙ insert-length (entries_of old.places) c.args.key place none in
    record {
      sound = added-within old.rows.items c.push_reserved.new.self.items (entries_of old.places) (entries_of c.visit.new.self) c.args.key
          place row old.sound rows last put;
      count = more ∙ ap (λ (n : ℕ). n + 1) old.count ∙ sym entries;
    }

pub returns-clause-ok : goal.returns-clause-ok
returns-clause-ok g c =
    let old = c.args.self.now in
    let row = c.args.row in
    let place = c.len.result in
    let rows = c.push_reserved.ensures.items ∙ ap (λ (l : List g.row.V.Denot). l ++ row ∷ []) c.reserve.ensures.items in
    let last = c.len.ensures ∙ c.reserve.new.self.ok.0 ∙ ap (λ (l : List g.row.V.Denot). length l) c.reserve.ensures.items in
    let put = visit_new _ place c.args.key (entries_of old.places) (entries_of c.visit.new.self) c.in_ok-visit.field-0
    c.in_ok-visit.ensures.ok
    (placed_none old.rows.items (entries_of old.places) c.args.key old.sound c.requires) in
    added-rows old.rows.items c.push_reserved.new.self.items (entries_of old.places) (entries_of c.visit.new.self) c.args.key
    place row old.sound rows last put
