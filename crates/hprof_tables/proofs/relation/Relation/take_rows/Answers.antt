use Rattle.std.proofs.Common.{◌≤◌, ◌+◌, ◌++◌, ℕ, List, length, vec_len, vec_capacity, refl, ap, ◌∙◌, arith}
use Rattle.std.proofs.lemmas.List.{length-append}
use Rattle.hprof_tables.specs.SortedTable.{entries_of}
use Rattle.hprof_tables.proofs.Pages.{listed-ascending}
use Rattle.hprof_tables.proofs.Unions.{union-length}
use Rattle.hprof_tables.proofs.PlacedRows.{copied_count, counted, numbered-length, put_behind, taken_apart, taken_ascend}
use Rattle.hprof_tables.proofs.PlacedRows.{taken_union, taken_within}
use Rattle.hprof_tables.proofs.relation.Relation.take_rows.Goals as goal

pub merge-requires-clause-ascending : goal.merge-requires-clause-ascending
merge-requires-clause-ascending g c =
    let old = c.args.self.now in
    let content = g.V.Content.content in
    let put = counted old.rows.items c.reserve.new.self.items c.args.lent.items c.deref.result.now c.in_ok-fresh.fresh.items _ _
    c.in_ok-fresh.ensures c.len-2.ensures c.reserve.new.self.ok.0 c.reserve.ensures.items c.deref.ensures.value in
    taken_ascend content (λ row. content row.now) old.rows.items c.in_ok-copied.copied.items (old.rows.items ++ c.in_ok-copied.copied.items)
    (entries_of old.places) c.args.lent.items c.in_ok-fresh.fresh.items old.sound refl put c.in_ok-copied.ensures c.requires.ascending

pub merge-requires-clause-apart : goal.merge-requires-clause-apart
merge-requires-clause-apart g c =
    let old = c.args.self.now in
    let content = g.V.Content.content in
    let put = counted old.rows.items c.reserve.new.self.items c.args.lent.items c.deref.result.now c.in_ok-fresh.fresh.items _ _
    c.in_ok-fresh.ensures c.len-2.ensures c.reserve.new.self.ok.0 c.reserve.ensures.items c.deref.ensures.value in
    taken_apart content (λ row. content row.now) old.rows.items c.in_ok-copied.copied.items (old.rows.items ++ c.in_ok-copied.copied.items)
    (entries_of old.places) c.args.lent.items c.in_ok-fresh.fresh.items old.sound refl put c.in_ok-copied.ensures c.requires.apart

pub invariant_of-self-2 : goal.invariant_of-self-2
invariant_of-self-2 g c =
    let old = c.args.self.now in
    let content = g.V.Content.content in
    let copied = c.in_ok-copied.copied in
    let put = counted old.rows.items c.reserve.new.self.items c.args.lent.items c.deref.result.now c.in_ok-fresh.fresh.items _ _
    c.in_ok-fresh.ensures c.len-2.ensures c.reserve.new.self.ok.0 c.reserve.ensures.items c.deref.ensures.value in
    let room : vec_len c.reserve.new.self + vec_len copied ≤ vec_capacity c.reserve.new.self =
    omega (
      arith,
      c.in_ok-reserve.ensures.ok,
      c.len.ensures,
      c.args.lent.ok.0,
      copied.ok.0,
      copied_count content (λ row. content row.now) copied.items c.args.lent.items c.in_ok-copied.ensures,
    ) in
    let rows = put_behind c.append.result c.reserve.new.self.items copied.items c.append.new.self.items (c.append.ensures.succeeds room)
    c.append.ensures.items ∙ ap (λ (l : List g.row.V.Denot). l ++ copied.items) c.reserve.ensures.items in
    let ascending =
    taken_ascend content (λ row. content row.now) old.rows.items copied.items (old.rows.items ++ copied.items) (entries_of old.places)
    c.args.lent.items c.in_ok-fresh.fresh.items old.sound refl put c.in_ok-copied.ensures c.requires.ascending in
    let apart =
    taken_apart content (λ row. content row.now) old.rows.items copied.items (old.rows.items ++ copied.items) (entries_of old.places)
    c.args.lent.items c.in_ok-fresh.fresh.items old.sound refl put c.in_ok-copied.ensures c.requires.apart in
    let entries =
    union-length (entries_of old.places) c.in_ok-fresh.fresh.items (entries_of c.merge.new.self)
    (listed-ascending old.places.pages.items old.places.places.entries old.places.listed) ascending apart c.in_ok-merge.ensures.ok in
    let fresh = ap (λ (l : List (ℕ × ℕ)). length l) put ∙ numbered-length (length old.rows.items) c.args.lent.items in
    let all = ap (λ (l : List g.row.V.Denot). length l) rows ∙ length-append old.rows.items copied.items in
    let copies = copied_count content (λ row. content row.now) copied.items c.args.lent.items c.in_ok-copied.ensures in
    let old_count = old.count in
    record {
      sound = taken_within content (λ row. content row.now) old.rows.items copied.items c.append.new.self.items
          (entries_of old.places) c.args.lent.items c.in_ok-fresh.fresh.items old.sound rows put c.in_ok-copied.ensures
          (entries_of c.merge.new.self) c.in_ok-merge.ensures.ok;
      count = omega arith;
    }

pub returns-clause-ok : goal.returns-clause-ok
returns-clause-ok g c =
    let old = c.args.self.now in
    let content = g.V.Content.content in
    let copied = c.in_ok-copied.copied in
    let put = counted old.rows.items c.reserve.new.self.items c.args.lent.items c.deref.result.now c.in_ok-fresh.fresh.items _ _
    c.in_ok-fresh.ensures c.len-2.ensures c.reserve.new.self.ok.0 c.reserve.ensures.items c.deref.ensures.value in
    let rows = c.in-Ok.ensures.items ∙ ap (λ (l : List g.row.V.Denot). l ++ copied.items) c.reserve.ensures.items in
    taken_union content (λ row. content row.now) old.rows.items copied.items c.append.new.self.items
    (entries_of old.places) c.args.lent.items c.in_ok-fresh.fresh.items old.sound rows put c.in_ok-copied.ensures
    (entries_of c.merge.new.self) c.in_ok-merge.ensures.ok
