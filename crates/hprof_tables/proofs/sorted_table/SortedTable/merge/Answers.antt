use Rattle.std.proofs.Common.{◌≡◌, ◌+◌, ◌∷◌, ℕ, List, [], length, sym, subst, ap, ◌∙◌, rules, arith}
use Rattle.std.specs.Map.{values_of}
use Rattle.hprof_tables.specs.SortedRows.{IsAscending}
use Rattle.hprof_tables.specs.Pages.{rows_along}
use Rattle.hprof_tables.specs.Union.{AreUnion}
use Rattle.hprof_tables.proofs.SortedRows.{merged-length}
use Rattle.hprof_tables.proofs.Pages.{listed-ascending}
use Rattle.hprof_tables.proofs.TablePages.{all_merged, single_listed, single_rows}
use Rattle.hprof_tables.proofs.Unions.{merged_union, nothing_taken}
use Rattle.hprof_tables.proofs.sorted_table.SortedTable.merge.Goals as goal

pub returns-then-is_empty-clause-ok : goal.returns-then-is_empty-clause-ok
returns-then-is_empty-clause-ok g c =
    let old = c.args.self.now in
    let none : length c.args.fresh.items ≡ 0 = search rules in
    nothing_taken (rows_along old.pages.items (values_of old.places.entries)) c.args.fresh.items
    (listed-ascending old.pages.items old.places.entries old.listed) none

pub of-requires : goal.of-requires
of-requires g c =
    let old = c.args.self.now in
    let fresh = c.args.fresh.items in
    let rows = rows_along old.pages.items (values_of old.places.entries) in
    let all =
    all_merged old c.replace-old.result fresh c.reserve_exact.new.self.items c.move_rows.new.rows.items
    c.reserve_exact-2.new.self.items c.merge_into.new.all.items (search rules) c.replace-old.ensures.value c.move_rows.ensures
    (search rules)
    c.merge_into.ensures in
    subst IsAscending (sym all)
    (merged_union rows fresh (listed-ascending old.pages.items old.places.entries old.listed) c.requires.ascending c.requires.apart).ascends

pub invariant_of-drop : goal.invariant_of-drop
invariant_of-drop g c =
    let old = c.args.self.now in
    let fresh = c.args.fresh.items in
    let rows = rows_along old.pages.items (values_of old.places.entries) in
    let all =
    all_merged old c.replace-old.result fresh c.reserve_exact.new.self.items c.move_rows.new.rows.items
    c.reserve_exact-2.new.self.items c.merge_into.new.all.items (search rules) c.replace-old.ensures.value c.move_rows.ensures
    (search rules)
    c.merge_into.ensures in
    let none : c.reserve_exact-3.new.self.items ≡ [] = search rules in
    let places : c.insert.new.self.entries ≡ (0, 0) ∷ [] = search rules in
    let single =
    single_rows c.reserve_exact-3.new.self.items c.push_reserved.new.self.items c.insert.new.self.entries c.of.result none
    c.push_reserved.ensures.items places
    ∙ c.of.ensures.rows ∙ all in
    let both = ap (λ (l : List (ℕ × g.row.V.Denot)). length l) single ∙ merged-length rows fresh in
    let count = old.count in
    let more : c.len.result ≡ length fresh = search rules in
    let sum : c.in-Some.len ≡ old.len + c.len.result = search rules in
    let len : c.in-Some.len ≡ length rows + length fresh = omega arith in
    record {
      listed = single_listed c.reserve_exact-3.new.self.items c.push_reserved.new.self.items c.insert.new.self.entries c.of.result none
          c.push_reserved.ensures.items places c.of.ensures.from c.of.ensures.to;
      count = len ∙ sym both;
    }

pub returns-clause-ok : goal.returns-clause-ok
returns-clause-ok g c =
    let old = c.args.self.now in
    let fresh = c.args.fresh.items in
    let rows = rows_along old.pages.items (values_of old.places.entries) in
    let all =
    all_merged old c.replace-old.result fresh c.reserve_exact.new.self.items c.move_rows.new.rows.items
    c.reserve_exact-2.new.self.items c.merge_into.new.all.items (search rules) c.replace-old.ensures.value c.move_rows.ensures
    (search rules)
    c.merge_into.ensures in
    let none : c.reserve_exact-3.new.self.items ≡ [] = search rules in
    let places : c.insert.new.self.entries ≡ (0, 0) ∷ [] = search rules in
    let single =
    single_rows c.reserve_exact-3.new.self.items c.push_reserved.new.self.items c.insert.new.self.entries c.of.result none
    c.push_reserved.ensures.items places
    ∙ c.of.ensures.rows ∙ all in
    subst (AreUnion rows fresh) (sym single)
    (merged_union rows fresh (listed-ascending old.pages.items old.places.entries old.listed) c.requires.ascending c.requires.apart)
