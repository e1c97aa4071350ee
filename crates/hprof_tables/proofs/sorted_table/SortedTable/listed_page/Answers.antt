use Rattle.std.proofs.Common.{◌≡◌, ◌≤◌, ℕ, None, false, inl, inr, sym, ap, is_gt, ◌∙◌, arith, rules}
use Rattle.std.specs.Prelude.{is_some}
use Rattle.std.specs.declared.cmp.Ordering.TheVariants.{Less, Equal}
use Rattle.std.specs.Ordering.{nat_cmp, is_lt}
use Rattle.std.specs.Cmp.{nat_cmp_is}
use Rattle.std.proofs.lemmas.Bool.{cases_lt}
use Rattle.hprof_tables.specs.SortedRows.{row_at}
use Rattle.hprof_tables.proofs.Pages.{listed-first, listed-found}
use Rattle.hprof_tables.proofs.sorted_table.SortedTable.listed_page.Goals as goal

-- a key up to another is not greater
not_greater : (key other : ℕ) → key ≤ other → is_gt (nat_cmp key other) ≡ false
not_greater key other le = elim (cases_lt key other) [
  | inl lt ↦ sym (ap is_gt (nat_cmp_is key other Less lt))
  | inr more ↦ let same : key ≡ other = omega arith in sym (ap is_gt (nat_cmp_is key other Equal same))
]

-- a key that is not less is up to the other
not_less : (key other : ℕ) → is_lt (nat_cmp key other) ≡ false → other ≤ key
not_less key other not = elim (cases_lt key other) [
  | inl lt ↦ let less = ap is_lt (nat_cmp_is key other Less lt) in absurd cc
  | inr le ↦ le
]

pub returns : goal.returns
returns g c =
    let table = c.args.self.now in
    let entry = (c.range.ensures.in_range tt).3 _ _ c.in-Some.ensures.steps in
    listed-found table.pages.items table.places.entries c.in-Some.number.now c.in-Some.field-0-0.now c.args.key table.listed entry.1
    (search rules)
    (search rules) (λ other le there. not_less c.in-Some.field-0-0.now other
    ((c.range.ensures.in_range tt).4 _ _ c.in-Some.ensures.steps other (tt, not_greater other c.args.key le) there))

pub unreachable-requires : goal.unreachable-requires
unreachable-requires g c =
    let table = c.args.self.now in
    let there = listed-first table.pages.items table.places.entries table.listed c.requires in
    let none : row_at 0 table.places.entries ≡ None =
    (c.range.ensures.in_range tt).5 c.in-None.ensures.steps.0 0 (tt, not_greater 0 c.args.key (omega arith)) in
    let t = sym there ∙ ap is_some none in
    cc
