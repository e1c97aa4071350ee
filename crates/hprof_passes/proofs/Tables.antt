-- Facts of a table among all facts.
use Rattle.std.proofs.Common.{◌≡◌, ◌↔◌, Bool, true, false, cond, List, [], ◌∷◌, inl, inr, refl, sym, ap, subst, ◌∙◌}
use Rattle.std.specs.Prelude.{◌≢◌}
use Rattle.std.specs.List.{filter}
use Rattle.hprof_values.specs.declared.ids.IdSize.{IdSize}
use Rattle.hprof_items.specs.FactValue.{FactValue}
use Rattle.hprof_rows.specs.declared.table.Table.{Table}
use Rattle.hprof_rows.specs.declared.table.Table.TheVariants as tables
use Rattle.hprof_rows.specs.Facts.{Has}
use Rattle.hprof_rows.specs.Tables.{number_of_table, stands_in}
use Rattle.hprof_passes.specs.Passing.{IsWhole}

-- a fact that passes a test is one of the facts
pub has_of_filter : (test : FactValue → Bool) (facts : List FactValue) (fact : FactValue) → Has (filter test facts) fact → Has facts fact
has_of_filter test [] fact has = has
has_of_filter test (first ∷ facts) fact has = by_test (has_of_filter test facts fact) (test first) has where
  by_test : (Has (filter test facts) fact → Has facts fact) → (b : Bool)
      → Has (cond b (first ∷ filter test facts) (filter test facts)) fact → Has (first ∷ facts) fact
  by_test behind true has = elim has [ inl e ↦ inl e | inr later ↦ inr (behind later) ]
  by_test behind false has = inr (behind has)

-- one that passes it stands among those that do
has_in_filter : (test : FactValue → Bool) (facts : List FactValue) (fact : FactValue) → test fact ≡ true → Has facts fact
    → Has (filter test facts) fact
has_in_filter test [] fact passes has = has
has_in_filter test (first ∷ facts) fact passes has = by_test (has_in_filter test facts fact passes) (test first) refl has where
  by_test : (Has facts fact → Has (filter test facts) fact) → (b : Bool) → test first ≡ b → Has (first ∷ facts) fact
      → Has (cond b (first ∷ filter test facts) (filter test facts)) fact
  by_test behind true is has = elim has [ inl e ↦ inl e | inr later ↦ inr (behind later) ]
  by_test behind false is has = elim has [
    | inl e ↦ let no : true ≡ false = sym passes ∙ ap test e ∙ is in absurd cc
    | inr later ↦ behind later
  ]

-- a fact of another table than that of objects is one of the whole if it was there
pub has_same : (ids : IdSize) (facts all : List FactValue) → IsWhole ids facts all → (table : Table) → table ≢ tables.Objects
    → (fact : FactValue) → stands_in (number_of_table table) fact ≡ true → Has all fact ↔ Has facts fact
has_same ids facts all whole table other fact stands =
    let test = stands_in (number_of_table table) in
    let same = whole.others table other in (
      λ has. has_of_filter test facts fact (subst (λ (l : List FactValue). Has l fact) same (has_in_filter test all fact stands has)),
      λ has. has_of_filter test all fact (subst (λ (l : List FactValue). Has l fact) (sym same) (has_in_filter test facts fact stands has)),
    )
