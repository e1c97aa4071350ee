-- The facts of some tables.
use Rattle.std.proofs.Common.{◌≡◌, ◌==◌, ℕ, Bool, true, false, ◌||◌, List, [], ◌∷◌, inl, inr, refl, sym, ap, ◌∙◌}
use Rattle.std.specs.Prelude.{◌≢◌, slice_index}
use Rattle.std.specs.List.{list_any}
use Rattle.std.proofs.lemmas.Bool.{eqb-true}
use Rattle.std.proofs.Math.Bool.{or-true}
use Rattle.hprof_items.specs.FactValue.{FactValue}
use Rattle.hprof_rows.specs.declared.table.Table.{Table}
use Rattle.hprof_rows.specs.declared.table.Table.TheVariants as tables
use Rattle.hprof_rows.specs.Facts.{Has}
use Rattle.hprof_rows.specs.Order.{order_of}
use Rattle.hprof_rows.specs.Tables.{facts_of_table, number_of_table, stands_in}
use Rattle.hprof_rows.proofs.FactSets.{Has-back, Has-front, Has-parts}
use Rattle.hprof_rows.proofs.Picking.{picked, picked_is}
use Rattle.hprof_heap.specs.OtherFacts.{other_facts, other_tables, tables_facts}

-- whether the fact stands in one of the tables
abbrev pub stands_among : List Table → FactValue → Bool
stands_among list fact = list_any (λ table. stands_in (number_of_table table) fact) list

-- a fact of the tables is one of the facts, and stands in one of them
pub record IsOfTables (list : List Table) (facts : List FactValue) (fact : FactValue) : Type 0 where
  pub has : Has facts fact
  pub stands : stands_among list fact ≡ true

pub of_tables : (list : List Table) (facts : List FactValue) (fact : FactValue) → Has (tables_facts list facts) fact
    → IsOfTables list facts fact
of_tables [] facts fact has = absurd has
of_tables (table ∷ list) facts fact has =
    elim (Has-parts (facts_of_table table facts) (tables_facts list facts) fact has) [
      | inl here ↦
          let is = picked_is (stands_in (number_of_table table)) facts fact here in
          record { has = is.has; stands = ap (λ (b : Bool). b || stands_among list fact) is.passes }
      | inr later ↦
          let is = of_tables list facts fact later in
          record {
            has = is.has;
            stands =
                ap (λ (b : Bool). stands_in (number_of_table table) fact || b) is.stands ∙ or-true (stands_in (number_of_table table) fact);
          }
    ]

-- and so is each fact that stands in one of them
pub in_tables : (list : List Table) (facts : List FactValue) (fact : FactValue) → IsOfTables list facts fact
    → Has (tables_facts list facts) fact
in_tables [] facts fact is = let no : false ≡ true = is.stands in absurd cc
in_tables (table ∷ list) facts fact is = by_test (in_tables list facts fact) (stands_in (number_of_table table) fact) refl where
  by_test : (IsOfTables list facts fact → Has (tables_facts list facts) fact) → (b : Bool) → stands_in (number_of_table table) fact ≡ b
      → Has (tables_facts (table ∷ list) facts) fact
  by_test later true here =
      Has-front (facts_of_table table facts) (tables_facts list facts) fact
      (picked (stands_in (number_of_table table)) facts fact (record { has = is.has; passes = here }))
  by_test later false not_here =
      Has-back (facts_of_table table facts) (tables_facts list facts) fact
      (later (record {
        has = is.has;
        stands = ap (λ (b : Bool). b || stands_among list fact) (sym not_here) ∙ is.stands;
      }))

-- ---- all tables but that of objects

-- whether one of the tables has the number
abbrev is_number : ℕ → Bool
is_number number = list_any (λ table. number == number_of_table table) other_tables

is_other : (table : Table) → table ≢ tables.Objects → is_number (number_of_table table) ≡ true
is_other tables.Names other = refl
is_other tables.Loads other = refl
is_other tables.Unloads other = refl
is_other tables.Frames other = refl
is_other tables.Traces other = refl
is_other tables.Starts other = refl
is_other tables.Ends other = refl
is_other tables.Roots other = refl
is_other tables.Classes other = refl
is_other tables.Objects other = absurd (other refl)

-- the number of the table in which a fact stands
number_is : (table : Table) (fact : FactValue) → stands_in (number_of_table table) fact ≡ true
    → slice_index (order_of fact) 0 ≡ number_of_table table
number_is table fact stands = eqb-true (slice_index (order_of fact) 0) (number_of_table table) stands

-- a fact of another table than that of objects is one of the others
pub is_other_fact : (table : Table) (facts : List FactValue) (fact : FactValue) → table ≢ tables.Objects
    → stands_in (number_of_table table) fact ≡ true → Has facts fact → Has (other_facts facts) fact
is_other_fact table facts fact other stands has =
    in_tables other_tables facts fact (record {
      has = has;
      stands = ap is_number (number_is table fact stands) ∙ is_other table other;
    })

-- an object is none of them
pub no_object : (facts : List FactValue) (fact : FactValue) → stands_in (number_of_table tables.Objects) fact ≡ true
    → Has (other_facts facts) fact → ⊥
no_object facts fact stands has =
    let is = of_tables other_tables facts fact has in
    let no : false ≡ true = sym (ap is_number (number_is tables.Objects fact stands)) ∙ is.stands in
    absurd cc
