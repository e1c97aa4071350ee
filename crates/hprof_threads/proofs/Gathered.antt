-- What is gathered of the facts of a table, one by one.
use Rattle.std.proofs.Common.{◌≡◌, ◌⊎◌, ◌↔◌, inl, inr, true, arith, List, [], ◌∷◌, ◌++◌, refl, sym, ap, subst, ◌∙◌}
use Rattle.std.proofs.Common.{append_assoc, append-nil}
use Rattle.std.specs.Prelude.{Contains}
use Rattle.std.specs.List.{flat_map}
use Rattle.std.proofs.lemmas.List.Elements.{Contains-append_cases, Contains-append_left, Contains-append_right}
use Rattle.hprof_items.specs.FactValue.{FactValue}
use Rattle.hprof_rows.specs.declared.table.Table.{Table}
use Rattle.hprof_rows.specs.Facts.{Has}
use Rattle.hprof_rows.specs.Tables.{facts_of_table, number_of_table, stands_in}
use Rattle.hprof_rows.proofs.Picking.{picked, picked_is}

-- nothing is an element of no list
pub none_there : {A : Type 0} (x : A) → Contains [] x → ⊥
none_there x has = omega (arith, has.1)

module _ {A : Type 0} (of_fact : FactValue → List A) where
  -- one of the facts gives it
  pub record IsOf (facts : List FactValue) (x : A) : Type 0 where
    pub fact : FactValue
    pub has : Has facts fact
    pub gives : Contains (of_fact fact) x

  pub given : (facts : List FactValue) (x : A) → Contains (flat_map of_fact facts) x → IsOf facts x
  given [] x has = absurd (none_there x has)
  given (fact ∷ facts) x has = elim (Contains-append_cases (of_fact fact) (flat_map of_fact facts) x has) [
    | inl here ↦ record { fact = fact; has = inl refl; gives = here }
    | inr later ↦ let is = given facts x later in record { fact = is.fact; has = inr is.has; gives = is.gives }
  ]

  pub gathered : (facts : List FactValue) (x : A) (fact : FactValue) → Has facts fact → Contains (of_fact fact) x
      → Contains (flat_map of_fact facts) x
  gathered [] x fact has gives = absurd has
  gathered (first ∷ facts) x fact has gives = elim has [
    | inl is ↦ Contains-append_left (of_fact first) (flat_map of_fact facts) x (subst (λ (f : FactValue). Contains (of_fact f) x) is gives)
    | inr later ↦ Contains-append_right (of_fact first) (flat_map of_fact facts) x (gathered facts x fact later gives)
  ]

  -- ---- a loop

  -- what was gathered behind what was there before, and then what is left, is what all give
  abbrev pub AreGathered : (all : List FactValue) (before so_far : List A) (left : List FactValue) → Type 0
  AreGathered all before so_far left = so_far ++ flat_map of_fact left ≡ before ++ flat_map of_fact all

  pub gathered_more : (all left rest : List FactValue) (before so_far after : List A) (fact : FactValue) → left ≡ fact ∷ rest
      → after ≡ so_far ++ of_fact fact → AreGathered all before so_far left → AreGathered all before after rest
  gathered_more all left rest before so_far after fact e more are =
      ap (λ (l : List A). l ++ flat_map of_fact rest) more ∙ append_assoc so_far (of_fact fact) (flat_map of_fact rest)
      ∙ ap (λ (l : List FactValue). so_far ++ flat_map of_fact l) (sym e) ∙ are

  pub gathered_all : (all left : List FactValue) (before so_far : List A) → left ≡ [] → AreGathered all before so_far left
      → so_far ≡ before ++ flat_map of_fact all
  gathered_all all left before so_far none are =
      sym (append-nil so_far) ∙ ap (λ (l : List FactValue). so_far ++ flat_map of_fact l) (sym none) ∙ are

  -- ---- the facts of a table

  -- a fact that gives something stands in that table
  abbrev pub GivesInTable : Table → Type 0
  GivesInTable table = (fact : FactValue) (x : A) → Contains (of_fact fact) x → stands_in (number_of_table table) fact ≡ true

  pub of_table : (table : Table) → GivesInTable table → (facts : List FactValue) (before so_far : List A)
      → so_far ≡ before ++ flat_map of_fact (facts_of_table table facts) → (x : A)
      → Contains so_far x ↔ (Contains before x ⊎ IsOf facts x)
  of_table table in_table facts before so_far is x = (
    λ has. elim (Contains-append_cases before (flat_map of_fact (facts_of_table table facts)) x
        (subst (λ (l : List A). Contains l x) is has)) [
          | inl there ↦ inl there
          | inr here ↦ (let one = given (facts_of_table table facts) x here in
              inr (record {
                fact = one.fact;
                has = (picked_is (stands_in (number_of_table table)) facts one.fact one.has).has;
                gives = one.gives;
              }))
        ],
    λ one. subst (λ (l : List A). Contains l x) (sym is) (elim one [
      | inl there ↦ Contains-append_left before (flat_map of_fact (facts_of_table table facts)) x there
      | inr here ↦ Contains-append_right before (flat_map of_fact (facts_of_table table facts)) x
          (gathered (facts_of_table table facts) x here.fact
          (picked (stands_in (number_of_table table)) facts here.fact
          (record { has = here.has; passes = in_table here.fact x here.gives })) here.gives)
    ]),
  )
