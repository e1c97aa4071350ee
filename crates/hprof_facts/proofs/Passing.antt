-- A reader goes past facts, or stops before.
use Rattle.std.proofs.Common.{◌≡◌, ℕ, ◌+◌, ◌<◌, Bool, true, false, List, ◌∷◌, [], ◌++◌, length, Option, Result, Ok, Err, arith, refl, subst}
use Rattle.std.proofs.lemmas.List.{length-append}
use Rattle.hprof_devices.specs.declared.health.Health.{Health}
use Rattle.hprof_items.specs.FactValue.{FactValue}
use Rattle.hprof_stream.specs.declared.part_fault.PartFault.{PartFault}
use Rattle.hprof_facts.specs.declared.fact_reader.FactReader.{FactReader}
use Rattle.hprof_facts.specs.FactReader.{AdvancesFrom, HasGivenFrom, HasPassed, IsOver, Origin}

module _ {R : Type 0} (left : R → Option (List ℕ)) (health : R → Health) (pulls : R → ℕ) (origin : Origin) (was : R) where
  -- it has gone past so many
  abbrev pub HasGone : ℕ → FactReader R → Type 0
  HasGone count reader = (given : List FactValue) × HasGivenFrom left health pulls origin was given reader × (length given ≡ count)

  -- one more
  pub goes_past : (count : ℕ) (before reader : FactReader R) (result : Result Bool PartFault) → result ≡ Ok true
      → ((given : List FactValue) → HasGivenFrom left health pulls origin was given before
      → AdvancesFrom left health pulls origin was given result reader)
      → HasGone count before → HasGone (count + 1) reader
  goes_past count before reader result is advances gone =
      let next = subst (λ (r : Result Bool PartFault). AdvancesFrom left health pulls origin was gone.0 r reader) is (advances gone.0
      gone.1)
      in
      let same = gone.2 in
      (gone.0 ++ next.0 ∷ [], next.1, omega (arith, same, length-append gone.0 (next.0 ∷ [])))

  -- none is left
  stops : (given : List FactValue) (reader : FactReader R) (result : Result Bool PartFault) → (result ≡ Ok true → ⊥)
      → AdvancesFrom left health pulls origin was given result reader
      → HasGivenFrom left health pulls origin was given reader × IsOver reader
  stops given reader (Ok true) never advances = absurd (never refl)
  stops given reader (Ok false) never advances = (advances.0, advances.1)
  stops given reader (Err fault) never advances = (advances.0, advances.1)

  pub passes_few : (count all : ℕ) (before reader : FactReader R) (result : Result Bool PartFault) → count < all → (result ≡ Ok true → ⊥)
      → ((given : List FactValue) → HasGivenFrom left health pulls origin was given before
      → AdvancesFrom left health pulls origin was given result reader)
      → HasGone count before → HasPassed left health pulls origin was all reader
  passes_few count all before reader result few never advances gone =
      let it = stops gone.0 reader result never (advances gone.0 gone.1) in
      let same = gone.2 in
      record { passed = gone.0; given = it.0; few = omega (arith, same, few); over = λ fewer. it.1 }

  pub passes_all : (count all : ℕ) (reader : FactReader R) → count ≡ all → HasGone count reader
      → HasPassed left health pulls origin was all reader
  passes_all count all reader each gone =
      let same = gone.2 in
      record {
        passed = gone.0;
        given = gone.1;
        few = omega (arith, same, each);
        over = λ fewer. absurd (omega (arith, fewer, same, each));
      }
