-- The place behind the facts that a reader has given, as pieces come and facts go.
use Rattle.std.proofs.Common.{◌≡◌, ℕ, ◌+◌, false, List, [], ◌∷◌, ◌++◌, Option, Some, None, IfSome, IsSome, refl, sym, subst, ap, arith}
use Rattle.std.proofs.Common.{append_assoc, append-nil, ◌∙◌}
use Rattle.std.proofs.KnownBytes.{Consumes-trans}
use Rattle.std.proofs.lemmas.List.{length-append}
use Rattle.std.specs.Io.KnownBytes.{Consumes}
use Rattle.hprof_devices.specs.declared.health.Health.{Health}
use Rattle.hprof_items.specs.FactValue.{FactValue}
use Rattle.hprof_stream.specs.declared.limits.Limits.{Limits}
use Rattle.hprof_stream.specs.declared.part_place.PartPlace.{PartPlace}
use Rattle.hprof_stream.specs.declared.part_reader.PartReader.{PartReader}
use Rattle.hprof_stream.specs.PartPlaces.{IsPlaceBehind}
use Rattle.hprof_stream.specs.Reader.{HasRead, has_failed}
use Rattle.hprof_facts.specs.FactReader.{IsPlacedBy, Origin}

-- what `PartReader::place` answers
abbrev pub IsPlaceOf : PartReader → Option PartPlace → Type 0
IsPlaceOf part answer = IfSome answer (λ place. (limits : Limits) (bytes : List ℕ) (facts : List FactValue)
    → HasRead limits bytes facts part
    → (front rest : List ℕ) × (bytes ≡ front ++ rest) × IsPlaceBehind limits front facts place)

module _ {R : Type 0} (left : R → Option (List ℕ)) (health : R → Health) (pulls : R → ℕ) (origin : Origin) (was : R) where
  -- the place behind the items that were read is behind their facts
  pub placed_now : (part : PartReader) (is : R) (came : List ℕ) (facts : List FactValue) (answer : Option PartPlace)
      → Consumes (left was) (left is) came → HasRead origin.limits (origin.front ++ came) (origin.told ++ facts) part
      → (has_failed part ≡ false → IsSome answer) → IsPlaceOf part answer
      → IsPlacedBy left health pulls origin was is facts answer 0
  placed_now part is came facts None gave read some behind = let never = some read.sound in absurd cc
  placed_now part is came facts (Some place) gave read some behind =
      let at = behind origin.limits (origin.front ++ came) (origin.told ++ facts) read in (
        place,
        refl,
        record {
          came = came;
          gave = gave;
          behind = record {
            front = at.0;
            rest = at.1;
            told = origin.told ++ facts;
            passed = [];
            parts = at.2;
            has_facts = sym (append-nil (origin.told ++ facts));
            behind = at.3;
            count = refl;
          };
        },
      )

  -- none of the queue was given yet
  pub placed_same : (is : R) (given : List FactValue) (place : Option PartPlace) (passed : ℕ) → passed ≡ 0
      → IsPlacedBy left health pulls origin was is given place 0 → IsPlacedBy left health pulls origin was is given place passed
  placed_same is given place passed none at =
      subst (λ (n : ℕ). IsPlacedBy left health pulls origin was is given place n) (sym none) at

  -- more bytes came
  pub placed_on : (before is : R) (piece : List ℕ) (given : List FactValue) (place : Option PartPlace) (passed : ℕ)
      → Consumes (left before) (left is) piece → IsPlacedBy left health pulls origin was before given place passed
      → IsPlacedBy left health pulls origin was is given place passed
  placed_on before is piece given place passed last at =
      let it = at.2 in
      let behind = it.behind in (
        at.0,
        at.1,
        record {
          came = it.came ++ piece;
          gave = Consumes-trans (left was) (left before) (left is) it.came piece it.gave last;
          behind = record {
            front = behind.front;
            rest = behind.rest ++ piece;
            told = behind.told;
            passed = behind.passed;
            parts = sym (append_assoc origin.front it.came piece) ∙ ap (λ (b : List ℕ). b ++ piece) behind.parts
                ∙ append_assoc behind.front behind.rest piece;
            has_facts = behind.has_facts;
            behind = behind.behind;
            count = behind.count;
          };
        },
      )

  -- one more fact was given
  pub placed_past : (is : R) (given : List FactValue) (fact : FactValue) (place : Option PartPlace) (passed more : ℕ) → more ≡ passed + 1
      → IsPlacedBy left health pulls origin was is given place passed
      → IsPlacedBy left health pulls origin was is (given ++ fact ∷ []) place more
  placed_past is given fact place passed more one at =
      let it = at.2 in
      let behind = it.behind in
      let count = behind.count in (
        at.0,
        at.1,
        record {
          came = it.came;
          gave = it.gave;
          behind = record {
            front = behind.front;
            rest = behind.rest;
            told = behind.told;
            passed = behind.passed ++ fact ∷ [];
            parts = behind.parts;
            has_facts = sym (append_assoc origin.told given (fact ∷ []))
                ∙ ap (λ (l : List FactValue). l ++ fact ∷ []) behind.has_facts
                ∙ append_assoc behind.told behind.passed (fact ∷ []);
            behind = behind.behind;
            count = omega (arith, one, count, length-append behind.passed (fact ∷ []));
          };
        },
      )
