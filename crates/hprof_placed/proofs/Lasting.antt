-- The place that a sink was told last, as facts come.
use Rattle.std.proofs.Common.{◌≡◌, ℕ, ◌+◌, List, [], ◌∷◌, ◌++◌, Option, Some, None, refl, sym, ap, subst, ◌∙◌, append_assoc}
use Rattle.std.proofs.Common.{append-nil, arith}
use Rattle.std.proofs.lemmas.List.{length-append}
use Rattle.hprof_items.specs.FactValue.{FactValue}
use Rattle.hprof_stream.specs.declared.limits.Limits.{Limits}
use Rattle.hprof_stream.specs.declared.part_place.PartPlace.{PartPlace}
use Rattle.hprof_stream.specs.PartPlaces.{IsPlaceBehind}
use Rattle.hprof_placed.specs.LastPlaces.{IsLast}

-- a place that is told is behind all facts
pub last_noted : (limits : Limits) (bytes more front rest : List ℕ) (facts : List FactValue) (part : PartPlace)
    → bytes ++ more ≡ front ++ rest → IsPlaceBehind limits front facts part → IsLast limits (bytes ++ more) facts (Some part) 0
last_noted limits bytes more front rest facts part parts behind = record {
  front = front;
  rest = rest;
  told = facts;
  passed = [];
  parts = parts;
  has_facts = sym (append-nil facts);
  behind = behind;
  count = refl;
}

-- one fact more came since
pub last_taken : (limits : Limits) (bytes : List ℕ) (facts : List FactValue) (fact : FactValue) (last : Option PartPlace) (since : ℕ)
    → IsLast limits bytes facts last since → IsLast limits bytes (facts ++ fact ∷ []) last (since + 1)
last_taken limits bytes facts fact None since at = tt
last_taken limits bytes facts fact (Some part) since at = record {
  front = at.front;
  rest = at.rest;
  told = at.told;
  passed = at.passed ++ fact ∷ [];
  parts = at.parts;
  has_facts = ap (λ (l : List FactValue). l ++ fact ∷ []) at.has_facts ∙ append_assoc at.told at.passed (fact ∷ []);
  behind = at.behind;
  count = let so_far = at.count in omega (arith, so_far, length-append at.passed (fact ∷ []));
}

-- the same in a sink that was left as it was
pub last_same : (limits : Limits) (bytes : List ℕ) (facts : List FactValue) (last next : Option PartPlace) (since count : ℕ)
    → next ≡ last → count ≡ since → IsLast limits bytes facts last since → IsLast limits bytes facts next count
last_same limits bytes facts last next since count same_place same_count at =
    subst (λ (p : Option PartPlace). IsLast limits bytes facts p count) (sym same_place)
    (subst (λ (n : ℕ). IsLast limits bytes facts last n) (sym same_count) at)
