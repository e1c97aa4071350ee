-- The way back from a number that was found.
use Rattle.std.proofs.Common.{◌≡◌, ◌<◌, ◌==◌, ℕ, zero, suc, Bool, true, cond, List, [], ◌∷◌, ◌++◌, length, map, slice_index, inl, inr, refl}
use Rattle.std.proofs.Common.{sym, ap, subst, ◌∙◌, arith, append_assoc, append-nil, eq-eqb, ne_eqb}
use Rattle.hprof_search.specs.Finds.{Finds, is_found}
use Rattle.hprof_search.specs.WayBack.{way_back}
use Rattle.hprof_search.specs.Walks.{Reaches}
use Rattle.hprof_numbers.proofs.Ascending.{number_of}
use Rattle.hprof_search.proofs.Levels.{StartsIn, StepsIn, IsSearched, reached_is_node, stepped}

-- what is left of the way behind a number
abbrev pub way_left : List ℕ → ℕ → ℕ → List ℕ
way_left before zero number = []
way_left before (suc most) number =
    cond (slice_index before number == number) [] (way_back before most (slice_index before number))

pub way_on : (before : List ℕ) (most number : ℕ) → way_back before most number ≡ number ∷ way_left before most number
unfolding way_back
way_on before zero number = refl
way_on before (suc most) number = refl

-- one that was found from none is the last
pub left_none : (before : List ℕ) (most number : ℕ) → slice_index before number ≡ number → way_left before most number ≡ []
left_none before zero number same = refl
left_none before (suc most) number same =
    ap (λ (b : Bool). cond b [] (way_back before most (slice_index before number))) (eq-eqb _ _ same)

pub left_on : (before : List ℕ) (most number : ℕ) → (slice_index before number ≡ number → ⊥)
    → way_left before (suc most) number ≡ way_back before most (slice_index before number)
left_on before most number other =
    ap (λ (b : Bool). cond b [] (way_back before most (slice_index before number))) (ne_eqb _ _ other)

-- how long it is
pub long_zero : (before : List ℕ) (number : ℕ) → length (way_back before 0 number) ≡ 1
unfolding way_back
long_zero before number = refl

pub long_end : (before : List ℕ) (most number : ℕ) → slice_index before number ≡ number → length (way_back before most number) ≡ 1
long_end before most number same =
    ap (length {A = ℕ}) (way_on before most number ∙ ap (λ (ns : List ℕ). number ∷ ns) (left_none before most number same))

pub long_on : (before : List ℕ) (most number : ℕ) → (slice_index before number ≡ number → ⊥)
    → length (way_back before (suc most) number) ≡ suc (length (way_back before most (slice_index before number)))
long_on before most number other =
    ap (length {A = ℕ}) (way_on before (suc most) number ∙ ap (λ (ns : List ℕ). number ∷ ns) (left_on before most number other))

-- the way so far, and what is left of it
module _ (nodes before : List ℕ) where
  abbrev at : List ℕ → List ℕ
  at = map (slice_index nodes)

  pub went_none : (most found node : ℕ) (way : List ℕ) → node ≡ slice_index nodes found → way ≡ node ∷ []
      → way ++ map (slice_index nodes) (way_left before most found) ≡ map (slice_index nodes) (way_back before most found)
  went_none most found node way is one =
      ap (λ (ns : List ℕ). ns ++ at (way_left before most found)) (one ∙ ap (λ (n : ℕ). n ∷ []) is)
      ∙ ap at (sym (way_on before most found))

  -- going back to one number more
  pub went_on : (left rest number next node : ℕ) (way more whole : List ℕ) → left ≡ suc rest → next ≡ slice_index before number
      → (slice_index before number ≡ number → ⊥) → node ≡ slice_index nodes next → more ≡ way ++ node ∷ []
      → way ++ map (slice_index nodes) (way_left before left number) ≡ whole → more ++ map (slice_index nodes) (way_left before rest next)
      ≡ whole
  went_on left rest number next node way more whole count back other is pushed was =
      ap (λ (ns : List ℕ). ns ++ at (way_left before rest next)) pushed
      ∙ append_assoc way (node ∷ []) (at (way_left before rest next))
      ∙ ap (λ (n : ℕ). way ++ n ∷ at (way_left before rest next)) is
      ∙ ap (λ (ns : List ℕ). way ++ at ns) (sym (way_on before rest next))
      ∙ ap (λ (n : ℕ). way ++ at (way_back before rest n)) back
      ∙ ap (λ (ns : List ℕ). way ++ at ns) (sym (left_on before rest number other))
      ∙ ap (λ (n : ℕ). way ++ at (way_left before n number)) (sym count)
      ∙ was

  -- the whole way, up to a start, or as far as it goes
  pub went_to_start : (left number : ℕ) (way whole : List ℕ) → slice_index before number ≡ number
      → way ++ map (slice_index nodes) (way_left before left number) ≡ whole → way ≡ whole
  went_to_start left number way whole same was =
      sym (append-nil way) ∙ ap (λ (ns : List ℕ). way ++ at ns) (sym (left_none before left number same)) ∙ was

  pub went_all : (left number : ℕ) (way whole : List ℕ) → left ≡ 0
      → way ++ map (slice_index nodes) (way_left before left number) ≡ whole → way ≡ whole
  went_all left number way whole none was =
      sym (append-nil way) ∙ ap (λ (n : ℕ). way ++ at (way_left before n number)) (sym none) ∙ was

module _ (Leads : ℕ → ℕ → Type 0) (nodes starts : List ℕ) (finds : Finds) (level : ℕ)
    (searched : IsSearched Leads nodes starts finds [] level) where
  -- what is reached was found
  pub found_all : (count node : ℕ) → Reaches (StartsIn nodes starts) (StepsIn Leads nodes) count node
      → (number : ℕ) × (number < length nodes) × (slice_index nodes number ≡ node) × (is_found finds number ≡ true)
  found_all zero node reaches =
      let there = number_of nodes node (reached_is_node Leads nodes starts zero node reaches) in
      let at = subst (Reaches (StartsIn nodes starts) (StepsIn Leads nodes) zero) (sym there.2) reaches in
      (there.0, there.1, there.2, searched.complete there.0 zero there.1 (omega arith) at)
  found_all (suc count) node reaches =
      let there = number_of nodes node (reached_is_node Leads nodes starts (suc count) node reaches) in
      let before = found_all count reaches.0 reaches.1 in
      let one = subst (λ (n : ℕ). StepsIn Leads nodes n node) (sym before.2) reaches.2 in
      let step = subst (StepsIn Leads nodes (slice_index nodes before.0)) (sym there.2) one in
      elim (stepped Leads nodes starts finds [] level searched before.0 there.0 before.3 step there.1) [
        | inl found ↦ (there.0, there.1, there.2, found)
        | inr has ↦ let none = has.1 in absurd (omega arith)
      ]
