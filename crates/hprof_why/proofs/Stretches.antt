-- Runs of like links, and what stands behind them.
use Rattle.std.specs.Prelude.{◌&&◌}
use Rattle.std.specs.List.{list_all}
use Rattle.std.proofs.Common.{◌≡◌, ℕ, Bool, true, false, List, [], ◌∷◌, ◌++◌, length, refl, ap, ◌∙◌, arith}
use Rattle.std.proofs.lemmas.List.{length-append}
use Rattle.hprof_why.specs.Folding.{IsFront, Link, Stretch, alike_at_front, is_alike, links_of}
use Rattle.hprof_why.proofs.Going.{alike_first, not_alike}

module _ (step_kind node_kind : List ℕ) where
  abbrev test : Link → Bool
  test = is_alike step_kind node_kind

  abbrev run : List Link → ℕ
  run = alike_at_front step_kind node_kind

  -- a run that is as long as a front has the front
  run_has : (front rest : List Link) → run (front ++ rest) ≡ length front → list_all test front ≡ true
  run_has [] rest long = refl
  run_has (link ∷ front) rest long = by (test link) refl (run_has front rest) where
    by : (b : Bool) → test link ≡ b → (run (front ++ rest) ≡ length front → list_all test front ≡ true)
        → list_all test (link ∷ front) ≡ true
    by true e more =
        let one = alike_first step_kind node_kind link (front ++ rest) e in
        ap (λ (b : Bool). b && list_all test front) e ∙ more (omega (arith, one, long))
    by false e more = let none = not_alike step_kind node_kind link (front ++ rest) e in absurd (omega (arith, none, long))

  -- and it ends there
  run_ends : (front : List Link) (next : Link) (rest : List Link) → run (front ++ next ∷ rest) ≡ length front → test next ≡ false
  run_ends [] next rest long = by (test next) refl where
    by : (b : Bool) → test next ≡ b → test next ≡ false
    by true e = let one = alike_first step_kind node_kind next rest e in absurd (omega (arith, one, long))
    by false e = e
  run_ends (link ∷ front) next rest long = by (test link) refl (run_ends front next rest) where
    by : (b : Bool) → test link ≡ b → (run (front ++ next ∷ rest) ≡ length front → test next ≡ false) → test next ≡ false
    by true e more = let one = alike_first step_kind node_kind link (front ++ next ∷ rest) e in more (omega (arith, one, long))
    by false e more = let none = not_alike step_kind node_kind link (front ++ next ∷ rest) e in absurd (omega (arith, none, long))

-- the links of a stretch are as many as its run
stretch_long : (kind : List ℕ) (first last : Link) (between rest : List Link)
    → IsFront kind (links_of (Stretch first between last) ++ rest) (Stretch first between last)
    → alike_at_front first.step_kind kind (links_of (Stretch first between last) ++ rest) ≡ length (links_of (Stretch first between last))
stretch_long kind first last between rest is =
    let run = is.1 in
    let long = length-append between (last ∷ []) in
    omega (arith, run, long)

pub stretch_alike : (kind : List ℕ) (first last : Link) (between rest : List Link)
    → IsFront kind (links_of (Stretch first between last) ++ rest) (Stretch first between last)
    → list_all (is_alike first.step_kind kind) (links_of (Stretch first between last)) ≡ true
stretch_alike kind first last between rest is =
    run_has first.step_kind kind (links_of (Stretch first between last)) rest (stretch_long kind first last between rest is)

pub stretch_ends : (kind : List ℕ) (first last next : Link) (between rest : List Link)
    → IsFront kind (links_of (Stretch first between last) ++ next ∷ rest) (Stretch first between last)
    → is_alike first.step_kind kind next ≡ false
stretch_ends kind first last next between rest is =
    run_ends first.step_kind kind (links_of (Stretch first between last)) next rest (stretch_long kind first last between (next ∷ rest) is)
