-- Facts that a test picks out of a list: the first that passes it, and all that pass it.
use Rattle.std.specs.List.{find, filter}
use Rattle.std.proofs.Common.{◌≡◌, Bool, true, false, cond, List, [], ◌∷◌, Some, None, refl, sym, ap, subst, ◌∙◌, inl, inr}
use Rattle.hprof_items.specs.FactValue.{FactValue}
use Rattle.hprof_rows.specs.Facts.{Has}

module _ (p : FactValue → Bool) where
  -- one of the facts, which passes
  pub record IsPicked (facts : List FactValue) (fact : FactValue) : Type 0 where
    pub has : Has facts fact
    pub passes : p fact ≡ true

  -- ---- the first

  -- what is found is one of them, and passes
  pub found : (facts : List FactValue) (fact : FactValue) → find p facts ≡ Some fact → IsPicked facts fact
  found [] fact e = absurd cc
  found (first ∷ facts) fact e = elim (p first) as (λ t. p first ≡ t → cond t (Some first) (find p facts) ≡ Some fact
      → IsPicked (first ∷ facts) fact) [
        | true ↦ λ pass is.
            let same : first ≡ fact = cc in
            record { has = inl (sym same); passes = subst (λ (f : FactValue). p f ≡ true) same pass }
        | false ↦ λ fail is. let rest = found facts fact is in record { has = inr rest.has; passes = rest.passes }
      ] refl e

  -- where nothing is found, nothing passes
  pub not_found : (facts : List FactValue) (fact : FactValue) → find p facts ≡ None → Has facts fact → p fact ≡ true → ⊥
  not_found [] fact e has pass = has
  not_found (first ∷ facts) fact e has pass = elim (p first) as (λ t. p first ≡ t → cond t (Some first) (find p facts) ≡ None → ⊥) [
    | true ↦ λ yes is. let clash : Some first ≡ None = is in cc
    | false ↦ λ no is. elim has [
      | inl same ↦ let clash : true ≡ false = sym pass ∙ ap p same ∙ no in cc
      | inr there ↦ not_found facts fact is there pass
    ]
  ] refl e

  -- ---- all

  -- what passes is picked
  pub picked : (facts : List FactValue) (fact : FactValue) → IsPicked facts fact → Has (filter p facts) fact
  picked [] fact is = is.has
  picked (first ∷ facts) fact is = go (p first) refl is.has (λ there. picked facts fact (record { has = there; passes = is.passes })) where
    go : (t : Bool) → p first ≡ t → Has (first ∷ facts) fact → (Has facts fact → Has (filter p facts) fact)
        → Has (cond t (first ∷ filter p facts) (filter p facts)) fact
    go true e (inl same) later = inl same
    go true e (inr there) later = inr (later there)
    go false e (inl same) later = let clash : true ≡ false = sym is.passes ∙ ap p same ∙ e in absurd cc
    go false e (inr there) later = later there

  -- what is picked is one of them, and passes
  pub picked_is : (facts : List FactValue) (fact : FactValue) → Has (filter p facts) fact → IsPicked facts fact
  picked_is [] fact has = absurd has
  picked_is (first ∷ facts) fact has = go (p first) refl has (λ there. picked_is facts fact there) where
    go : (t : Bool) → p first ≡ t → Has (cond t (first ∷ filter p facts) (filter p facts)) fact
        → (Has (filter p facts) fact → IsPicked facts fact) → IsPicked (first ∷ facts) fact
    go true e (inl same) later = record { has = inl same; passes = ap p same ∙ e }
    go true e (inr there) later = record { has = inr (later there).has; passes = (later there).passes }
    go false e there later = record { has = inr (later there).has; passes = (later there).passes }
