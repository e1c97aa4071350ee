-- One more fact in a tally.
use Rattle.std.proofs.Common.{◌≡◌, ◌≢◌, ℕ, ◌+◌, ◌-◌, ◌^◌, ◌<◌, min, Bool, true, false, cond, List, [], ◌∷◌, ◌++◌, set, inl}
use Rattle.std.proofs.Common.{inr, sym, ap, subst, ◌∙◌, arith}
use Rattle.std.specs.Prelude.{◌==◌, slice_index}
use Rattle.std.specs.List.{count_by}
use Rattle.std.proofs.lemmas.Bool.{cases_Bool, eqb-true, eqb-false}
use Rattle.std.proofs.lemmas.List.{length-set, get_or-set_same, get_or-set_other}
use Rattle.std.proofs.lemmas.List.Sums.{sum_by-append}
use Rattle.hprof_items.specs.FactValue.{FactValue}
use Rattle.hprof_stream.specs.Tally.{form_of, Counts}

-- it has this form
abbrev pub has : ℕ → FactValue → Bool
has form fact = form_of fact == form

-- one more fact, which has the form or has not
one_more : (p : FactValue → Bool) (facts : List FactValue) (fact : FactValue) (t : Bool) → p fact ≡ t → count_by p (facts ++ fact ∷ [])
    ≡ count_by p facts + cond t 1 0
one_more p facts fact t e = sum_by-append (λ (f : FactValue). cond (p f) 1 0) facts (fact ∷ [])
    ∙ omega (arith, ap {B = ℕ} (λ (b : Bool). cond b 1 0) e)

-- a fact that has the form, and one that has not
count_same : (form : ℕ) (facts : List FactValue) (fact : FactValue) → has form fact ≡ true → count_by (has form) (facts ++ fact ∷ [])
    ≡ count_by (has form) facts + 1
count_same form facts fact e = one_more (has form) facts fact true e

count_other : (form : ℕ) (facts : List FactValue) (fact : FactValue) → has form fact ≡ false → count_by (has form) (facts ++ fact ∷ [])
    ≡ count_by (has form) facts
count_other form facts fact e = omega (arith, one_more (has form) facts fact false e)

-- a number that has stopped at the greatest stays there
stopped : (n most : ℕ) → min (min n most + 1) most ≡ min (n + 1) most
stopped n most = omega arith

module _ (facts : List FactValue) (fact : FactValue) (old : List ℕ) (more : ℕ) (counts : Counts facts old) (within : form_of fact < 12)
    (is : more ≡ min (slice_index old (form_of fact) + 1) (2 ^ 64 - 1)) where
  -- the count of its form
  of_form : has (form_of fact) fact ≡ true → slice_index (set old (form_of fact) more) (form_of fact)
      ≡ min (count_by (has (form_of fact)) (facts ++ fact ∷ [])) (2 ^ 64 - 1)
  of_form e =
      get_or-set_same old (form_of fact) more 0 (omega (arith, counts.forms, within)) ∙ is
      ∙ ap (λ (n : ℕ). min (n + 1) (2 ^ 64 - 1)) (counts.each (form_of fact) within) ∙ stopped (count_by (has (form_of fact)) facts)
      (2 ^ 64 - 1)
      ∙ ap (λ (n : ℕ). min n (2 ^ 64 - 1)) (sym (count_same (form_of fact) facts fact e))

  -- each count is one more, as far as numbers go, or stays
  counted : Counts (facts ++ fact ∷ []) (set old (form_of fact) more)
  counted = record {
    forms = length-set old (form_of fact) more ∙ counts.forms;
    each = λ form below. elim (cases_Bool (has form fact)) [
      | inl same ↦
          let e : form_of fact ≡ form = eqb-true (form_of fact) form same in
          subst (λ (n : ℕ). slice_index (set old (form_of fact) more) n ≡ min (count_by (has n) (facts ++ fact ∷ [])) (2 ^ 64 - 1)) e
          (of_form (ap (λ (n : ℕ). form_of fact == n) e ∙ same))
      | inr other ↦
          let apart : form ≢ form_of fact = λ e. eqb-false (form_of fact) form other (sym e) in
          get_or-set_other old (form_of fact) form more 0 apart ∙ counts.each form below
          ∙ ap (λ (n : ℕ). min n (2 ^ 64 - 1)) (sym (count_other form facts fact other))
    ];
  }

-- the same, at a place that is that of its form
pub counted_at : (facts : List FactValue) (fact : FactValue) (old : List ℕ) (place more : ℕ) → place ≡ form_of fact → place < 12
    → more ≡ min (slice_index old place + 1) (2 ^ 64 - 1) → Counts facts old
    → Counts (facts ++ fact ∷ []) (set old place more)
counted_at facts fact old place more e within is counts =
    subst (λ (n : ℕ). Counts (facts ++ fact ∷ []) (set old n more)) (sym e)
    (counted facts fact old more counts (omega (arith, within, e)) (is ∙ ap (λ (n : ℕ). min (slice_index old n + 1) (2 ^ 64 - 1)) e))
