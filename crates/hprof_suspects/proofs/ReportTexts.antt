-- The texts of suspects, one behind the other.
use Rattle.std.proofs.Common.{◌≡◌, ◌++◌, ◌∙◌, ℕ, List, [], ◌∷◌, append_assoc, append-nil, sym, ap, subst}
use Rattle.hprof_values.specs.declared.ids.IdSize.{IdSize}
use Rattle.hprof_items.specs.FactValue.{FactValue}
use Rattle.hprof_describe.specs.Findings.{Findings}
use Rattle.hprof_retained.specs.Retained.{Sum}
use Rattle.hprof_suspects.specs.SuspectsText.{AreTexts, IsPartText, NoMore, OneMore, Suspect}

module _ (ids : IdSize) (facts : List FactValue) (found : Findings) (retained : ℕ → Sum) (total : Sum) where
  abbrev Texts : List Suspect → List ℕ → Type 0
  Texts suspects text = AreTexts ids facts found retained total suspects text

  -- one more at the end
  pub texts_more : (suspects : List Suspect) (text : List ℕ) → Texts suspects text → (suspect : Suspect) (own : List ℕ)
      → IsPartText ids facts found retained total suspect.part suspect.pieces own → Texts (suspects ++ suspect ∷ []) (text ++ own)
  texts_more _ _ NoMore suspect own is =
      subst (Texts (suspect ∷ [])) (append-nil own) (OneMore suspect [] own [] is NoMore)
  texts_more _ _ (OneMore first suspects text rest is_first are) suspect own is =
      subst (Texts (first ∷ (suspects ++ suspect ∷ []))) (sym (append_assoc text rest own))
      (OneMore first (suspects ++ suspect ∷ []) text (rest ++ own) is_first (texts_more suspects rest are suspect own is))

pub suspect_joined : (old one two new first line chain sums : List ℕ) → one ≡ old ++ line → line ≡ first → two ≡ one ++ chain
    → new ≡ two ++ sums → new ≡ old ++ (first ++ (chain ++ sums))
suspect_joined old one two new first line chain sums e same f g =
    g ∙ ap (λ t. t ++ sums) (f ∙ ap (λ t. t ++ chain) (e ∙ ap (λ t. old ++ t) same)) ∙ regrouped old first chain sums where
      regrouped : (old first chain sums : List ℕ) → ((old ++ first) ++ chain) ++ sums ≡ old ++ (first ++ (chain ++ sums))
      regrouped old first chain sums = simp append_assoc
