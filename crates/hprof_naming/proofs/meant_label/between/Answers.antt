use Rattle.std.proofs.Common.{◌≡◌, ◌≢◌, ◌++◌, ◌∷◌, [], ℕ, List, Option, Some, None, MatchOption, Bor, ap, ◌∙◌}
use Rattle.std.proofs.lemmas.Bool.Decides.{Decides-eqb}
use Rattle.std.proofs.lemmas.Slice.Eq.{strip_prefix_is, strip_suffix_is}
use Rattle.hprof_naming.proofs.meant_label.between.Goals as goal

-- the two steps are one
joined : (text behind : List ℕ) (result : Option (Bor (List ℕ))) → text ≡ 76 ∷ behind
    → MatchOption result ((front : List ℕ) → behind ≢ front ++ 59 ∷ []) (λ front. behind ≡ front.now ++ 59 ∷ [])
    → MatchOption result ((name : List ℕ) → text ≢ 76 ∷ name ++ 59 ∷ []) (λ name. text ≡ 76 ∷ name.now ++ 59 ∷ [])
joined text behind None is none = λ name same. let rest : behind ≡ name ++ 59 ∷ [] = cc in none name rest
joined text behind (Some name) is then = is ∙ ap (λ (l : List ℕ). 76 ∷ l) then

pub returns : goal.returns
returns c =
    let text = c.args.text.now in
    let behind = c.in_ok-strip_prefix.field-0.now in
    let first = strip_prefix_is Decides-eqb text (76 ∷ []) c.strip_prefix.result c.strip_prefix.ensures.cases in
    joined text behind c.strip_suffix.result (rw c.in_ok-strip_prefix.was at first)
    (strip_suffix_is Decides-eqb behind (59 ∷ []) c.strip_suffix.result c.strip_suffix.ensures.cases)
