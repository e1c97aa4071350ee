use Rattle.std.proofs.Common.{◌≡◌, ◌++◌, ◌∷◌, [], List, ℕ, ap, refl, ◌∙◌}
use Rattle.std.proofs.lemmas.Bool.Decides.{Decides-eqb}
use Rattle.std.proofs.lemmas.Slice.Eq.{strip_prefix_is}
use Rattle.hprof_questions.proofs.question.word_behind.Goals as goal

pub returns-in_err-behind : goal.returns-in_err-behind
returns-in_err-behind c =
    let told = strip_prefix_is Decides-eqb c.args.line.now c.args.word.now c.strip_prefix.result c.strip_prefix.ensures.cases in
    let none = rw c.in_err-behind.was at told in
    rw c.from_residual.ensures (λ text is same. none (32 ∷ text) same)

pub returns-then-is_word : goal.returns-then-is_word
returns-then-is_word c =
    let line = c.args.line.now in
    let word = c.args.word.now in
    let behind = c.in_ok-behind.behind.now in
    let first = strip_prefix_is Decides-eqb line word c.strip_prefix.result c.strip_prefix.ensures.cases in
    let is : line ≡ word ++ behind = rw c.in_ok-behind.was at first in
    let second = strip_prefix_is Decides-eqb behind (32 ∷ []) c.strip_prefix-2.result c.strip_prefix-2.ensures.cases in
    let then : behind ≡ 32 ∷ c.in_ok-text.text.now = rw c.in_ok-text.was at second in
    (c.if-is_word.ensures.0 refl, is ∙ ap (λ (l : List ℕ). word ++ l) then)
