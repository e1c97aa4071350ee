use Rattle.std.specs.Prelude.{◌↔◌, Contains}
use Rattle.std.proofs.Common.{◌≡◌, ◌⊎◌, ℕ, List, sym, subst}
use Rattle.hprof_numbers.specs.Numbered.{nodes_in}
use Rattle.hprof_retained.proofs.BorderLists.{if_ok_too}
use Rattle.hprof_retained.proofs.beyond.numbered_around.Goals as goal

pub returns : goal.returns
returns c =
    let border = c.args.border.now in
    let all = c.in_ok-all.all.items in
    let AreBoth : List ℕ → Type 0 = λ list. (node : ℕ) → Contains list node
    ↔ (Contains border.others.items node ⊎ Contains border.sources.items node) in
    let joined : AreBoth all = rw (c.deref.ensures.value, c.deref-2.ensures.value) at c.in_ok-all.ensures.all in
    if_ok_too c.new.result (λ numbered. nodes_in numbered ≡ all) (λ numbered. AreBoth (nodes_in numbered))
    (λ numbered same. subst AreBoth (sym same) joined) c.new.ensures
