use Rattle.std.proofs.Common.{◌∙◌, ℕ, List, ap, subst, sym}
use Rattle.std.specs.Prelude.{◌↔◌, Contains, IsTrue}
use Rattle.hprof_numbers.specs.Places.{number_in}
use Rattle.hprof_numbers.proofs.Placed.{has_number}
use Rattle.hprof_retained.proofs.weakly.WeaklyHeld.is_held.Goals as goal

pub returns : goal.returns
returns c = λ ids facts are.
    let nodes = c.args.self.now.nodes.items in
    let node = c.args.node in
    let there = subst (λ b. IsTrue b ↔ Contains nodes node) (sym c.is_some.ensures)
    (has_number nodes node c.find.result (c.find.ensures ∙ ap (λ (l : List ℕ). number_in l node) c.deref.ensures.value)) in
    (λ passes. (are.exact node).0 (there.0 passes), λ held. there.1 ((are.exact node).1 held))
