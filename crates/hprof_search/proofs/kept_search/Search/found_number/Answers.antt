use Rattle.std.proofs.Common.{◌≡◌, ◌∙◌, ℕ, Bool, false, Some, None, get_or, option_and_then, sym, ap, arith}
use Rattle.std.specs.Bool.{then_some}
use Rattle.std.proofs.lemmas.List.{get_or_read}
use Rattle.hprof_numbers.specs.Places.{number_in}
use Rattle.hprof_search.specs.WayBack.{found_in}
use Rattle.hprof_numbers.proofs.Placed.{stands}
use Rattle.hprof_search.proofs.kept_search.Search.found_number.Goals as goal

pub returns-in_err-number-clause-number : goal.returns-in_err-number-clause-number
unfolding found_in
returns-in_err-number-clause-number c =
    let none : None ≡ number_in c.args.self.now.nodes.items c.args.node = rw (c.deref.ensures.value) at c.in_err-number.ensures in
    c.from_residual.ensures
    ∙ ap (option_and_then (λ (n : ℕ). then_some (get_or c.args.self.now.found.items n false) n)) none

pub returns-then-index-clause-number : goal.returns-then-index-clause-number
unfolding found_in
returns-then-index-clause-number c =
    let nodes = c.args.self.now.nodes.items in
    let found = c.args.self.now.found.items in
    let number = c.in_ok-number.number in
    let some : Some number ≡ number_in nodes c.args.node = rw (c.deref.ensures.value) at c.in_ok-number.ensures in
    let many = c.args.self.now.whole.as_many in
    let at = stands nodes c.args.node number (sym some) in
    let is = sym (get_or_read found number c.index.result.now (let below = at.0 in omega arith) c.index.ensures false) ∙ c.if-index.true in
    ap (λ (b : Bool). then_some b number) (sym is) ∙ ap (option_and_then (λ (n : ℕ). then_some (get_or found n false) n)) some

pub returns-else-index-clause-number : goal.returns-else-index-clause-number
unfolding found_in
returns-else-index-clause-number c =
    let nodes = c.args.self.now.nodes.items in
    let found = c.args.self.now.found.items in
    let number = c.in_ok-number.number in
    let some : Some number ≡ number_in nodes c.args.node = rw (c.deref.ensures.value) at c.in_ok-number.ensures in
    let many = c.args.self.now.whole.as_many in
    let at = stands nodes c.args.node number (sym some) in
    let is = sym (get_or_read found number c.index.result.now (let below = at.0 in omega arith) c.index.ensures false) ∙ c.if-index.false in
    ap (λ (b : Bool). then_some b number) (sym is) ∙ ap (option_and_then (λ (n : ℕ). then_some (get_or found n false) n)) some
