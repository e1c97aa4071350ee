use Rattle.std.proofs.Common.{◌≡◌, ◌<◌, ◌++◌, ◌∙◌, ℕ, List, [], ◌∷◌, Some}
use Rattle.std.proofs.Common.{None, Contains, length, slice_index, refl, sym, subst, take_all, arith}
use Rattle.std.specs.Prelude.{◌↔◌}
use Rattle.std.proofs.lemmas.List.Elements.{All-push}
use Rattle.hprof_numbers.specs.Places.{number_in}
use Rattle.hprof_numbers.proofs.Placed.{stands}
use Rattle.hprof_search.proofs.LookedUp.{has_none, has_one}
use Rattle.hprof_search.proofs.by_identifiers.look_up.Goals as goal
use Rattle.hprof_search.proofs.by_identifiers.look_up.Goals.{in-Some+in-Ok+in_ok-push, in_default}

pub loop-target-preserved : goal.loop-target-preserved
loop-target-preserved c =
    let nodes = c.args.numbered.now.nodes.items in
    let targets = c.args.targets.now in
    let index = c.loop-target.target-index in
    let target = slice_index targets index in
    let was = c.loop-target.invariant in
    let numbers = c.loop-target.numbers.items in
    elim c.match-number_of.branch [
      | in-Some+in-Ok+in_ok-push w ↦
          let number = w.in-Some.number in
          let some : number_in nodes target ≡ Some number = sym c.number_of.ensures ∙ w.in-Some.is in
          let key : w.in-Ok.key ≡ number = w.in-Ok.ensures.1 in
          let now : w.push.new.self.items ≡ numbers ++ number ∷ [] = rw (← key) w.in_ok-push.ensures.items in
          rw (w.numbers-is, now) (record {
            below = All-push (λ n. n < length nodes) numbers number was.below (stands nodes target number some).0;
            has = has_one nodes targets index target c.loop-target-test.true refl numbers was.has c.args.numbered.now.ascend number some;
          })
      | in_default w ↦
          let none : number_in nodes target ≡ None = sym c.number_of.ensures ∙ w.in_default.is in
          rw w.numbers-is (record {
            below = was.below;
            has = has_none nodes targets index target c.loop-target-test.true refl numbers was.has none;
          })
    ]

pub returns-clause-ok : goal.returns-clause-ok
returns-clause-ok c =
    subst (λ (taken : List ℕ). (to : ℕ) → to < length c.args.numbered.now.nodes.items
    → Contains c.loop-target.numbers.items to ↔ Contains taken (slice_index c.args.numbered.now.nodes.items to))
    (take_all c.loop-target.target-index c.args.targets.now (omega (arith, c.loop-target-test.false))) c.loop-target.invariant.has
