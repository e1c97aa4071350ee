use Rattle.std.proofs.Common.{◌≡◌, ◌<◌, ℕ, Contains, length, slice_index, sym, subst, ◌∙◌, arith}
use Rattle.std.specs.Prelude.{◌↔◌}
use Rattle.std.proofs.lemmas.List.Elements.{All-push}
use Rattle.hprof_numbers.specs.Lists.{end_in, start_in}
use Rattle.hprof_numbers.specs.Numbers.{items_in}
use Rattle.hprof_search.proofs.Listed.{IsBetween, between_more, listed_leads}
use Rattle.hprof_search.proofs.by_lists.ByListsSteps.steps_from.Goals as goal

pub loop-place-preserved : goal.loop-place-preserved
loop-place-preserved c =
    let lists = c.args.self.now.lists.now in
    let nodes = c.args._numbered.now.nodes.items in
    let place = c.loop-place.place in
    let was = c.loop-place.invariant in
    let number = c.in-Ok.number in
    let is : number ≡ slice_index (items_in lists.items) place = c.in-Ok.ensures.1 ∙ c.get.ensures in
    let early : place < end_in lists c.args.from = omega (arith, c.loop-place-test.true, c.end-place-end.ensures.is) in
    let below : number < length nodes = subst (λ (n : ℕ). number < n) c.requires.stands.as_many
    (c.requires.stands.within c.args.from number (place, was.from, early, sym is)) in
    rw c.in_ok-push.ensures.items (record {
      from = omega (arith, was.from);
      below = All-push (λ n. n < length nodes) c.loop-place.numbers.items number was.below below;
      has = between_more lists (start_in lists c.args.from) place number c.loop-place.numbers.items was.from is was.has;
    })

pub returns-clause-ok : goal.returns-clause-ok
returns-clause-ok c =
    let lists = c.args.self.now.lists.now in
    let nodes = c.args._numbered.now.nodes.items in
    let begins = c.start-place.ensures in
    let ends = c.end-place-end.ensures.is in
    let up = lists.ascend c.args.from (subst (λ (n : ℕ). c.args.from < n) (sym c.requires.stands.as_many) c.requires.within) in
    let last : c.loop-place.place ≡ end_in lists c.args.from = omega (
      arith,
      c.loop-place-test.false,
      c.loop-place.auto.place-end (omega (arith, up)),
    ) in
    listed_leads lists nodes c.loop-place.numbers.items c.args.from c.args._numbered.now.ascend c.requires.within
    (subst (λ (end : ℕ). (to : ℕ) → Contains c.loop-place.numbers.items to ↔ IsBetween lists (start_in lists c.args.from) end to) last
    c.loop-place.invariant.has)
    (λ number one listed. subst (λ (n : ℕ). one < n) c.requires.stands.as_many (c.requires.stands.within number one listed))
