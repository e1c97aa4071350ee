use Rattle.std.proofs.Common.{◌≡◌, ◌+◌, ◌-◌, ◌++◌, ◌∷◌, [], ◌∙◌, ℕ, suc, List, map, slice_index, sym, ap, subst, arith}
use Rattle.std.proofs.lemmas.Grind.{get_or_default_zero}
use Rattle.hprof_search.specs.WayBack.{way_back}
use Rattle.hprof_numbers.specs.Numbers.{items_in}
use Rattle.hprof_search.proofs.Ways.{way_left, went_none, went_on, went_to_start, went_all}
use Rattle.hprof_search.proofs.kept_search.Search.way_back.Goals as goal

pub loop-init : goal.loop-init
loop-init c =
    let search = c.args.self.now in
    let nodes = search.nodes.items in
    let before = items_in search.before in
    let paired = search.whole.paired in
    let required = c.requires in
    let none : search.levels - 0 ≡ search.levels = omega arith in
    let is = c.index.ensures ∙ get_or_default_zero nodes c.args.found c.index.result.now c.requires in
    let way = c.in_ok-push.ensures.items ∙ ap (λ (ns : List ℕ). ns ++ c.index.result.now ∷ []) c.new-nodes.ensures.items in
    let P : ℕ → Type 0 = λ left. c.push.new.self.items ++ map (slice_index nodes) (way_left before left c.args.found)
    ≡ map (slice_index nodes) (way_back before search.levels c.args.found) in
    record {
      below = omega arith;
      whole = subst P (sym none) (went_none nodes before search.levels c.args.found c.index.result.now c.push.new.self.items is way);
    }

pub loop-preserved : goal.loop-preserved
loop-preserved c =
    let search = c.args.self.now in
    let nodes = search.nodes.items in
    let before = items_in search.before in
    let paired = search.whole.paired in
    let was = c.loop.invariant in
    let next = c.get-before.ensures in
    let back = search.whole.back c.loop.number was.below in
    let test = c.loop-test.true in
    let count : search.levels - c.loop.counter ≡ suc (search.levels - (c.loop.counter + 1)) = omega arith in
    let is = c.index-in-loop.ensures ∙ get_or_default_zero nodes c.get-before.result c.index-in-loop.result.now (omega arith) in
    record {
      below = omega arith;
      whole = went_on nodes before (search.levels - c.loop.counter) (search.levels - (c.loop.counter + 1)) c.loop.number c.get-before.result
          c.index-in-loop.result.now c.loop.nodes.items c.push-in-loop.new.self.items _ count next
          (λ same. c.if-before-number.false (next ∙ same)) is c.in_ok-push-2.ensures.items was.whole;
    }

pub returns-then-before-number : goal.returns-then-before-number
returns-then-before-number c =
    let search = c.args.self.now in
    went_to_start search.nodes.items (items_in search.before) (search.levels - c.loop.counter) c.loop.number c.loop.nodes.items _
    (sym c.get-before.ensures ∙ c.if-before-number.true) c.loop.invariant.whole

pub returns : goal.returns
returns c =
    let search = c.args.self.now in
    let test = c.loop-test.false in
    went_all search.nodes.items (items_in search.before) (search.levels - c.loop.counter) c.loop.number c.loop.nodes.items _
    (omega arith) c.loop.invariant.whole
