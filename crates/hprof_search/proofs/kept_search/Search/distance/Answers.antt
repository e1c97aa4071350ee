use Rattle.std.proofs.Common.{◌≡◌, ◌+◌, ◌-◌, ◌∙◌, ℕ, suc, Some, length, sym, ap, subst, arith}
use Rattle.std.specs.Option.{option_map}
use Rattle.hprof_numbers.specs.Numbers.{items_in}
use Rattle.hprof_search.specs.WayBack.{way_back, way_in}
use Rattle.hprof_search.specs.Walks.{HasDistance}
use Rattle.hprof_search.proofs.Told.{distance_in, tells_distance}
use Rattle.hprof_search.proofs.Ways.{long_end, long_on, long_zero}
use Rattle.hprof_search.proofs.kept_search.Search.distance.Goals as goal

pub returns-in_err-number : goal.returns-in_err-number
unfolding distance_in
returns-in_err-number g c = λ told is.
    let search = c.args.self.now in
    let same : c.from_residual.result ≡ distance_in search c.args.node = c.from_residual.ensures
    ∙ ap (option_map (λ (n : ℕ). length (way_in search n) - 1)) (sym c.in_err-number.was ∙ c.found_number.ensures.number) in
    subst (HasDistance (g.W.WalksOf.starts told) (g.W.WalksOf.steps told) c.args.node) (sym same)
    (tells_distance (g.W.WalksOf.starts told) (g.W.WalksOf.steps told) search is c.args.node)

pub returns-then-before-number : goal.returns-then-before-number
unfolding distance_in
returns-then-before-number g c = λ told is.
    let search = c.args.self.now in
    let end = long_end (items_in search.before) (search.levels - c.loop-steps.steps) c.loop-steps.number
    (sym c.get-before.ensures ∙ c.if-before-number.true) in
    let counted = c.loop-steps.invariant.counted in
    let long : c.loop-steps.steps ≡ length (way_in search c.in_ok-number.number) - 1 = omega arith in
    let same : Some c.loop-steps.steps ≡ distance_in search c.args.node =
    ap Some long ∙ ap (option_map (λ (n : ℕ). length (way_in search n) - 1)) (sym c.in_ok-number.was ∙ c.found_number.ensures.number) in
    subst (HasDistance (g.W.WalksOf.starts told) (g.W.WalksOf.steps told) c.args.node) (sym same)
    (tells_distance (g.W.WalksOf.starts told) (g.W.WalksOf.steps told) search is c.args.node)

pub loop-steps-preserved : goal.loop-steps-preserved
loop-steps-preserved g c =
    let search = c.args.self.now in
    let before = items_in search.before in
    let number = c.loop-steps.number in
    let steps = c.loop-steps.steps in
    let was = c.loop-steps.invariant in
    let next = c.get-before.ensures in
    let back = search.whole.back number was.below in
    let test = c.loop-steps-test.true in
    let left : search.levels - steps ≡ suc (search.levels - (steps + 1)) = omega arith in
    let long = ap (λ (n : ℕ). length (way_back before n number)) left
    ∙ long_on before (search.levels - (steps + 1)) number (λ same. c.if-before-number.false (next ∙ same))
    ∙ ap (λ (n : ℕ). suc (length (way_back before (search.levels - (steps + 1)) n))) (sym next) in
    let counted = was.counted in
    record { below = omega arith; counted = omega arith }

pub returns : goal.returns
unfolding distance_in
returns g c = λ told is.
    let search = c.args.self.now in
    let test = c.loop-steps-test.false in
    let auto = c.loop-steps.auto in
    let all : search.levels - c.loop-steps.steps ≡ 0 = omega arith in
    let end = ap (λ (n : ℕ). length (way_back (items_in search.before) n c.loop-steps.number)) all
    ∙ long_zero (items_in search.before) c.loop-steps.number in
    let counted = c.loop-steps.invariant.counted in
    let long : search.levels ≡ length (way_in search c.in_ok-number.number) - 1 = omega arith in
    let same : Some search.levels ≡ distance_in search c.args.node =
    ap Some long ∙ ap (option_map (λ (n : ℕ). length (way_in search n) - 1)) (sym c.in_ok-number.was ∙ c.found_number.ensures.number) in
    subst (HasDistance (g.W.WalksOf.starts told) (g.W.WalksOf.steps told) c.args.node) (sym same)
    (tells_distance (g.W.WalksOf.starts told) (g.W.WalksOf.steps told) search is c.args.node)
