use Rattle.std.proofs.Common.{◌≡◌, ◌<◌, ◌+◌, ◌∙◌, ℕ, Global, Vec, false, ap, replicate, rules, slice_index, slice_set, sym, subst, arith}
use Rattle.std.proofs.lemmas.Bool.{both_ways}
use Rattle.std.proofs.lemmas.Grind.{get_or_default_zero}
use Rattle.std.proofs.lemmas.List.{get_or_default}
use Rattle.hprof_numbers.specs.Numbers.{items_in}
use Rattle.hprof_retained.specs.Tree.{count_of, sum_at}
use Rattle.hprof_suspects.specs.PartPlaces.{IsMarked, over_in}
use Rattle.hprof_suspects.specs.Pieces.{SumsFit}
use Rattle.hprof_suspects.proofs.HeadPlaces.{over_low}
use Rattle.hprof_suspects.proofs.PiecesSoFar.{AreBelowTo, pieces_begin, pieces_end, pieces_fit, pieces_more, pieces_same, sums_fit_begin}
use Rattle.hprof_suspects.proofs.PiecesSoFar.{sums_fit_more}
use Rattle.hprof_suspects.proofs.pieces.part_sums.Goals as goal
use Rattle.hprof_suspects.proofs.pieces.part_sums.Goals.{then-index, else-index}

pub loop-place-init : goal.loop-place-init
loop-place-init c =
    let zeros : c.in_ok-sums.sums.items ≡ replicate c.len.result 0 = search rules in
    let are = zeros ∙ ap (λ n. replicate n 0) c.len.ensures in
    record {
      fit = sums_fit_begin c.args.retained.now c.in_ok-sums.sums.items are;
      sums = λ ids facts agree tree heads parts. pieces_begin ids facts c.args.retained.now tree (items_in c.args.heads.now) heads
          c.args.parts.now.items parts c.in_ok-sums.sums.items are;
    }

pub returns-clause-fit : goal.returns-clause-fit
returns-clause-fit c = c.loop-place.invariant.fit

pub returns-clause-sums : goal.returns-clause-sums
returns-clause-sums c = λ ids facts agree tree heads parts.
    pieces_end ids facts c.args.retained.now tree (items_in c.args.heads.now) heads c.args.parts.now.items parts c.loop-place.sums.items
    c.loop-place.place
    (omega (arith, c.loop-place-test.false, c.len-place-end.ensures, c.loop-place.auto.place-end, c.args.retained.now.numbered.some))
    (c.loop-place.invariant.sums ids facts agree tree heads parts)

pub bytes-most-requires : goal.bytes-most-requires
bytes-most-requires c =
    let some : 0 < c.loop-place.place = let one = c.loop-place.auto.place in omega arith in
    let low : c.loop-place.place < count_of c.args.retained.now = omega (arith, c.loop-place-test.true, c.len-place-end.ensures) in
    let over = over_low c.args.retained.now (items_in c.args.heads.now) c.requires.heads c.loop-place.place some low in
    omega (arith, over, c.over-group.ensures)

pub loop-place-preserved : goal.loop-place-preserved
loop-place-preserved c =
    let retained = c.args.retained.now in
    let heads = items_in c.args.heads.now in
    let parts = c.args.parts.now.items in
    let place = c.loop-place.place in
    let some : 0 < place = let one = c.loop-place.auto.place in omega arith in
    let low : place < count_of retained = omega (arith, c.loop-place-test.true, c.len-place-end.ensures) in
    let sums = c.loop-place.sums.items in
    let group : ℕ = over_in retained heads place in
    let fit = c.loop-place.invariant.fit in
    let many = fit.as_many in
    elim c.if-index.branch [
      | then-index w ↦
          let marked : IsMarked parts place =
          get_or_default parts place false c.index.result.now (omega (arith, low, c.requires.as_many)) ∙ sym c.index.ensures
          ∙ w.if-index.true in
          let within : group < count_of retained = over_low retained heads c.requires.heads place some low in
          let same : w.over-group.result ≡ group = w.over-group.ensures in
          let sums_at : w.index-then-index.result.now ≡ slice_index sums group = w.index-then-index.ensures
          ∙ get_or_default_zero sums w.over-group.result w.index-then-index.result.now (omega (arith, same, many, within))
          ∙ ap (slice_index sums) same in
          let most : w.bytes-most.result ≡ (sum_at retained group).bytes = w.bytes-most.ensures ∙ ap (λ g. (sum_at retained g).bytes) same
          in
          let new : c.if-index.sums.items ≡ slice_set sums group w.min.result =
          ap (λ (v : Vec ℕ Global). v.items) w.sums-is ∙ ap (λ g. slice_set sums g w.min.result) same in
          record {
            fit = subst (SumsFit retained) (sym new) (sums_fit_more retained sums group w.min.result within
                (omega (arith, w.min.ensures, most)) fit);
            sums = λ ids facts agree tree are marked_all.
                let before = c.loop-place.invariant.sums ids facts agree tree are marked_all in
                let fits = pieces_fit ids facts retained tree heads are parts marked_all sums place some low marked before agree in
                let sum : w.min.result ≡ slice_index sums group + (sum_at retained place).bytes =
                omega (arith, fits, sums_at, most, w.bytes.ensures, w.saturating_add-sum.ensures, w.min.ensures, w.bytes-most.type_inv) in
                subst (λ s. AreBelowTo ids facts retained heads parts s (place + 1)) (ap (slice_set sums group) (sym sum) ∙ sym new)
                (pieces_more ids facts retained tree heads are parts marked_all sums place some low marked before);
          }
      | else-index w ↦
          let none : ¬ (IsMarked parts place) = λ marked. both_ways c.index.result.now w.if-index.false
          (c.index.ensures ∙ get_or_default parts place c.index.result.now false (omega (arith, low, c.requires.as_many)) ∙ marked) in
          let same = sym (ap (λ (v : Vec ℕ Global). v.items) w.sums-is) in
          record {
            fit = subst (SumsFit retained) same fit;
            sums = λ ids facts agree tree are marked_all.
                subst (λ s. AreBelowTo ids facts retained heads parts s (place + 1)) same
                (pieces_same ids facts retained tree heads are parts marked_all sums place none
                (c.loop-place.invariant.sums ids facts agree tree are marked_all));
          }
    ]
