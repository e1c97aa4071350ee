use Rattle.std.proofs.Common.{◌≡◌, ◌+◌, ◌-◌, ◌∙◌, false, refl, sym, subst, arith, slice_index}
use Rattle.std.proofs.lemmas.Bool.{both_ways}
use Rattle.std.proofs.lemmas.Grind.{get_or_default_zero}
use Rattle.std.proofs.lemmas.List.{get_or_default}
use Rattle.hprof_suspects.specs.PartPlaces.{IsMarked}
use Rattle.hprof_suspects.specs.SuspectPlaces.{AreSuspectsTo}
use Rattle.hprof_suspects.proofs.SuspectsSoFar.{no_part, one_more, too_few}
use Rattle.hprof_suspects.proofs.suspects.push_if_suspect.Goals as goal

pub returns-then-not-index : goal.returns-then-not-index
returns-then-not-index c =
    let parts = c.args.parts.now.items in
    let none : ¬ (IsMarked parts c.args.place) = λ marked. both_ways c.index.result.now c.if-not-index.true
    (c.index.ensures ∙ get_or_default parts c.args.place c.index.result.now false (omega (arith, c.requires.within, c.requires.parts)) ∙
    marked) in
    no_part c.args.retained.now parts c.args.sums.now.items c.args.place c.args.suspects.now.items c.requires.before none

pub returns-then-not-is_tenth : goal.returns-then-not-is_tenth
returns-then-not-is_tenth c =
    let sums = c.args.sums.now.items in
    let sum : c.index-2.result.now ≡ slice_index sums c.args.place =
    c.index-2.ensures ∙ get_or_default_zero sums c.args.place c.index-2.result.now (omega (arith, c.requires.within, c.requires.sums)) in
    too_few c.args.retained.now c.args.parts.now.items sums c.args.place c.args.suspects.now.items c.requires.before
    (c.bytes.result - c.index-2.result.now) (omega (arith, sum, c.bytes.ensures, c.requires.fits))
    (λ enough. both_ways c.is_tenth.result c.if-not-is_tenth.true (c.is_tenth.ensures.1 (omega (arith, enough, c.bytes-2.ensures))))

pub returns : goal.returns
returns c =
    let sums = c.args.sums.now.items in
    let parts = c.args.parts.now.items in
    let sum : c.index-2.result.now ≡ slice_index sums c.args.place =
    c.index-2.ensures ∙ get_or_default_zero sums c.args.place c.index-2.result.now (omega (arith, c.requires.within, c.requires.sums)) in
    let marked : IsMarked parts c.args.place =
    get_or_default parts c.args.place false c.index.result.now (omega (arith, c.requires.within, c.requires.parts)) ∙ sym c.index.ensures
    ∙ c.if-not-index.false in
    let enough = c.is_tenth.ensures.0 c.if-not-is_tenth.false in
    subst (AreSuspectsTo c.args.retained.now parts sums (c.args.place + 1)) (sym c.in_ok-push.ensures.items)
    (one_more c.args.retained.now parts sums c.args.place c.args.suspects.now.items c.requires.before
    (record { place = c.args.place; node = c.id_at-node.result; pieces = c.bytes.result - c.index-2.result.now }) refl (record {
      before = omega arith;
      part = marked;
      pieces = omega (arith, sum, c.bytes.ensures, c.requires.fits);
      enough = omega (arith, enough, c.bytes-2.ensures);
      node = c.id_at-node.ensures;
    }))
