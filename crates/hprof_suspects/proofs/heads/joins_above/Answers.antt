use Rattle.std.specs.Prelude.{IsTrue}
use Rattle.std.proofs.Common.{◌≡◌, ◌<◌, ◌∙◌, Bool, true, false, not, ap, get_or, refl, sym, arith}
use Rattle.std.proofs.lemmas.Bool.{both_ways, not-true}
use Rattle.std.proofs.lemmas.List.{get_or_default}
use Rattle.hprof_by_label.specs.Labels.{label_at}
use Rattle.hprof_suspects.specs.Heads.{up}
use Rattle.hprof_suspects.specs.PartPlaces.{IsMarked}
use Rattle.hprof_suspects.proofs.HeadPlaces.{above_place, has_parent}
use Rattle.hprof_suspects.proofs.PlaceLabels.{one_label, one_number}
use Rattle.hprof_suspects.proofs.heads.joins_above.Goals as goal

pub returns-then-number : goal.returns-then-number
returns-then-number c = λ ids facts grounds. (
  λ yes. absurd cc,
  λ joins.
      let retained = c.args.retained.now in
      let labels = c.args.labels.now in
      let at = above_place ids facts retained grounds.tree c.args.place (c.requires.some, c.requires.within) joins.0 in
      let same = one_number facts grounds.agree retained labels grounds.labelled c.args.place
      (up retained c.args.place) c.requires.some c.requires.within at.0 at.1 joins.1.alike in
      let other : label_at labels c.above-above.result ≡ label_at labels (up retained c.args.place) = ap (label_at labels)
      c.above-above.ensures in
      absurd (omega (arith, same, other, c.number.ensures.value, c.number-2.ensures.value, c.if-number.true)),
)

pub returns-then-index : goal.returns-then-index
returns-then-index c = λ ids facts grounds. (
  λ yes. absurd cc,
  λ joins.
      let alone = c.args.alone.now.items in
      let marked : IsMarked alone c.args.place =
      get_or_default alone c.args.place false c.index.result.now (omega (arith, c.requires.within, c.requires.alone))
      ∙ sym c.index.ensures ∙ c.if-index.true in
      absurd (joins.1.object ((grounds.alone c.args.place c.requires.some c.requires.within).0 marked)),
)

not_alone : (alone : Bool) → ¬ (IsTrue alone) → IsTrue (not alone)
not_alone true none = absurd (none refl)
not_alone false none = refl

pub returns : goal.returns
returns c = λ ids facts grounds.
    let retained = c.args.retained.now in
    let labels = c.args.labels.now in
    let alone = c.args.alone.now.items in
    let above : c.above-above.result ≡ up retained c.args.place = c.above-above.ensures in
    let some : 0 < up retained c.args.place = omega (arith, above, c.if-above-eq0.false) in
    let at = above_place ids facts retained grounds.tree c.args.place (c.requires.some, c.requires.within) some in
    let mark : get_or alone c.args.place false ≡ c.index.result.now =
    get_or_default alone c.args.place false c.index.result.now (omega (arith, c.requires.within, c.requires.alone)) ∙ sym c.index.ensures in
    let mark_above : get_or alone (up retained c.args.place) false ≡ c.index-2.result.now =
    ap (λ p. get_or alone p false) (sym above)
    ∙ get_or_default alone c.above-above.result false c.index-2.result.now (omega (arith, above, at.1, c.requires.alone))
    ∙ sym c.index-2.ensures in (
      λ yes.
          let other : label_at labels c.above-above.result ≡ label_at labels (up retained c.args.place) = ap (label_at labels) above in
          let same : label_at labels c.args.place ≡ label_at labels (up retained c.args.place) =
          omega (arith, other, c.number.ensures.value, c.number-2.ensures.value, c.if-number.false) in (
            some,
            record {
              below = has_parent ids facts retained grounds.tree c.args.place (c.requires.some, c.requires.within) some;
              alike = one_label facts grounds.agree retained labels grounds.labelled c.args.place (up retained c.args.place)
                  c.requires.some c.requires.within at.0 at.1 same;
              object = λ is. both_ways c.index.result.now c.if-index.false
                  (sym mark ∙ (grounds.alone c.args.place c.requires.some c.requires.within).1 is);
              of_object = λ is. both_ways c.index-2.result.now (not-true c.index-2.result.now yes)
                  (sym mark_above ∙ (grounds.alone (up retained c.args.place) at.0 at.1).1 is);
            },
          ),
      λ joins. not_alone c.index-2.result.now (λ yes. joins.1.of_object
          ((grounds.alone (up retained c.args.place) at.0 at.1).0 (mark_above ∙ yes))),
    )
