use Rattle.std.specs.Prelude.{All, map, take}
use Rattle.std.proofs.Common.{◌≡◌, ◌+◌, ◌∙◌, ◌++◌, [], ◌∷◌, List, ap, get_or, sym, subst, subst₂, arith}
use Rattle.std.proofs.lemmas.List.{map-append, take_all, take_more}
use Rattle.std.proofs.lemmas.List.Elements.{All-push}
use Rattle.hprof_suspects.specs.SuspectPlaces.{suspect_of}
use Rattle.hprof_suspects.specs.Told.{AreToldOf, Fits}
use Rattle.hprof_suspects.specs.declared.suspects.SuspectPlace.{SuspectPlace}
use Rattle.hprof_suspects.proofs.ToldTexts.{told_more}
use Rattle.hprof_suspects.proofs.told.told_each.Goals as goal

pub loop-suspect-preserved : goal.loop-suspect-preserved
loop-suspect-preserved c =
    let retained = c.args.retained.now in
    let suspects = c.args.suspects.now in
    let index = c.loop-suspect.suspect-index in
    let nobody : SuspectPlace = record { place = 0; node = 0; pieces = 0 } in
    let suspect : SuspectPlace = get_or suspects index nobody in
    let so = c.loop-suspect.invariant in
    let pushed = c.in_ok-push.ensures.items in
    let front : map (suspect_of retained) (take (index + 1) suspects)
    ≡ map (suspect_of retained) (take index suspects) ++ suspect_of retained suspect ∷ [] =
    ap (map (suspect_of retained)) (take_more suspects index nobody c.loop-suspect-test.true)
    ∙ map-append (suspect_of retained) (take index suspects) (suspect ∷ []) in
    record {
      fit = subst (All (Fits retained)) (sym pushed) (All-push (Fits retained) c.loop-suspect.told.items c.in_ok-own.own so.fit
          c.in_ok-own.ensures.fits);
      told = λ ids facts agree tree labelled heads parts within.
          subst₂ (AreToldOf ids facts retained c.args.labels.now) (sym front) (sym pushed)
          (told_more ids facts retained c.args.labels.now (map (suspect_of retained) (take index suspects)) c.loop-suspect.told.items
          (so.told ids facts agree tree labelled heads parts within) (suspect_of retained suspect) c.in_ok-own.own
          (c.in_ok-own.ensures.told ids facts agree tree labelled heads parts (within index nobody c.loop-suspect-test.true)));
    }

pub returns-clause-told : goal.returns-clause-told
returns-clause-told c = λ ids facts agree tree labelled heads parts within.
    let retained = c.args.retained.now in
    let suspects = c.args.suspects.now in
    let told = c.loop-suspect.told.items in
    subst (λ (l : List SuspectPlace). AreToldOf ids facts retained c.args.labels.now (map (suspect_of retained) l) told)
    (take_all c.loop-suspect.suspect-index suspects (omega (arith, c.loop-suspect-test.false)))
    (c.loop-suspect.invariant.told ids facts agree tree labelled heads parts within)
