use Rattle.std.proofs.Common.{◌∙◌, inl, inr, sym, subst}
use Rattle.std.proofs.lemmas.Result.{IfOk-weaker}
use Rattle.std.specs.Prelude.{All, map}
use Rattle.std.proofs.Common.{List}
use Rattle.hprof_keeps.specs.Order.{retained_in}
use Rattle.hprof_retained.specs.Tree.{total_of}
use Rattle.hprof_suspects.specs.SuspectPlaces.{IsWithin, suspect_of}
use Rattle.hprof_suspects.specs.SuspectsText.{AreSuspects}
use Rattle.hprof_suspects.specs.Told.{AreTold, AreToldOf}
use Rattle.hprof_suspects.specs.declared.suspects.SuspectPlace.{SuspectPlace}
use Rattle.hprof_suspects.proofs.told.all_told.Goals as goal

pub returns-then-bytes-eq0-clause-told : goal.returns-then-bytes-eq0-clause-told
returns-then-bytes-eq0-clause-told c = λ ids facts grounds.
    inl (sym c.bytes.ensures ∙ c.if-bytes-eq0.true, c.new.ensures.items)

pub returns-clause-told : goal.returns-clause-told
returns-clause-told c = λ ids facts grounds.
    let retained = c.args.retained.now in
    let labels = c.args.labels.now in
    let heads = c.in_ok-heads.ensures.heads ids facts grounds in
    let parts = c.in_ok-parts.ensures.parts ids facts grounds heads in
    let sums = c.in_ok-sums.ensures.sums ids facts grounds.agree grounds.tree heads parts in
    let suspects = c.in_ok-suspects.ensures.suspects ids facts grounds.tree parts sums in
    let within = c.in_ok-suspects.ensures.within ids facts grounds.agree grounds.tree in
    let same = sym c.deref.ensures.value in
    IfOk-weaker c.told_each.result
    (λ told. AreToldOf ids facts retained labels (map (suspect_of retained) c.deref.result.now) told.items)
    (λ told. AreTold ids facts retained labels told.items)
    (λ told are. inr (
      λ none. c.if-bytes-eq0.false (c.bytes.ensures ∙ none),
      map (suspect_of retained) c.deref.result.now,
      subst (λ (l : List SuspectPlace). AreSuspects ids facts (retained_in retained) (total_of retained) (map (suspect_of retained) l)) same
          suspects,
      are,
    ))
    (c.told_each.ensures.told ids facts grounds.agree grounds.tree grounds.labelled heads parts
    (subst (All (IsWithin retained)) same within))
