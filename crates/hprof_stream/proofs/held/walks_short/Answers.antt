use Rattle.std.proofs.Common.{length, Err, sym, ap, subst, ◌∙◌, arith}
use Rattle.hprof_stream.specs.Item.{Place, item_at}
use Rattle.hprof_stream.specs.Rest.{IsWalkOf, passing_of}
use Rattle.hprof_stream.proofs.Holding.{IsWalkOf-on, walked_short, placed_at, some_room, place_within}
use Rattle.hprof_stream.proofs.held.walks_short.Goals as goal

pub returns-in-Err-Short-clause-walk : goal.returns-in-Err-Short-clause-walk
returns-in-Err-Short-clause-walk c is =
    let progress = c.args.progress.now in
    let longest = progress.limits.max_item in
    let header = c.in-Some.header in
    let bytes = c.args.rest.now.held.items in
    let from = c.args.rest.now.walk in
    let to = c.resume_sub_record-walk.result.0 in
    let place = place_within progress.header progress.room header c.in-Some.is (some_room progress.room c.if-progress-eq0.false) in
    let within = subst (λ (p : Place). IsWalkOf longest p bytes from) place is in
    let kept = rw c.deref.ensures.value at c.resume_sub_record-walk.ensures.kept in
    let end = rw c.deref.ensures.value at c.resume_sub_record-walk.ensures.end in
    let placed = placed_at (record { bytes = c.deref.result; room = progress.room; longest = longest }) to
    c.resume_sub_record-walk.ensures.placed in
    let on = IsWalkOf-on longest header progress.room bytes from within to (omega (arith, placed, ap length c.deref.ensures.value))
    kept in (
      subst (λ (p : Place). IsWalkOf longest p bytes to) (sym place) on,
      λ e. ap (λ (p : Place). item_at longest p bytes) place ∙ walked_short longest header progress.room bytes from within (sym end
          ∙ c.in-Err-Short.is ∙ ap Err (rw c.in-Err-Short.is at c.in-Err-Short.field-0-is)),
    )

pub returns-in-Err-Short-clause-held_whole : goal.returns-in-Err-Short-clause-held_whole
returns-in-Err-Short-clause-held_whole c e =
    let progress = c.args.progress.now in
    ap (λ (p : Place). passing_of progress.limits.max_item p c.args.rest.now.held.items)
    (place_within progress.header progress.room c.in-Some.header c.in-Some.is (some_room progress.room c.if-progress-eq0.false))
