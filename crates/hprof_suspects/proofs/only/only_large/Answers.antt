use Rattle.std.proofs.Common.{◌≡◌, ◌+◌, sym, subst, arith}
use Rattle.std.proofs.lemmas.Bool.{both_ways}
use Rattle.hprof_numbers.specs.Numbers.{items_in}
use Rattle.hprof_retained.specs.Tree.{count_of}
use Rattle.hprof_suspects.specs.PartPlaces.{AreOnlyTo}
use Rattle.hprof_suspects.proofs.OnlyLarge.{only_more, only_same}
use Rattle.hprof_suspects.proofs.only.only_large.Goals as goal
use Rattle.hprof_suspects.proofs.only.only_large.Goals.{then-is_large_head+in_ok-note, else-is_large_head}

pub loop-place-preserved : goal.loop-place-preserved
loop-place-preserved c =
    let retained = c.args.retained.now in
    let labels = c.args.labels.now in
    let heads = items_in c.args.heads.now in
    let place = c.loop-place.place in
    let some = c.loop-place.auto.place in
    elim c.if-is_large_head.branch [
      | then-is_large_head+in_ok-note w ↦
          subst (λ m. AreOnlyTo retained labels heads m (place + 1)) (sym w.only-is)
          (only_more retained labels heads c.loop-place.only place (omega arith) c.loop-place.invariant
          (c.is_large_head.ensures.0 w.if-is_large_head.true) w.note.new.only w.key_at-key.result w.key_at-key.ensures w.in_ok-note.ensures)
      | else-is_large_head w ↦
          subst (λ m. AreOnlyTo retained labels heads m (place + 1)) (sym w.only-is)
          (only_same retained labels heads c.loop-place.only place (omega arith) c.loop-place.invariant
          (λ large. both_ways c.is_large_head.result w.if-is_large_head.false (c.is_large_head.ensures.1 large)))
    ]

pub returns : goal.returns
returns c =
    subst (AreOnlyTo c.args.retained.now c.args.labels.now (items_in c.args.heads.now) c.loop-place.only)
    (let same : c.loop-place.place ≡ count_of c.args.retained.now =
    omega (arith, c.loop-place-test.false, c.len-place-end.ensures, c.loop-place.auto.place-end, c.args.retained.now.numbered.some) in
    same) c.loop-place.invariant
