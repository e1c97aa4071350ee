use Rattle.std.proofs.Common.{◌∙◌, ℕ, List, Option, None, set, ap}
use Rattle.hprof_merge.specs.Heads.{keys_in}
use Rattle.hprof_merge.proofs.Apart.{put_again, put_elsewhere}
use Rattle.hprof_merge.proofs.contest.Contest.hold_out.Goals as goal

pub returns : goal.returns
returns c =
    let was = c.args.self.now in
    let keys = keys_in was.tree in
    let place = c.args.place in
    let beside : List (Option ℕ) → List (Option ℕ) = λ (l : List (Option ℕ)). set l was.apart was.key in
    ap (λ (l : List (Option ℕ)). set l place None)
    (c.set-2.ensures ∙ ap beside c.set.ensures ∙ put_elsewhere keys was.apart place was.key c.requires.other None)
    ∙ put_again (beside keys) place None None
