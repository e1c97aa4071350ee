use Rattle.std.proofs.Common.{◌∙◌, ℕ, List, Option, set, ap, sym}
use Rattle.hprof_merge.specs.Heads.{keys_in}
use Rattle.hprof_merge.proofs.Apart.{put_again, put_elsewhere}
use Rattle.hprof_merge.proofs.contest.Contest.set.Goals as goal

pub returns-then-place-self : goal.returns-then-place-self
returns-then-place-self c =
    let was = c.args.self.now in
    let keys = keys_in was.tree in
    sym (put_again keys was.apart was.key c.args.head)
    ∙ ap (λ (p : ℕ). set (set keys was.apart was.key) p c.args.head) (sym c.if-place-self.true)

pub returns-then-is_some : goal.returns-then-is_some
returns-then-is_some c =
    let was = c.args.self.now in
    ap (λ (l : List (Option ℕ)). set l was.apart was.key) c.set.ensures
    ∙ put_elsewhere (keys_in was.tree) was.apart c.args.place was.key c.if-place-self.false c.args.head
