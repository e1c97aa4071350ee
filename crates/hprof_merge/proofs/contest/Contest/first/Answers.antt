use Rattle.std.proofs.Common.{◌≡◌, ◌∙◌, ℕ, Option, subst, sym, ap}
use Rattle.hprof_merge.specs.Heads.{keys_in}
use Rattle.hprof_merge.specs.Tree.{lesser_of}
use Rattle.hprof_merge.specs.Contest.{IsLeastHead, heads_of}
use Rattle.hprof_merge.proofs.Apart.{first_of, own_of}
use Rattle.hprof_merge.proofs.contest.Contest.first.Goals as goal
use Rattle.hprof_merge.proofs.contest.Contest.first.Goals.{in-Some, in-None}

pub returns : goal.returns
returns c =
    let contest = c.args.self.now in
    let keys = keys_in contest.tree in
    let own : c.match-self.own ≡ own_of contest.apart contest.key = elim c.match-self.branch [
      | in-Some w ↦ w.own-is ∙ ap (own_of contest.apart) (sym w.in-Some.is)
      | in-None w ↦ w.own-is ∙ ap (own_of contest.apart) (sym w.in-None.is)
    ] in
    let least = first_of keys contest.apart contest.out contest.key c.first.result (λ some. contest.within (contest.some some))
    c.first.ensures in
    subst (IsLeastHead (heads_of contest)) (sym (c.lesser.ensures ∙ ap (λ (o : Option (ℕ × ℕ)). lesser_of o c.first.result) own)) least
