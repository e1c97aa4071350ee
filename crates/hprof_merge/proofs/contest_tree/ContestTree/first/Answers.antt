use Rattle.std.proofs.Common.{◌≡◌, ◌<◌, Option, None, ℕ, length, subst, sym, ◌∙◌, arith}
use Rattle.std.proofs.lemmas.List.{get_or_default}
use Rattle.hprof_merge.specs.Tree.{node_at, keys_from}
use Rattle.hprof_merge.specs.Contest.{IsLeastHead}
use Rattle.hprof_merge.proofs.Tree.{first_least}
use Rattle.hprof_merge.proofs.contest_tree.ContestTree.first.Goals as goal

pub returns : goal.returns
returns c =
    let contest = c.args.self.now in
    let some : 0 < contest.count = omega (arith, c.if-self-eq0.false) in
    let there : 1 < length contest.nodes.items = omega (arith, contest.tree.sized) in
    let first : node_at contest.nodes.items 1 ≡ c.index.result.now =
    sym (c.index.ensures ∙ get_or_default contest.nodes.items 1 c.index.result.now None there) in
    let P : Option (ℕ × ℕ) → Type 0 = λ h. IsLeastHead (keys_from contest.count contest.nodes.items) h in
    subst P first (first_least contest.nodes.items contest.count contest.tree some)
