use Rattle.std.proofs.Common.{List, nat_lt, rules, of_calls, refl, subst, sym}
use Rattle.std.proofs.lemmas.Fn.{always_returns_same}
use Rattle.hprof_objects.specs.declared.any_cut.AnyCut.{AnyCut}
use Rattle.hprof_objects.specs.AnyCuts.{last_in}
use Rattle.hprof_objects.specs.Searched.{BeginFrom}
use Rattle.hprof_objects.proofs.PassedCuts.{begin_from, below_first, passes_first}
use Rattle.hprof_objects.proofs.searched.Searched.pass_below.Goals as goal

pub returns-clause-passes : goal.returns-clause-passes
returns-clause-passes g c =
    let cuts = c.args.self.now.cuts.now in
    let point = c.partition_point-count.ensures.partitioned (λ cut. nat_lt (last_in cut) c.args.id)
    (always_returns_same _ _ _ (λ a r f k. search (rules, of_calls))) (below_first cuts c.args.id c.requires) in
    passes_first c.args.id cuts c.partition_point-count.result point c.args.self.now _ refl c.split_at.ensures.back refl

pub returns-clause-from : goal.returns-clause-from
returns-clause-from g c =
    let cuts = c.args.self.now.cuts.now in
    let point = c.partition_point-count.ensures.partitioned (λ cut. nat_lt (last_in cut) c.args.id)
    (always_returns_same _ _ _ (λ a r f k. search (rules, of_calls))) (below_first cuts c.args.id c.requires) in
    subst (λ (l : List AnyCut). BeginFrom c.args.id l) (sym c.split_at.ensures.back)
    (begin_from c.args.id cuts c.partition_point-count.result point)
