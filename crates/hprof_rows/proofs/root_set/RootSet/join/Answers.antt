use Rattle.std.proofs.Common.{◌≡◌, true, rules}
use Rattle.hprof_tables.proofs.Missing.{on_err}
use Rattle.hprof_rows.specs.RootSet.{roots_of}
use Rattle.hprof_rows.proofs.UnionRoots.{lacks_root}
use Rattle.hprof_rows.proofs.root_set.RootSet.join.Goals as goal

pub returns-in_err-all-clause-absent : goal.returns-in_err-all-clause-absent
returns-in_err-all-clause-absent c =
    on_err c.from_residual.result
    (lacks_root (roots_of c.args.self.now) (roots_of c.args.other.now)
    (λ all. let is : c.is_subset.result ≡ true = c.is_subset.ensures.1 all in let no = c.if-is_subset.false in absurd cc))

pub returns-clause-unchanged : goal.returns-clause-unchanged
returns-clause-unchanged c = λ lacks. absurd (lacks (lacks_root (roots_of c.args.self.now) (roots_of c.args.other.now)
    (λ all. let is : c.is_subset.result ≡ true = c.is_subset.ensures.1 all in let no = c.if-is_subset.false in absurd cc)))

pub returns-then-is_subset-clause-absent : goal.returns-then-is_subset-clause-absent
returns-then-is_subset-clause-absent c = search rules
