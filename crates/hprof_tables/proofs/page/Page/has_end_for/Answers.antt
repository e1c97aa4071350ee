use Rattle.hprof_tables.proofs.PageRows.{goes_last}
use Rattle.hprof_tables.proofs.page.Page.has_end_for.Goals as goal

pub returns-then-len-capacity-clause-goes : goal.returns-then-len-capacity-clause-goes
returns-then-len-capacity-clause-goes g c = λ t. goes_last c.args.key c.args.self.now.rows.items (c.ends_below.ensures t)
