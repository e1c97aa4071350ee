use Rattle.std.proofs.Common.{◌≡◌, map}
use Rattle.hprof_tables.proofs.relation.copies.Given as goal

-- those that were copied have the contents of those that were taken
abbrev pub invariant-loop-key : goal.invariant-loop-key
invariant-loop-key g l = map g.V.Content.content l.rows.items ≡ map (λ row. g.V.Content.content row.1.now) l.yielded
