use Rattle.hprof_tables.proofs.Contents.{contents_up}
use Rattle.hprof_tables.proofs.relation.Relation.first_difference.Goals as goal

pub first_difference-requires-clause-ascending : goal.first_difference-requires-clause-ascending
first_difference-requires-clause-ascending g c = contents_up g.V.Content.content _ c.rows.ensures.ascending

pub first_difference-requires-clause-others_ascending : goal.first_difference-requires-clause-others_ascending
first_difference-requires-clause-others_ascending g c = contents_up g.V.Content.content _ c.rows-2.ensures.ascending
