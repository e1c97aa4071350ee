use Rattle.std.proofs.Common.{[], ap, ◌∙◌}
use Rattle.hprof_edges.specs.Collecting.{is_edge_wanted}
use Rattle.hprof_edges.proofs.to_identifier.begun.Goals as goal

pub returns-clause-classes : goal.returns-clause-classes
returns-clause-classes c = c.in_ok-put_of_classes.ensures.holds [] c.new-set.ensures.none

pub returns-clause-keeps : goal.returns-clause-keeps
returns-clause-keeps c = c.in_ok-put_of_classes.ensures.keeps ∙ ap is_edge_wanted c.new-set.ensures.wanted
