use Rattle.std.proofs.Common.{refl}
use Rattle.hprof_runs.specs.AnyRows.{FirstsCome, OthersCome, firsts_known, others_known}
use Rattle.hprof_runs.specs.Picking.{FirstsGo, OthersGo, firsts_shown, firsts_to_come, others_shown, others_to_come}
use Rattle.hprof_runs.proofs.AllRows.{known_all}
use Rattle.hprof_runs.proofs.laws.cursors_show_sorted_rows.Goals as goal

pub returns-clause-firsts : goal.returns-clause-firsts
returns-clause-firsts c = λ old new came. known_all firsts_shown FirstsGo FirstsCome firsts_known came old new (firsts_to_come old) refl

pub returns-clause-others : goal.returns-clause-others
returns-clause-others c = λ old new came. known_all others_shown OthersGo OthersCome others_known came old new (others_to_come old) refl
