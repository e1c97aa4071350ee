use Rattle.hprof_weak.proofs.ByField.{weak_by_field, weak_together}
use Rattle.hprof_weak.proofs.laws.weak_by_class_and_place.Goals as goal

pub returns-clause-field : goal.returns-clause-field
returns-clause-field c = λ facts agree field edge by. weak_by_field facts agree field edge by

pub returns-clause-both : goal.returns-clause-both
returns-clause-both c = λ facts agree field edge other by too. weak_together facts agree field edge other by too
