use Rattle.hprof_meaning.proofs.LabelTexts.{labels_exist, one_bare_label}
use Rattle.hprof_meaning.proofs.laws.one_bare_label.Goals as goal

pub returns-clause-some : goal.returns-clause-some
returns-clause-some c = labels_exist

pub returns-clause-one : goal.returns-clause-one
returns-clause-one c = λ facts class one other agree is too. one_bare_label facts agree class one other is too
