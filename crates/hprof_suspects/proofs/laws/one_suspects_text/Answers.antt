use Rattle.hprof_suspects.proofs.OneText.{text_once}
use Rattle.hprof_suspects.proofs.SomeSuspectsText.{suspects_exist}
use Rattle.hprof_suspects.proofs.laws.one_suspects_text.Goals as goal

pub returns-clause-some : goal.returns-clause-some
returns-clause-some c = suspects_exist

pub returns-clause-one : goal.returns-clause-one
returns-clause-one c = text_once
