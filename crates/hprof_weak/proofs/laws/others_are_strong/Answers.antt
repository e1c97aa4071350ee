use Rattle.hprof_weak.proofs.laws.others_are_strong.Goals as goal

pub returns : goal.returns
returns c = λ facts edge not weak. not weak.via_is
