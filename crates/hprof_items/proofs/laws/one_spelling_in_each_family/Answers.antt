use Rattle.hprof_items.proofs.Families.{spelling_once}
use Rattle.hprof_items.proofs.laws.one_spelling_in_each_family.Goals as goal

pub returns : goal.returns
returns c = spelling_once
