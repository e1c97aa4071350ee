use Rattle.hprof_text.proofs.IdTexts.{AreIdDigits-id_digits}
use Rattle.hprof_text.proofs.laws.digits_are_shortest.Goals as goal

pub returns : goal.returns
returns c = AreIdDigits-id_digits
