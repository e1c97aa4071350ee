use Rattle.hprof_text.proofs.IdTexts.{IsIdText-id_digits, id_value-id_digits}
use Rattle.hprof_text.proofs.laws.digits_are_taken.Goals as goal

pub returns : goal.returns
returns c = λ id small. (IsIdText-id_digits id small, id_value-id_digits id small)
