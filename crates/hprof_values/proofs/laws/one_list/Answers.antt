use Rattle.std.proofs.Common.{sym, ◌∙◌}
use Rattle.hprof_values.proofs.Counting as counting
use Rattle.hprof_values.proofs.IdLists.{ids_again}
use Rattle.hprof_values.proofs.laws.one_list.Goals as goal

pub returns-clause-entries : goal.returns-clause-entries
returns-clause-entries c = counting.one_list

pub returns-clause-identifiers : goal.returns-clause-identifiers
returns-clause-identifiers c = λ ids numbers others bytes list list_too. sym (ids_again ids numbers bytes list).1
    ∙ (ids_again ids others bytes list_too).1
