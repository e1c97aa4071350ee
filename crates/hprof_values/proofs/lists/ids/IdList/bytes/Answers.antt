use Rattle.hprof_values.proofs.IdLists.{ids_found}
use Rattle.hprof_values.proofs.lists.ids.IdList.bytes.Goals as goal

pub returns : goal.returns
returns c =
    let list = c.args.self.now in record { spelled = ids_found list.ids list.bytes.now list.range list.whole }
