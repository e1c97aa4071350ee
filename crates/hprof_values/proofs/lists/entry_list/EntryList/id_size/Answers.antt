use Rattle.std.proofs.Common.{arith}
use Rattle.hprof_values.proofs.Counting.{entries_fit}
use Rattle.hprof_values.proofs.EntryLists.{length-entries}
use Rattle.hprof_values.proofs.lists.entry_list.EntryList.id_size.Goals as goal

pub returns-clause-fits : goal.returns-clause-fits
returns-clause-fits g c =
    let list = c.args.self.now in
    let kind = g.E.ListEntry.KIND in
    let few = list.few in (
      entries_fit list.ids kind list.len list.bytes.now list.range,
      omega (arith, length-entries list.ids kind list.len list.bytes.now),
    )
