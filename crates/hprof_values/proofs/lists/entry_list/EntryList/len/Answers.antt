use Rattle.std.proofs.Common.{sym}
use Rattle.hprof_values.proofs.EntryLists.{length-entries}
use Rattle.hprof_values.proofs.lists.entry_list.EntryList.len.Goals as goal

pub returns : goal.returns
returns g c = sym (length-entries c.args.self.now.ids g.E.ListEntry.KIND c.args.self.now.len c.args.self.now.bytes.now)
