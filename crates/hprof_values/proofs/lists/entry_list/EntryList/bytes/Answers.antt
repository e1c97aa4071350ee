use Rattle.std.proofs.Common.{arith}
use Rattle.hprof_values.proofs.Counting.{entries_fit}
use Rattle.hprof_values.proofs.EntryLists.{length-entries}
use Rattle.hprof_values.proofs.lists.entry_list.EntryList.bytes.Goals as goal

pub returns : goal.returns
returns g c =
    let list = c.args.self.now in
    let kind = g.E.ListEntry.KIND in
    record {
      spelled = record {
        fits = entries_fit list.ids kind list.len list.bytes.now list.range;
        few = let few = list.few in omega (arith, length-entries list.ids kind list.len list.bytes.now);
        spelled = list.spelled;
      };
    }
