use Rattle.std.specs.Option.{option_copied}
use Rattle.hprof_heap.specs.HeapFacts.{facts_of}
use Rattle.hprof_weak.proofs.Labels.{called_so, found_name}
use Rattle.hprof_weak.proofs.called.label_of.Goals as goal

pub returns : goal.returns
returns c =
    let facts = facts_of c.args.heap.now in
    let found = c.find_name.ensures in
    called_so facts c.holds_of_heap.ensures.agree c.args.class c.in_ok-name.name (option_copied c.find_name.result)
    (c.in_ok-name.ensures facts c.requires)
    (found_name facts c.in_ok-name.name c.find_name.result found.found found.only found.none)
