use Rattle.std.proofs.Common.{◌++◌, ap, ◌∙◌}
use Rattle.std.specs.List.{flat_map}
use Rattle.hprof_rows.specs.declared.table.Table.TheVariants as tables
use Rattle.hprof_rows.specs.Tables.{facts_of_table}
use Rattle.hprof_heap.specs.HeapFacts.{facts_of}
use Rattle.hprof_meaning.specs.Stated.{class_dumped}
use Rattle.hprof_meaning.proofs.ClassLists.{dumps_are_all}
use Rattle.hprof_meaning.proofs.gathering.dumped_classes.Goals as goal

pub returns : goal.returns
returns c =
    let facts = facts_of c.args.heap.now in
    dumps_are_all facts c.push_dumps.new.classes.items c.sort_classes.new.classes.items
    (c.in_ok-push_dumps.ensures ∙ ap (λ l. l ++ flat_map class_dumped (facts_of_table tables.Classes facts)) c.new-classes.ensures.items)
    c.sort_classes.ensures.ascend c.sort_classes.ensures.same
