use Rattle.std.proofs.Common.{◌≡◌, ◌++◌, ℕ, List, sym, ap, ◌∙◌}
use Rattle.std.specs.List.{flat_map}
use Rattle.hprof_items.specs.FactValue.{FactValue}
use Rattle.hprof_rows.specs.declared.table.Table.TheVariants as tables
use Rattle.hprof_heap.specs.HeapFacts.{size_of}
use Rattle.hprof_meaning.specs.Stated.{class_dumped, class_loaded, class_of_row}
use Rattle.hprof_meaning.proofs.ClassLists.{classes_are_all}
use Rattle.hprof_meaning.proofs.gathering.classes_of.Goals as goal

pub returns-clause-all : goal.returns-clause-all
returns-clause-all c = λ all whole histogram.
    let of_rows = c.push_of_rows.new.classes.items in
    let first : of_rows ≡ flat_map class_of_row c.args.rows.now =
    c.in_ok-push_of_rows.ensures ∙ ap (λ l. l ++ flat_map class_of_row c.args.rows.now) c.new-classes.ensures.items in
    classes_are_all (size_of c.args.heap.now) all c.args.rows.now histogram of_rows c.push_loads.new.classes.items
    c.push_dumps.new.classes.items first
    (c.in_ok-push_loads.ensures ∙ ap (λ (l : List FactValue). of_rows ++ flat_map class_loaded l)
    (sym (whole.others tables.Loads (λ e. cc))))
    (c.in_ok-push_dumps.ensures
    ∙ ap (λ (l : List FactValue). c.push_loads.new.classes.items ++ flat_map class_dumped l)
    (sym (whole.others tables.Classes (λ e. cc))))
    c.sort_classes.new.classes.items c.sort_classes.ensures.ascend c.sort_classes.ensures.same
