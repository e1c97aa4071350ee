use Rattle.std.proofs.Common.{[], ◌∷◌, sym, ◌∙◌, rules}
use Rattle.hprof_values.specs.Entries as entries
use Rattle.hprof_items.specs.ClassDump.{class_at}
use Rattle.hprof_values.specs.BoundedBytes.{bounds_of}
use Rattle.hprof_values.proofs.FieldGroups.{reached_passed}
use Rattle.hprof_items.proofs.class_reading.whole_class.Goals as goal

pub list_at-requires : goal.list_at-requires
list_at-requires c =
    let id = c.width-id.result in
    (reached_passed (bounds_of c.args.item) 1 id (4 ∷ id ∷ id ∷ id ∷ id ∷ id ∷ id ∷ 4 ∷ []) c.in_ok-first.first
    (sym c.end_of.ensures ∙ c.in_ok-first.was)).1.there

pub returns-clause-lists : goal.returns-clause-lists
returns-clause-lists c = c.class_of-class.ensures.lists c.args.ids c.of_span.ensures.size c.of_span-2.ensures.size c.of_span-3.ensures.size

pub returns-clause-fact : goal.returns-clause-fact
unfolding class_at
returns-clause-fact c = search rules

pub returns-in_err-fields-clause-fact : goal.returns-in_err-fields-clause-fact
unfolding class_at entries.list_end
returns-in_err-fields-clause-fact c = search rules
