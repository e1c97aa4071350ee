-- The class dumps of a whole are those of the facts without objects.
use Rattle.std.proofs.Common.{◌≡◌, List, sym, ap, ◌∙◌}
use Rattle.hprof_values.specs.declared.ids.IdSize.{IdSize}
use Rattle.hprof_items.specs.FactValue.{FactValue}
use Rattle.hprof_rows.specs.declared.table.Table.TheVariants as tables
use Rattle.hprof_passes.specs.Passing.{IsWhole}
use Rattle.hprof_reports.specs.ClassDumps.{dumps_in}
use Rattle.hprof_reports.proofs.ClassLists.{dumps_of_table}

module _ (ids : IdSize) (facts all : List FactValue) (whole : IsWhole ids facts all) where
  pub dumps_same : dumps_in all ≡ dumps_in facts
  dumps_same = sym (dumps_of_table all) ∙ ap dumps_in (whole.others tables.Classes (λ e. cc)) ∙ dumps_of_table facts
