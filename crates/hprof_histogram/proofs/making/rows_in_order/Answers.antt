use Rattle.std.proofs.Common.{◌≡◌, sym, subst, ◌∙◌}
use Rattle.std.specs.List.{IsDistinct, filter}
use Rattle.std.specs.List.Sorted.{IsPermutation}
use Rattle.std.proofs.lemmas.List.Elements.{filter-append}
use Rattle.hprof_tables.specs.HintedMap.{rows_in}
use Rattle.hprof_histogram.specs.CountedKinds.{class_rows, element_types, has_objects, type_rows}
use Rattle.hprof_histogram.proofs.CandidateRows.{candidates, rows_apart}
use Rattle.hprof_histogram.proofs.HistogramRows.{rows_are_histogram}
use Rattle.hprof_histogram.proofs.RowOrder.{same_row_kind}
use Rattle.hprof_histogram.proofs.making.rows_in_order.Goals as goal

pub sort_rows-requires : goal.sort_rows-requires
sort_rows-requires c =
    let tally = c.args.tally.now in
    let same : c.in_ok-rows.rows.items ≡ filter has_objects (candidates (rows_in tally.classes) tally.types) =
    c.in_ok-rows.ensures.rows
    ∙ sym (filter-append has_objects (class_rows (rows_in tally.classes)) (type_rows tally.types element_types)) in
    subst (IsDistinct same_row_kind) (sym same) (rows_apart (rows_in tally.classes) tally.types c.in_ok-rows.ensures.apart)

pub returns : goal.returns
returns c = λ ids facts fit is.
    let tally = c.args.tally.now in
    let after = c.sort_rows.new.rows.items in
    let same : c.in_ok-rows.rows.items ≡ filter has_objects (candidates (rows_in tally.classes) tally.types) =
    c.in_ok-rows.ensures.rows
    ∙ sym (filter-append has_objects (class_rows (rows_in tally.classes)) (type_rows tally.types element_types)) in
    rows_are_histogram tally c.in_ok-rows.ensures.apart ids facts is fit after
    (subst (λ before. IsPermutation before after) same c.sort_rows.ensures.same) c.sort_rows.ensures.ascend
