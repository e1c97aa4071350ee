-- The report `diff` is one text.
use Rattle.std.proofs.Common.{◌≡◌, ℕ, List, sym, ap, subst, ◌∙◌}
use Rattle.hprof_values.specs.declared.ids.IdSize.{IdSize}
use Rattle.hprof_items.specs.FactValue.{FactValue}
use Rattle.hprof_rows.proofs.Order.{one_order}
use Rattle.hprof_diff.specs.Counts.{AreTotals, Totals}
use Rattle.hprof_diff.specs.OneChanges.{one_difference}
use Rattle.hprof_diff.specs.OneTotal.{one_total}
use Rattle.hprof_engine.proofs.Outcomes.{one_state}
use Rattle.hprof_diff.specs.DifferenceText.{AreTotalsOf, IsDifferenceOf, IsDifferenceText, IsGrowthText, changes_text}

pub one_difference_text : (old new : Totals) (one other : List ℕ) → IsDifferenceText old new one → IsDifferenceText old new other
    → one ≡ other
one_difference_text old new one other is is_too =
    is.is ∙ ap changes_text (one_difference old new is.changes is_too.changes is.is_difference is_too.is_difference) ∙ sym is_too.is

pub one_growth_text : (old : Totals) (ids : IdSize) (facts : List FactValue) (one other : List ℕ) → IsGrowthText old ids facts one
    → IsGrowthText old ids facts other → one ≡ other
one_growth_text old ids facts one other is is_too =
    let same = one_total ids facts is.new is_too.new is.agree is.are_totals is_too.are_totals in
    one_difference_text old is_too.new one other (subst (λ (new : Totals). IsDifferenceText old new one) same is.is) is_too.is

-- parts that agree have one total for each label
one_total_of : (parts : List (List ℕ)) (one other : Totals) → AreTotalsOf parts one → AreTotalsOf parts other → one ≡ other
one_total_of parts one other is is_too =
    let once = one_state parts is.heap.ids is_too.heap.ids is.heap.millis is_too.heap.millis is.heap.facts is_too.heap.facts
    is.agree.state is_too.agree.state in
    let facts = one_order is.heap.facts is_too.heap.facts is.agree.ordered is_too.agree.ordered once.2 in
    let with_size = subst (λ (ids : IdSize). AreTotals ids is.heap.facts one) once.0 is.are_totals in
    one_total is_too.heap.ids is_too.heap.facts one other is_too.agree.consistent
    (subst (λ (f : List FactValue). AreTotals is_too.heap.ids f one) facts with_size) is_too.are_totals

pub one_report : (olds news : List (List ℕ)) (one other : List ℕ) → IsDifferenceOf olds news one → IsDifferenceOf olds news other
    → one ≡ other
one_report olds news one other is is_too =
    let of_old = subst (λ (old : Totals). IsDifferenceText old is.new one)
    (one_total_of olds is.old is_too.old is.are_old is_too.are_old) is.is in
    let of_new = subst (λ (new : Totals). IsDifferenceText is_too.old new one)
    (one_total_of news is.new is_too.new is.are_new is_too.are_new)
    of_old in
    one_difference_text is_too.old is_too.new one other of_new is_too.is
