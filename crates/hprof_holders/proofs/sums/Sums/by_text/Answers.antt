use Rattle.std.proofs.Common.{◌≡◌, ◌++◌, ◌∙◌, List, [], map, sym, ap, subst, append-nil}
use Rattle.std.specs.List.{IsDistinct}
use Rattle.hprof_holders.specs.SumCounts.{entry_value, sum_value}
use Rattle.hprof_holders.specs.Sums.{SumValue}
use Rattle.hprof_holders.proofs.SumEntries.{sums_apart}
use Rattle.hprof_holders.proofs.SumOrder.{same_text}
use Rattle.hprof_holders.proofs.sums.Sums.by_text.Goals as goal

pub returns-clause-apart : goal.returns-clause-apart
returns-clause-apart c =
    let own = map sum_value c.loop-text.sums.items in
    let entries = map entry_value c.args.self.counts.entries in
    let none : map entry_value c.loop-text.text-iterator ≡ [] = ap (λ es. map entry_value es) c.in-None.ensures.steps.0 in
    let same : own ≡ entries = sym (append-nil own) ∙ sym (ap (λ (l : List SumValue). own ++ l) none) ∙ c.loop-text.invariant in
    subst (IsDistinct same_text) (sym same) (sums_apart c.args.self.counts.entries c.len.ensures.ordered)
