-- The report `check` is one text.
use Rattle.std.proofs.Common.{◌≡◌, ℕ, ◌+◌, List, [], ◌∷◌, sym, ap, ◌∙◌, inl, inr}
use Rattle.hprof_items.specs.FactValue.{FactValue}
use Rattle.hprof_stream.specs.declared.summary.PartSummary.{PartSummary}
use Rattle.hprof_rows.specs.declared.table.Table.TheVariants as tables
use Rattle.hprof_rows.specs.Tables.{facts_of_table}
use Rattle.hprof_reports.specs.Counts.{IsCountOf}
use Rattle.hprof_reports.specs.Check.{IsBadName, IsCheck, check_text}

-- there is one number of those that have the property
one_count : {A : Type 0} (P : A → Type 0) (xs : List A) (one other : ℕ) → IsCountOf P xs one → IsCountOf P xs other → one ≡ other
one_count P [] one other e f = e ∙ sym f
one_count P (x ∷ xs) one other (inl e) (inl f) = e.2 ∙ ap (λ (n : ℕ). n + 1) (one_count P xs e.1 f.1 e.3 f.3) ∙ sym f.2
one_count P (x ∷ xs) one other (inl e) (inr f) = absurd (f.0 e.0)
one_count P (x ∷ xs) one other (inr e) (inl f) = absurd (e.0 f.0)
one_count P (x ∷ xs) one other (inr e) (inr f) = one_count P xs one other e.1 f.1

pub one_check : (parts : List PartSummary) (facts : List FactValue) (one other : List ℕ) → IsCheck parts facts one
    → IsCheck parts facts other → one ≡ other
one_check parts facts one other e f =
    e.2 ∙ ap (check_text parts facts) (one_count IsBadName (facts_of_table tables.Names facts) e.0 f.0 e.1 f.1) ∙ sym f.2
