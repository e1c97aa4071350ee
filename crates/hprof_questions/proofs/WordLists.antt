-- Loops over the reports.
use Rattle.std.proofs.Common.{◌≤◌, ◌<◌, ◌+◌, ℕ, zero, suc, List, [], ◌∷◌, take, length, get_or, add-one, subst, sym, arith}
use Rattle.std.specs.List.{AllByRecursion}
use Rattle.std.proofs.lemmas.List.{take_all}
use Rattle.hprof_questions.specs.declared.report.HeapReport.TheVariants as heaps
use Rattle.hprof_questions.specs.declared.report.KindReport.TheVariants as kinds
use Rattle.hprof_questions.specs.declared.report.NodeReport.TheVariants as nodes
use Rattle.hprof_questions.specs.declared.report_word.ReportWord.{ReportWord}
use Rattle.hprof_questions.specs.declared.report_word.ReportWord.TheVariants as words
use Rattle.hprof_questions.specs.Words.{all_words}

more : {A : Type 0} (P : A → Type 0) (xs : List A) (place : ℕ) (default : A) → place < length xs → AllByRecursion P (take place xs)
    → P (get_or xs place default) → AllByRecursion P (take (suc place) xs)
more P [] place default within all one = absurd (omega (arith, within))
more P (x ∷ xs) zero default within all one = (one, tt)
more P (x ∷ xs) (suc place) default within all one = (all.0, more P xs place default (omega (arith, within)) all.1 one)

-- a loop over a list has gone over one more
pub one_more : {A : Type 0} (P : A → Type 0) (xs : List A) (place : ℕ) (default : A) → place < length xs
    → AllByRecursion P (take place xs) → P (get_or xs place default) → AllByRecursion P (take (place + 1) xs)
one_more P xs place default within all one =
    subst (λ (n : ℕ). AllByRecursion P (take n xs)) (sym (add-one place)) (more P xs place default within all one)

module _ (P : ReportWord → Type 0) where
  -- a loop over the reports has
  pub one_more_word : (place : ℕ) → place < length all_words → AllByRecursion P (take place all_words)
      → P (get_or all_words place (words.Heap heaps.Check)) → AllByRecursion P (take (place + 1) all_words)
  one_more_word place within all one = one_more P all_words place (words.Heap heaps.Check) within all one

  -- what holds of all that stand in the list holds of each
  pub of_each : AllByRecursion P all_words → (word : ReportWord) → P word
  of_each all (words.Heap heaps.Check) = all.0
  of_each all (words.Heap heaps.Histogram) = all.1.0
  of_each all (words.Heap heaps.Classes) = all.1.1.0
  of_each all (words.Heap heaps.Threads) = all.1.1.1.0
  of_each all (words.Heap heaps.Suspects) = all.1.1.1.1.0
  of_each all (words.Heap heaps.Retained) = all.1.1.1.1.1.0
  of_each all (words.Kind kinds.Biggest) = all.1.1.1.1.1.1.0
  of_each all (words.Kind kinds.Objects) = all.1.1.1.1.1.1.1.0
  of_each all (words.Node nodes.Show) = all.1.1.1.1.1.1.1.1.0
  of_each all (words.Node nodes.Why) = all.1.1.1.1.1.1.1.1.1.0
  of_each all (words.Node nodes.Who) = all.1.1.1.1.1.1.1.1.1.1.0
  of_each all (words.Node nodes.Keeps) = all.1.1.1.1.1.1.1.1.1.1.1.0
  of_each all (words.Node nodes.Text) = all.1.1.1.1.1.1.1.1.1.1.1.1.0
  of_each all (words.Node nodes.Object) = all.1.1.1.1.1.1.1.1.1.1.1.1.1.0
  of_each all (words.Node nodes.Refs) = all.1.1.1.1.1.1.1.1.1.1.1.1.1.1.0
  of_each all (words.Node nodes.Path) = all.1.1.1.1.1.1.1.1.1.1.1.1.1.1.1.0

  -- so does what holds of those that a loop has gone over, at its end
  pub of_all_words : (place : ℕ) → length all_words ≤ place → AllByRecursion P (take place all_words) → (word : ReportWord) → P word
  of_all_words place end all = of_each (subst (AllByRecursion P) (take_all place all_words end) all)
