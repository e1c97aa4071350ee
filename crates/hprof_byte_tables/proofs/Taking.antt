-- Rows whose bytes were put behind those of a table, taken into it.
use Rattle.std.proofs.Common.{◌≡◌, ℕ, List, Result, Ok, Err, sym, ap, subst, ◌∙◌}
use Rattle.std.specs.Prelude.{IfOk, OnErr}
use Rattle.std.proofs.lemmas.Result.{IfOk-weaker}
use Rattle.hprof_byte_tables.specs.declared.framed_rows.Span.{Span}
use Rattle.hprof_byte_tables.specs.Spans.{IsSpanOf, AreSpansOf, IsBehind, lying, rows_lying}
use Rattle.hprof_tables.specs.SortedRows.{IsAscending}
use Rattle.hprof_tables.specs.Union.{AreApart, AreUnion}
use Rattle.hprof_tables.proofs.Contents.{apart_rows, ascend_of, union_contents}
use Rattle.hprof_byte_tables.proofs.Spans.{rows_lying-append, within-append}
use Rattle.hprof_tables.proofs.Unions.{union_rows}

-- old, new: the bytes before and afterwards;  stated: the rows that were taken;  fresh: where their bytes lie
module _ (old new : List ℕ) (rows fresh : List (ℕ × Span)) (stated : List (ℕ × List ℕ))
    (behind : IsBehind old new) (within : AreSpansOf old rows) (lay : rows_lying new fresh ≡ stated) where
  -- the rows that were there have the bytes that they had
  kept : rows_lying new rows ≡ rows_lying old rows
  kept = ap (λ (l : List ℕ). rows_lying l rows) behind.1 ∙ rows_lying-append old behind.0 rows within

  pub still_within : AreSpansOf new rows
  still_within = subst (λ (l : List ℕ). AreSpansOf l rows) (sym behind.1) (within-append old behind.0 rows within)

  pub fresh_apart : AreApart (rows_lying old rows) stated → AreApart rows fresh
  fresh_apart apart = apart_rows (lying new) rows fresh (rows_lying old rows) stated kept lay apart

  pub fresh_ascend : IsAscending stated → IsAscending fresh
  fresh_ascend up = ascend_of (lying new) fresh stated lay up

  pub taken_union : (all : List (ℕ × Span)) → AreUnion rows fresh all → AreUnion (rows_lying old rows) stated (rows_lying new all)
  taken_union all union =
      subst (λ (l : List (ℕ × List ℕ)). AreUnion l stated (rows_lying new all)) kept
      (subst (λ (l : List (ℕ × List ℕ)). AreUnion (rows_lying new rows) l (rows_lying new all)) lay
      (union_contents (lying new) rows fresh all union))

  pub tried_within : {A E : Type 0} (r : Result A E) (all : List (ℕ × Span)) → AreSpansOf new fresh → IfOk r (λ _. AreUnion rows fresh all)
      → OnErr r (all ≡ rows) → AreSpansOf new all
  tried_within (Ok done) all fresh_within union same =
      union_rows (λ key span. IsSpanOf new span) rows fresh all still_within fresh_within union
  tried_within (Err e) all fresh_within union same = subst (AreSpansOf new) (sym same) still_within

  pub tried_union : {A E : Type 0} (r : Result A E) (all : List (ℕ × Span)) → IfOk r (λ _. AreUnion rows fresh all)
      → IfOk r (λ _. AreUnion (rows_lying old rows) stated (rows_lying new all))
  tried_union r all union = IfOk-weaker r _ _ (λ done u. taken_union all u) union
