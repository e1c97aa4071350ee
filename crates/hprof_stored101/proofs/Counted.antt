-- The bytes of rows that are counted.
use Rattle.std.proofs.Common.{◌≡◌, ℕ, ◌+◌, List, [], ◌∷◌, length, ap, ◌∙◌, arith}
use Rattle.std.proofs.lemmas.List.{length-append}
use Rattle.hprof_merge.specs.Rows.{ByteRow}
use Rattle.hprof_merge.specs.Merging.{TakesAll}
use Rattle.hprof_merge.specs.Run.{Runs}
use Rattle.hprof_merge.specs.Union.{IsUnion}
use Rattle.hprof_stored101.specs.declared.byte_counter.ByteCounter.{ByteCounter}
use Rattle.hprof_stored101.specs.ByteCounter.{Counts, capped}
use Rattle.hprof_stored101.specs.Dumping101.{rows_bytes}
use Rattle.hprof_stored101.proofs.Pieces.{capped_more}

-- all rows are counted
run_counted : (from : ℕ) (old : ByteCounter) (rows : List ByteRow) (new : ByteCounter) → old.count ≡ capped from → Runs Counts old rows new
    → new.count ≡ capped (from + length (rows_bytes rows))
run_counted from old [] new is same =
    let one : old.count ≡ new.count = ap (λ (it : ByteCounter). it.count) same in omega (arith, one, is)
run_counted from old (row ∷ rows) new is run =
    let next : run.0.count ≡ capped (from + length row.1) =
    run.1 ∙ ap (λ (n : ℕ). capped (n + length row.1)) is ∙ capped_more from (length row.1) in
    let bytes : length (rows_bytes (row ∷ rows)) ≡ length row.1 + length (rows_bytes rows) = length-append row.1 (rows_bytes rows) in
    let rest = run_counted (from + length row.1) run.0 rows new next run.2 in
    rest ∙ ap capped (omega (arith, bytes))

-- all rows of lists are counted
pub all_counted : (from : ℕ) (lists : List (List ByteRow)) (old new : ByteCounter) → old.count ≡ capped from → TakesAll Counts lists old new
    → (rows : List ByteRow) × IsUnion lists rows × (new.count ≡ capped (from + length (rows_bytes rows)))
all_counted from lists old new is taken = (taken.all, taken.union, run_counted from old taken.all new is taken.run)
