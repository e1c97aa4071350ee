use Rattle.std.proofs.Common.{Result, Ok, Err, subst}
use Rattle.std.specs.Prelude.{OnOk}
use Rattle.std.specs.List.Sorted.{IsPermutation}
use Rattle.hprof_runs.proofs.Lying.{sorted_rows}
use Rattle.hprof_runs.specs.declared.rows.Rows.{Rows}
use Rattle.hprof_runs.specs.RowsIn.{rows_in, sorted_in}
use Rattle.hprof_runs.specs.RunOf.{run_lists}
use Rattle.hprof_objects.proofs.Spilled.{enough_spilled}
use Rattle.hprof_objects.proofs.row_store.RowStore.spill.Goals as goal

on_ok : {A E P Q : Type 0} (result : Result A E) → OnOk result P → (P → Q) → OnOk result Q
on_ok (Ok done) holds then = then holds
on_ok (Err fault) holds then = tt

-- what was written is enough of the rows that were in memory
pub returns-clause-runs : goal.returns-clause-runs
returns-clause-runs g c =
    let sorted = c.sort-sorted.result in
    let moved : IsPermutation (rows_in c.args.self.now.rows) (sorted_in sorted) =
    subst (λ (r : Rows). IsPermutation (rows_in r) (sorted_in sorted)) c.replace-rows.ensures.value c.sort-sorted.ensures in
    on_ok c.add-outcome.result c.add-outcome.ensures.ok (λ adds. record {
      lists = run_lists (sorted_in sorted);
      adds = adds;
      enough = enough_spilled (rows_in c.args.self.now.rows) (sorted_in sorted) moved
          (sorted_rows sorted.bytes.items sorted.places.items sorted.sorted);
    })
