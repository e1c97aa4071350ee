-- What is made of parts that agree, by the heap without objects and the rows of the objects.
use Rattle.std.proofs.Common.{ℕ, List, subst}
use Rattle.hprof_stream.specs.declared.summary.PartSummary.{PartSummary}
use Rattle.hprof_rows.specs.HeapValue.{HeapValue}
use Rattle.hprof_merge.specs.Rows.{ByteRow}
use Rattle.hprof_objects.specs.Whole.{with_objects}
use Rattle.hprof_engine.specs.Makes.{IsDump, IsDumpText, IsMadeOf}
use Rattle.hprof_engine.specs.Summaries.{AreSummaries}
use Rattle.hprof_engine.proofs.OneSummary.{some_summary_each}
use Rattle.hprof_stored.specs.Dumping.{AreSubRecords, dump_with}
use Rattle.hprof_stored.proofs.Dumped.{dump_of_all, rows_are_subs}
use Rattle.hprof_stored.proofs.Joined.{AgreeWith}

module _ (parts : List (List ℕ)) (heap : HeapValue) (rows : List ByteRow) (it : AgreeWith parts heap rows) where
  -- a text of the heap with the objects behind it
  pub made_with : (IsText : List PartSummary → HeapValue → List ℕ → Type 0) (text : List ℕ)
      → ((summaries : List PartSummary) → IsText summaries (with_objects heap it.objects) text) → IsMadeOf IsText parts text
  made_with IsText text is =
      let summaries = some_summary_each it.agree.state.states it.agree.state.each in
      record {
        heap = with_objects heap it.objects;
        agree = it.agree;
        summaries = summaries.0;
        of_parts = subst (λ (l : List (List ℕ)). AreSummaries l summaries.0) it.agree.state.of_parts summaries.1;
        is = is summaries.0;
      }

  pub is_dump : IsDump parts (dump_with heap rows)
  is_dump = made_with IsDumpText (dump_with heap rows) (λ summaries. dump_of_all heap rows it.objects it.are)

  pub are_sub_records : AreSubRecords rows
  are_sub_records = rows_are_subs heap.ids rows it.objects it.are
