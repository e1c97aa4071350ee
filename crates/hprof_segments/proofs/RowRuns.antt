-- Rows that are taken one after another.
use Rattle.std.proofs.Common.{ℕ, List, [], ◌∷◌, ◌++◌, map, Option, sym, subst, append_assoc, append-nil}
use Rattle.hprof_merge.specs.Rows.{ByteRow}
use Rattle.hprof_merge.specs.Run.{Runs}
use Rattle.hprof_segments.specs.declared.segment_writer.SegmentWriter.{SegmentWriter}
use Rattle.hprof_segments.specs.Sink.{HasTakenRows, TakesRow}

pub rows_taken : {W : Type 0} (written : W → Option (List ℕ)) (old new : SegmentWriter × W) (rows : List ByteRow) (start : Option (List ℕ))
    (subs : List (List ℕ)) → Runs (TakesRow written) old rows new → HasTakenRows written old start subs
    → HasTakenRows written new start (subs ++ map (λ row. row.1) rows)
rows_taken {W} written old new [] start subs run has =
    subst (HasTakenRows written new start) (sym (append-nil subs))
    (subst (λ (state : SegmentWriter × W). HasTakenRows written state start subs) run has)
rows_taken written old new (row ∷ rows) start subs run has =
    subst (HasTakenRows written new start) (append_assoc subs (row.1 ∷ []) (map (λ row. row.1) rows))
    (rows_taken written run.0 new rows start (subs ++ row.1 ∷ []) run.2 (run.1.taken start subs has))
