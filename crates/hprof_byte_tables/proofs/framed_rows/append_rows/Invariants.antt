use Rattle.std.proofs.Common.{◌≡◌, ◌≤◌, ◌++◌, length, vec_capacity}
use Rattle.hprof_byte_tables.specs.Spans.{AreSpansOf, IsBehind, row_bytes, rows_lying}
use Rattle.hprof_tables.specs.Relation.{contents_of}
use Rattle.hprof_byte_tables.proofs.framed_rows.append_rows.Given as goal

-- the bytes of the rows that were taken lie at their spans, behind those that were there
abbrev pub invariant-loop-key : goal.invariant-loop-key
invariant-loop-key l =
    record {
      behind : IsBehind l.fn.bytes.items l.bytes.items;
      put : l.bytes.items ≡ l.fn.bytes.items ++ row_bytes (contents_of (λ row. row.0.now) l.yielded);
      within : AreSpansOf l.bytes.items l.spans.items;
      lying : rows_lying l.bytes.items l.spans.items ≡ contents_of (λ row. row.0.now) l.yielded;
      same : length l.yielded ≡ 0 → l.bytes ≡ l.fn.bytes;
      room : vec_capacity l.fn.bytes ≤ vec_capacity l.bytes;
    }
