use Rattle.std.proofs.Common.{inl, inr, arith}
use Rattle.hprof_byte_tables.proofs.Spans.{span_start}
use Rattle.hprof_byte_tables.proofs.framed_rows.Span.row_in.Goals as goal

pub returns-in_err-get : goal.returns-in_err-get
returns-in_err-get c there =
    let up = span_start c.args.bytes.now c.args.self there in
    absurd (elim c.in_err-get.ensures.lookup.0 [ inl past ↦ omega (arith, up, past) | inr past ↦ omega (arith, past) ])
