use Rattle.std.proofs.Common.{◌≡◌, ◌≤◌, ◌+◌, ℕ, List, Some, length, take, drop, ap, subst, sym, ◌∙◌, arith}
use Rattle.std.specs.Int.{w64, from_be_bytes}
use Rattle.hprof_byte_tables.specs.Spans.{long_length}
use Rattle.hprof_byte_tables.proofs.Framed.{front_got}
use Rattle.hprof_byte_tables.proofs.framed_rows.long_row.Goals as goal

pub returns : goal.returns
unfolding long_length
returns c there =
    let bytes = c.args.bytes.now in
    let rest = c.in_ok-spelled.rest.now in
    let len = c.from_be_bytes.result in
    let spelled = c.in_ok-spelled.ensures.cases in
    let is : len ≡ long_length bytes = c.from_be_bytes.ensures ∙ ap (from_be_bytes w64) spelled.0 in
    let within : 8 + len ≤ length bytes = subst (λ (count : ℕ). 8 + count ≤ length bytes) (sym is) there in
    front_got c.get.result rest len c.get.ensures.lookup (omega (arith, within, spelled.2))
    ∙ ap (λ (l : List ℕ). Some (take len l)) spelled.1
    ∙ ap (λ (count : ℕ). Some (take count (drop 8 bytes))) is
