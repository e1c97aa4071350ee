use Rattle.std.proofs.Common.{◌≡◌, List, ℕ, Some, subst, sym, ap, ◌∙◌, take, arith}
use Rattle.std.specs.Option.{option_copied}
use Rattle.hprof_byte_tables.specs.Spans.{HasFrontRow, front_row}
use Rattle.hprof_byte_tables.proofs.Framed.{front_got, front_width-some, long_found, short_found}
use Rattle.hprof_byte_tables.proofs.framed_rows.first_row.Goals as goal

pub returns-in_err-first : goal.returns-in_err-first
returns-in_err-first c there =
    absurd (omega (arith, there, front_width-some c.args.bytes.now, c.in_err-first.ensures.cases))

pub returns-then-len-lt-LONG : goal.returns-then-len-lt-LONG
returns-then-len-lt-LONG c =
    let first = c.in_ok-first.first.now in
    let rest = c.in_ok-first.rest.now in
    let len : c.from-len.result ≡ first = c.from-len.ensures in
    subst (λ (l : List ℕ). HasFrontRow l → option_copied c.get.result ≡ Some (front_row l)) (sym c.in_ok-first.ensures.cases.0)
    (short_found first rest (option_copied c.get.result) (omega (arith, len, c.if-len-lt-LONG.true))
    (λ within. front_got c.get.result rest c.from-len.result c.get.ensures.lookup (omega (arith, len, within))
    ∙ ap (λ (count : ℕ). Some (take count rest)) len))

pub returns : goal.returns
returns c =
    let first = c.in_ok-first.first.now in
    let rest = c.in_ok-first.rest.now in
    let len : c.from-len.result ≡ first = c.from-len.ensures in
    subst (λ (l : List ℕ). HasFrontRow l → option_copied c.long_row.result ≡ Some (front_row l)) (sym c.in_ok-first.ensures.cases.0)
    (long_found first rest (option_copied c.long_row.result) (omega (arith, len, c.if-len-lt-LONG.false)) c.long_row.ensures)
