use Rattle.std.proofs.Common.{◌<◌, ◌++◌, ◌∷◌, [], ℕ, List, length, ap, ◌∙◌, arith}
use Rattle.hprof_byte_tables.specs.StatedBytes.{bytes_of}
use Rattle.hprof_byte_tables.proofs.Framed.{short_put, short_size}
use Rattle.hprof_byte_tables.proofs.framed_rows.append.Goals as goal

pub returns-then-len-capacity-clause-ok : goal.returns-then-len-capacity-clause-ok
returns-then-len-capacity-clause-ok c =
    let row = bytes_of c.args.row in
    c.put.ensures.items ∙ ap (λ (l : List ℕ). l ++ row)
    (c.push_reserved.ensures.items ∙ ap (λ (n : ℕ). c.args.bytes.now.items ++ n ∷ []) c.len-len.ensures.value)
    ∙ short_put row c.args.bytes.now.items (omega (arith, c.if-len-lt-LONG.true, c.len-len.ensures.value))

-- there was room
pub returns-then-len-capacity-clause-spare : goal.returns-then-len-capacity-clause-spare
returns-then-len-capacity-clause-spare c =
    let row = bytes_of c.args.row in
    let short : length row < 255 = omega (arith, c.if-len-lt-LONG.true, c.len-len.ensures.value) in
    λ full. absurd (omega (
      arith,
      full,
      short_size row short,
      c.len-len.ensures.value,
      c.if-len-capacity.true,
      c.capacity.ensures,
      c.len.ensures,
    ))
