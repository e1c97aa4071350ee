use Rattle.std.proofs.Common.{◌≡◌, ◌<◌, ◌≤◌, ◌++◌, ◌∷◌, [], ℕ, List, length, ap, ◌∙◌, arith}
use Rattle.std.specs.Int.{w64, to_be_bytes}
use Rattle.hprof_byte_tables.specs.StatedBytes.{bytes_of}
use Rattle.hprof_byte_tables.proofs.Framed.{long_put, long_size, short_put, short_size}
use Rattle.hprof_tables.proofs.SortedList.{at_err}
use Rattle.hprof_byte_tables.proofs.framed_rows.append_any.Goals as goal

pub returns-in_err-make_room-clause-full : goal.returns-in_err-make_room-clause-full
returns-in_err-make_room-clause-full c =
    let short : length (bytes_of c.args.row) < 255 = omega (arith, c.if-len-lt-LONG.true, c.len-len.ensures.value) in
    at_err c.from_residual.result _
    (omega (arith, c.in_err-make_room.ensures.full, short_size (bytes_of c.args.row) short, c.len-len.ensures.value))

pub returns-then-len-lt-LONG-clause-ok : goal.returns-then-len-lt-LONG-clause-ok
returns-then-len-lt-LONG-clause-ok c =
    let bytes = c.args.bytes.now.items in
    let row = bytes_of c.args.row in
    let short : length row < 255 = omega (arith, c.if-len-lt-LONG.true, c.len-len.ensures.value) in
    let pushed : c.push_reserved.new.self.items ≡ bytes ++ length row ∷ [] =
    c.push_reserved.ensures.items ∙ ap (λ (l : List ℕ). l ++ c.len-len.result ∷ []) c.in_ok-make_room.ensures.same
    ∙ ap (λ (n : ℕ). bytes ++ n ∷ []) c.len-len.ensures.value in
    c.put.ensures.items ∙ ap (λ (l : List ℕ). l ++ row) pushed ∙ short_put row bytes short

pub returns-then-len-lt-LONG-clause-spare : goal.returns-then-len-lt-LONG-clause-spare
returns-then-len-lt-LONG-clause-spare c =
    let short : length (bytes_of c.args.row) < 255 = omega (arith, c.if-len-lt-LONG.true, c.len-len.ensures.value) in
    let size = short_size (bytes_of c.args.row) short in
    λ full. omega (
      arith,
      size,
      c.len-len.ensures.value,
      c.in_ok-make_room.ensures.spare (omega (arith, size, full, c.len-len.ensures.value)),
      c.push_reserved.ensures.capacity,
      c.put.ensures.room,
    )

pub returns-in_err-make_room-2-clause-full : goal.returns-in_err-make_room-2-clause-full
returns-in_err-make_room-2-clause-full c =
    let long : 255 ≤ length (bytes_of c.args.row) = omega (arith, c.if-len-lt-LONG.false, c.len-len.ensures.value) in
    at_err c.from_residual-in_err-make_room-2.result _
    (omega (arith, c.in_err-make_room-2.ensures.full, long_size (bytes_of c.args.row) long, c.len-len.ensures.value))

pub returns-clause-ok : goal.returns-clause-ok
returns-clause-ok c =
    let bytes = c.args.bytes.now.items in
    let row = bytes_of c.args.row in
    let long : 255 ≤ length row = omega (arith, c.if-len-lt-LONG.false, c.len-len.ensures.value) in
    let spelled = to_be_bytes w64 (length row) in
    let pushed : c.push_reserved-2.new.self.items ≡ bytes ++ 255 ∷ [] =
    c.push_reserved-2.ensures.items ∙ ap (λ (l : List ℕ). l ++ 255 ∷ []) c.in_ok-make_room-2.ensures.same in
    let put : c.extend_from_slice.new.self.items ≡ (bytes ++ 255 ∷ []) ++ spelled =
    c.in_ok-extend_from_slice.ensures.items ∙ ap (λ (l : List ℕ). l ++ c.to_be_bytes.result) pushed
    ∙ ap (λ (l : List ℕ). (bytes ++ 255 ∷ []) ++ l)
    (c.to_be_bytes.ensures ∙ ap (to_be_bytes w64) c.len-len.ensures.value) in
    c.put-2.ensures.items ∙ ap (λ (l : List ℕ). l ++ row) put ∙ long_put row bytes long

pub returns-clause-spare : goal.returns-clause-spare
returns-clause-spare c =
    let long : 255 ≤ length (bytes_of c.args.row) = omega (arith, c.if-len-lt-LONG.false, c.len-len.ensures.value) in
    let size = long_size (bytes_of c.args.row) long in
    λ full. omega (
      arith,
      size,
      c.len-len.ensures.value,
      c.in_ok-make_room-2.ensures.spare (omega (arith, size, full, c.len-len.ensures.value)),
      c.push_reserved-2.ensures.capacity,
      c.in_ok-extend_from_slice.ensures.capacity,
      c.put-2.ensures.room,
    )
