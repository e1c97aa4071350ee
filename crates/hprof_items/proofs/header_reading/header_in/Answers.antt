use Rattle.std.proofs.Common.{◌≡◌, ℕ, ◌-◌, List, length, take, drop, sym, ap, ◌∙◌, arith, rules, Ok}
use Rattle.std.proofs.lemmas.Grind.{common_steps}
use Rattle.byteorder.specs.Endian.{big_number}
use Rattle.hprof_items.specs.Reading.{ids_of, header_at}
use Rattle.hprof_values.proofs.Numbers.{to_the_end}
use Rattle.hprof_items.proofs.Headers.{header_made}
use Rattle.hprof_items.proofs.header_reading.header_in.Goals as goal

pub returns : goal.returns
returns c =
    let bytes = c.args.bytes.now in
    let version = c.in-Some.version in
    let ids = c.in-Some-ids_in.ids in
    let after_text : take (length bytes - 19) (drop 19 bytes) ≡ drop 19 bytes = to_the_end 19 bytes in
    let after_size : take (length bytes - 23) (drop 23 bytes) ≡ drop 23 bytes = to_the_end 23 bytes in
    let time = c.read_u64-millis.ensures ∙ ap (big_number 8) after_size in
    let size = ap (λ (rest : List ℕ). ids_of (big_number 4 rest)) (sym after_text) ∙ ap ids_of (sym c.read_u32.ensures)
    ∙ sym c.in-Some-ids_in.ensures in
    ap (λ (m : ℕ). Ok (record { version = version; ids = ids; millis = m }, 31)) time
    ∙ sym (header_made bytes version ids (omega arith) (sym c.in-Some.ensures) size)

pub returns-then-bytes-lt-HEADER_LEN : goal.returns-then-bytes-lt-HEADER_LEN
unfolding header_at
returns-then-bytes-lt-HEADER_LEN c = grind (arith, common_steps)

pub returns-then-bytes-lt-SIZED_LEN : goal.returns-then-bytes-lt-SIZED_LEN
unfolding header_at
returns-then-bytes-lt-SIZED_LEN c = search rules
