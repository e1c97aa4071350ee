use Rattle.std.proofs.Common.{◌≡◌, ◌++◌, ◌∷◌, [], slice_index, arith, rules}
use Rattle.hex.specs.Hex.{encode_lower}
use Rattle.hprof_text.proofs.Prints.{printed_bytes_none, printed_bytes_more}
use Rattle.hprof_text.proofs.printing.push_bytes.Goals as goal

pub loop-byte-init : goal.loop-byte-init
loop-byte-init c = printed_bytes_none c.extend_from_slice.new.self.items (search rules)

pub loop-byte-preserved : goal.loop-byte-preserved
loop-byte-preserved c =
    let byte = slice_index c.args.bytes.now c.loop-byte.byte-index in
    let after : c.extend_from_slice-in-loop-byte.new.self.items ≡ c.loop-byte.text.items ++ encode_lower (byte ∷ []) = search rules in
    printed_bytes_more c.args.bytes.now c.loop-byte.text.items _ c.loop-byte.byte-index (omega arith) c.loop-byte.invariant after
