use Rattle.std.proofs.Common.{◌≡◌, ◌+◌, ℕ, subst, sym, arith}
use Rattle.std.specs.Io.KnownBytes.{Consumes, IsAtEnd}
use Rattle.std.specs.Prelude.{◌<◌, length, take}
use Rattle.hprof_handles.specs.HandleAt.{rest_at}
use Rattle.hprof_handles.proofs.Rest.{rest_consumed, rest_ended}
use Rattle.hprof_handles.proofs.handle_at.HandleAtRead.read.Goals as goal

pub returns-clause-bytes : goal.returns-clause-bytes
returns-clause-bytes g c =
    let bytes = g.H.ReadAt.bytes c.args.self.now.handle.now in
    let at : ℕ = c.args.self.now.at in
    let count : ℕ = c.in_ok-count.count in
    let piece = c.read_at.new.piece in
    let next : c.in-Some.next ≡ at + count = omega arith in
    subst (λ (n : ℕ). Consumes (rest_at bytes at) (rest_at bytes n) (take count piece)
    × (count ≡ 0 → 0 < length piece → IsAtEnd (rest_at bytes n))) (sym next) (
      rest_consumed bytes at count piece c.in_ok-count.ensures.bytes,
      rest_ended bytes at count piece c.in_ok-count.ensures.bytes,
    )
