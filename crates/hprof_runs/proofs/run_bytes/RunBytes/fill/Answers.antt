use Rattle.std.proofs.Common.{◌+◌, ◌-◌, ◌≤◌, ◌++◌, List, ℕ, length, take, drop, refl, ap, ◌∙◌, arith}
use Rattle.hprof_runs.proofs.Bringing.{fill_brings, part_filled_in}
use Rattle.hprof_runs.proofs.run_bytes.RunBytes.fill.Goals as goal

pub returns-clause-bytes : goal.returns-clause-bytes
returns-clause-bytes g c =
    let it = c.args.self.now in
    let count = c.in-Ok.count in
    let piece = c.read_back.new.piece in
    let block = c.deref_mut.result.now in
    let le : count ≤ it.left = omega (arith, c.in-Ok.ensures.count, c.read_back.auto.piece, c.min-wanted.ensures) in
    let within : it.end ≤ length block = omega (arith, c.deref_mut.ensures.len, it.within) in
    let fits : it.end + count ≤ it.block.len =
    omega (arith, c.in-Ok.ensures.count, c.read_back.auto.piece, c.min-wanted.ensures, it.within, c.len.ensures) in
    fill_brings g.S.Target.written it _ count piece refl refl refl le c.in-Ok.ensures.bytes
    (part_filled_in block piece _ _ it.start it.end count it.block.len it.order within c.in-Ok.ensures.count fits
    ∙ ap (λ (l : List ℕ). take (it.end - it.start) (drop it.start l) ++ take count piece) c.deref_mut.ensures.value)
