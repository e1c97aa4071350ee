-- The room for what is held, from one step to the next.
use Rattle.std.proofs.Common.{ℕ, arith}
use Rattle.hprof_stream.specs.declared.rest.Rest.{Rest}
use Rattle.hprof_stream.specs.Rest.{NeedsGrowth, KeepsRoom}

pub KeepsRoom-then : (old mid new : Rest) (came between left : ℕ) → KeepsRoom old came mid between → KeepsRoom mid between new left
    → KeepsRoom old came new left
KeepsRoom-then old mid new came between left first second = record {
  room = omega (arith, first.room, second.room);
  fewer =
      omega (arith, first.fewer, second.fewer);
}

-- a growth that is needed for what is left was needed for what came
pub NeedsGrowth-from : (old mid : Rest) (came left : ℕ) → KeepsRoom old came mid left → NeedsGrowth mid left → NeedsGrowth old came
NeedsGrowth-from old mid came left keeps needs = omega (arith, keeps.room, keeps.fewer, needs)
