use Rattle.std.proofs.Common.{arith}
use Rattle.hprof_weak.proofs.weak_classes.WeakClasses.put_few.Goals as goal

pub loop-preserved : goal.loop-preserved
loop-preserved c =
    let before = c.loop.invariant in
    let long = c.len.ensures in
    let same = c.loop.fields.ok.0 in
    let room = c.saturating_sub-room.ensures in
    let few = c.in_ok-put_weak.ensures.few in
    record {
      put = λ facts agree were. (c.in_ok-put_weak.ensures.puts facts agree (before.put facts agree were)).put;
      few = λ count old most. let less = before.few count old most in omega (arith, long, same, room, few, less, most);
    }
