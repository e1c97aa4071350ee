use Rattle.std.proofs.Common.{sym}
use Rattle.hprof_numbers.proofs.Placed.{has_place, between}
use Rattle.hprof_numbers.proofs.numbered.Numbered.number_of.Goals as goal

pub returns-then-stands_at : goal.returns-then-stands_at
returns-then-stands_at c =
    let there = rw (c.deref-2.ensures.value) at (c.stands_at.ensures.0 c.if-stands_at.true) in
    sym (has_place c.args.self.now.nodes.items c.args.node c.args.self.now.ascend c.place-place.result there.0 there.1)

pub returns-then-is_missing_at : goal.returns-then-is_missing_at
returns-then-is_missing_at c =
    let missing = rw (c.deref-else-stands_at.ensures.value) at (c.is_missing_at.ensures.0 c.if-is_missing_at.true) in
    let within = rw (c.deref.ensures.value) at c.place-place.ensures in
    sym (between c.args.self.now.nodes.items c.args.node c.args.self.now.ascend c.place-place.result within missing.0 missing.1)
