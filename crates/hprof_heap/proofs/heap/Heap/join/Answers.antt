use Rattle.std.proofs.Common.{rules, ◌≡◌, refl}
use Rattle.hprof_heap.proofs.heap.Heap.join.Goals as goal

pub returns-in-Some : goal.returns-in-Some
returns-in-Some c =
    let one_size : c.args.self.now.tables.ids ≡ c.args.other.now.tables.ids = search rules in
    (one_size, c.first_difference.ensures.some c.in-Some.key c.in-Some.is, refl)

pub returns-then-is_err : goal.returns-then-is_err
returns-then-is_err c = search rules

pub returns-then-ne : goal.returns-then-ne
returns-then-ne c = search rules

pub returns : goal.returns
returns c = search rules
