use Rattle.std.proofs.Common.{◌<◌, List, drop, length, ap, arith, rules}
use Rattle.std.proofs.lemmas.List.{length-drop}
use Rattle.hprof_facts.specs.declared.kept.Slot.{Slot}
use Rattle.hprof_facts.proofs.Queues.{none_left}
use Rattle.hprof_facts.proofs.queue.Queue.has_next.Goals as goal

pub returns-clause-some : goal.returns-clause-some
returns-clause-some c = λ more holds.
    let its = c.args.self.now in
    let below : its.given < length its.slots.items = search rules in
    let none = ap (λ (l : List Slot). length l) (none_left its.begun its.bytes.items (drop its.given its.slots.items) holds.1) in
    absurd (omega (arith, below, none, length-drop its.given its.slots.items))
