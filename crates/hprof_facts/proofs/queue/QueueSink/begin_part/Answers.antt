use Rattle.std.proofs.Common.{◌≡◌, false, ◌∙◌, drop, refl, rules}
use Rattle.hprof_facts.proofs.Queues.{none_under}
use Rattle.hprof_facts.proofs.queue.QueueSink.begin_part.Goals as goal

pub returns-clause-begins : goal.returns-clause-begins
returns-clause-begins c =
    let now = c.clear.new.self in
    let holds = c.clear.ensures.holds in
    let well : c.args.self.now.failed ≡ false = search rules in
    let none = none_under now.begun c.args.header.ids now.bytes.items (drop now.given now.slots.items) holds.1 in
    (c.clear.ensures.failed ∙ well, (holds.0, none), c.clear.ensures.given, refl)
