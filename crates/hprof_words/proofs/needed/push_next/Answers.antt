use Rattle.hprof_heap.specs.HeapFacts.{facts_of, size_of}
use Rattle.hprof_words.proofs.NextParts.{grown, has_first, has_second, next_of_parts}
use Rattle.hprof_words.proofs.needed.push_next.Goals as goal

pub returns-clause-grows : goal.returns-clause-grows
returns-clause-grows c =
    let second = c.in_ok-push_some.ensures.grows in
    let third = c.in_ok-push_some-2.ensures.grows in
    grown c.args.needed.now.items c.push.new.self.items c.push_some.new.ids.items c.push_some-2.new.ids.items c.args.id second.0 third.0
    c.in_ok-push.ensures.items second.1 third.1

pub returns-clause-has : goal.returns-clause-has
returns-clause-has c =
    let id = c.args.id in
    let array = c.in_ok-array.array in
    let name = c.in_ok-name.name in
    let text = c.in_ok-array.ensures in
    let named = c.in_ok-name.ensures c.requires in
    let old = c.args.needed.now.items in
    let one = c.push.new.self.items in
    let two = c.push_some.new.ids.items in
    let new = c.push_some-2.new.ids.items in
    let first = c.in_ok-push.ensures.items in
    let second = c.in_ok-push_some.ensures.grows in
    let third = c.in_ok-push_some-2.ensures.grows in
    next_of_parts (size_of c.args.heap.now) (facts_of c.args.heap.now) id c.holds_of_heap.ensures.agree new array name
    (record { fields = text.0; are_fields = text.1; is = text.2 }) (record { fields = named.0; are_fields = named.1; is = named.2 })
    (has_first old one two new id second.0 third.0 first second.1 third.1)
    (has_second old one two new id second.0 third.0 first second.1 third.1 array c.in_ok-push_some.ensures.has)
    c.in_ok-push_some-2.ensures.has
