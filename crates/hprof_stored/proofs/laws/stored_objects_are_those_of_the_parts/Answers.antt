use Rattle.hprof_heap.specs.HeapFacts.{facts_of, size_of}
use Rattle.hprof_stored.specs.Parts.{all_read}
use Rattle.hprof_stored.proofs.MadeUp.{agreed_made_up, as_read, contents_disagree, faults_of_same, union_agrees}
use Rattle.hprof_stored.proofs.laws.stored_objects_are_those_of_the_parts.Goals as goal

pub returns-clause-heap : goal.returns-clause-heap
unfolding facts_of size_of
returns-clause-heap g c = λ readers scratch stored it told ids millis all are agreement.
    agreed_made_up g.R.Source.left g.S.Target.written g.S.Target.health g.P.Parts.bytes readers scratch stored it told are
    c.objects_in_order_are_their_union.ensures c.objects_stand_behind.ensures.objects c.objects_stand_behind.ensures.heap
    c.parts_come_to_one_thing.ensures.one ids millis all agreement

pub returns-clause-agree : goal.returns-clause-agree
unfolding facts_of size_of
returns-clause-agree g c = λ readers scratch stored it told are have.
    union_agrees g.R.Source.left g.S.Target.written g.S.Target.health g.P.Parts.bytes readers scratch stored it told are
    c.objects_stand_behind.ensures.objects c.objects_stand_behind.ensures.heap have

pub returns-clause-disagree : goal.returns-clause-disagree
unfolding facts_of size_of
returns-clause-disagree g c = λ readers scratch stored it told id are tells.
    contents_disagree g.R.Source.left g.S.Target.written g.S.Target.health g.P.Parts.bytes readers scratch stored it told are
    c.conflicts_of_objects_come_last.ensures.objects id
    (tells (all_read are.holds.parts)
    (as_read g.R.Source.left g.S.Target.written g.S.Target.health g.P.Parts.bytes readers scratch stored it told are))

pub returns-clause-faults : goal.returns-clause-faults
unfolding facts_of size_of
returns-clause-faults g c = λ readers scratch stored it told fault are tells.
    faults_of_same g.R.Source.left g.S.Target.written g.S.Target.health g.P.Parts.bytes readers scratch stored it told are
    g.S.Scratch.unreadable fault tells
