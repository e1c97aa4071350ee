use Rattle.hprof_heap.specs.HeapFacts.{size_of}
use Rattle.hprof_stored.proofs.Counted.{stretch_has_union}
use Rattle.hprof_stored.proofs.WatchedPass.{watched_pass}
use Rattle.hprof_stored.proofs.laws.what_was_watched_is_a_pass.Goals as goal

pub returns-clause-agree : goal.returns-clause-agree
returns-clause-agree g c = stretch_has_union g.S.Target.written g.S.Target.health g.P.Parts.bytes

pub returns-clause-took : goal.returns-clause-took
unfolding size_of
returns-clause-took g c = λ readers scratch stored it told ids millis all start now are single watched agreement.
    watched_pass g.R.Source.left g.S.Target.written g.S.Target.health g.P.Parts.bytes g.T.ObjectSink.takes readers scratch stored it told
    are c.objects_in_order_are_their_union.ensures c.objects_stand_behind.ensures.objects c.objects_stand_behind.ensures.heap
    c.parts_come_to_one_thing.ensures.one ids millis all agreement single start now watched
