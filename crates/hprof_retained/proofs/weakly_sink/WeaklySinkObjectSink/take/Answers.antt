use Rattle.std.proofs.Common.{◌≡◌, ◌∙◌, ap, subst}
use Rattle.hprof_items.specs.FactValue.{value_of}
use Rattle.hprof_heap.specs.Objects.{IsObject}
use Rattle.hprof_histogram.specs.Histogram.{size_of_object}
use Rattle.hprof_retained.proofs.WeaklyPassed.{put_weakly}
use Rattle.hprof_retained.proofs.weakly_sink.WeaklySinkObjectSink.take.Goals as goal

pub bytes_of_dump-requires : goal.bytes_of_dump-requires
bytes_of_dump-requires c = c.in-Some.ensures.lists c.args.ids c.requires.lists

pub returns-clause-takes : goal.returns-clause-takes
returns-clause-takes c =
    let is = subst (IsObject c.id_of.result) c.in-Some.ensures.found c.id_of.ensures in
    let size_is : c.bytes_of_dump.result ≡ size_of_object c.args.ids (value_of c.args.object.now) =
    c.bytes_of_dump.ensures ∙ ap (size_of_object c.args.ids) c.in-Some.ensures.found in
    put_weakly c.args.ids (value_of c.args.object.now) c.id_of.result is c.args.self.now c.put.new.self c.bytes_of_dump.result size_is
    c.put.result c.put.ensures.nodes c.put.ensures.bytes
