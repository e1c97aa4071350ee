use Rattle.std.proofs.Common.{rules, refl, sym, subst}
use Rattle.hprof_objects.specs.StoredObjects.{IsOneStretch, objects_of}
use Rattle.hprof_stored.specs.InParts.{TellsPass, objects_under}
use Rattle.hprof_stored.proofs.Counted.{lists_counted, stretch_counted, stretch_has_union, tells_count}
use Rattle.hprof_stored.proofs.in_parts.InParts.count_all.Goals as goal

pub returns-in-Some-clause-count : goal.returns-in-Some-clause-count
returns-in-Some-clause-count g c =
    stretch_counted g.S.Target.written g.S.Target.health g.P.Parts.bytes c.args.self.now c.in-Some.count c.in-Some.ensures.count

pub returns-in-Some-clause-agree : goal.returns-in-Some-clause-agree
returns-in-Some-clause-agree g c =
    let one : IsOneStretch (objects_under c.args.self.now) = search rules in
    stretch_has_union g.S.Target.written g.S.Target.health g.P.Parts.bytes c.args.self.now one

pub returns-in-Ok-clause-count : goal.returns-in-Ok-clause-count
returns-in-Ok-clause-count g c = λ reads as_read.
    lists_counted (objects_of reads) _ c.merge.new.sink refl (c.in-Ok.ensures.objects reads as_read)

pub returns-in-Err-clause-tells : goal.returns-in-Err-clause-tells
returns-in-Err-clause-tells g c = λ ids facts.
    subst (TellsPass g.S.Target.written g.S.Target.health g.P.Parts.bytes g.S.Scratch.unreadable c.args.self.now ids facts)
    (sym c.count_stop.ensures)
    (tells_count g.S.Target.written g.S.Target.health g.P.Parts.bytes c.args.self.now g.S.Scratch.unreadable _ c.merge.new.sink refl
    c.in-Err.stop c.in-Err.ensures.objects c.in-Err.ensures.again c.in-Err.ensures.read ids facts)
