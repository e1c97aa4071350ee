use Rattle.std.proofs.Common.{◌∙◌, rules}
use Rattle.hprof_objects.specs.StoredObjects.{IsOneStretch}
use Rattle.hprof_objects.proofs.OneStretch.{first_counted, none_counted, stretch_count}
use Rattle.hprof_objects.proofs.stored_objects.StoredObjects.count_in_one_stretch.Goals as goal

pub returns-in-Some-clause-count : goal.returns-in-Some-clause-count
returns-in-Some-clause-count g c = λ limits reads rows holds union.
    let one : IsOneStretch c.args.self.now = search rules in
    first_counted c.args.self.now.stretches.items c.deref.result.now c.in-Some.stretch.now c.deref.ensures.value c.in-Some.ensures.value
    ∙ stretch_count g.S.Target.written g.S.Target.health limits reads c.args.self.now one holds rows union

pub returns-in-None-clause-count : goal.returns-in-None-clause-count
returns-in-None-clause-count g c = λ limits reads rows holds union.
    let one : IsOneStretch c.args.self.now = search rules in
    none_counted c.args.self.now.stretches.items c.deref.result.now c.deref.ensures.value c.in-None.ensures.value
    ∙ stretch_count g.S.Target.written g.S.Target.health limits reads c.args.self.now one holds rows union
