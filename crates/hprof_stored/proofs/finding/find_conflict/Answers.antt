use Rattle.std.proofs.Common.{rules, List}
use Rattle.hprof_objects.specs.PartsRead.{PartRead}
use Rattle.hprof_objects.specs.StoredObjects.{AreToldAgain, IsOneStretch}
use Rattle.hprof_objects.proofs.OneStretch.{stretch_union}
use Rattle.hprof_stored.proofs.Found.{least_found, none_found}
use Rattle.hprof_stored.proofs.finding.find_conflict.Goals as goal

pub returns-then-is_one_stretch-clause-none : goal.returns-then-is_one_stretch-clause-none
returns-then-is_one_stretch-clause-none g c = λ reads told.
    let one : IsOneStretch c.args.objects.now = search rules in
    stretch_union g.S.Target.written g.S.Target.health c.args.limits reads c.args.objects.now one told.holds

pub returns-clause-none : goal.returns-clause-none
returns-clause-none g c =
    none_found (λ (reads : List PartRead). AreToldAgain g.S.Target.written g.S.Target.health c.args.limits
    (g.P.Parts.bytes c.args.parts.now) reads c.args.objects.now) _ _ c.merge.result c.merge.ensures.objects

pub returns-clause-least : goal.returns-clause-least
returns-clause-least g c =
    least_found (λ (reads : List PartRead). AreToldAgain g.S.Target.written g.S.Target.health c.args.limits
    (g.P.Parts.bytes c.args.parts.now) reads c.args.objects.now) _ _ c.merge.result c.merge.ensures.objects
