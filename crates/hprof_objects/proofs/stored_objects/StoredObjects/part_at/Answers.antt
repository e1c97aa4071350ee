use Rattle.std.proofs.Common.{◌≡◌, ◌+◌, ◌-◌, ◌∙◌, ap, arith}
use Rattle.hprof_runs.specs.Runs.{run_count}
use Rattle.hprof_objects.specs.ObjectCursors.{part_of}
use Rattle.hprof_objects.proofs.PartsUnder.{part_found, part_missed}
use Rattle.hprof_objects.proofs.stored_objects.StoredObjects.part_at.Goals as goal

pub returns-in-Some : goal.returns-in-Some
returns-in-Some g c =
    let list = c.args.self.now.stretches.items in
    let index : c.saturating_sub.result ≡ c.args.place - (run_count c.args.self.now.runs + 2) =
    omega (arith, c.saturating_sub.ensures, c.saturating_add-before.ensures, c.count.ensures, c.ranges.place.fits) in
    part_found list c.deref.result.now c.saturating_sub.result c.in-Some.stretch.now c.deref.ensures.value c.in-Some.ensures.lookup.0
    c.in-Some.ensures.lookup.1 ∙ ap (part_of list) index

pub returns-in-None : goal.returns-in-None
returns-in-None g c =
    let list = c.args.self.now.stretches.items in
    let index : c.saturating_sub.result ≡ c.args.place - (run_count c.args.self.now.runs + 2) =
    omega (arith, c.saturating_sub.ensures, c.saturating_add-before.ensures, c.count.ensures, c.ranges.place.fits) in
    part_missed list c.deref.result.now c.saturating_sub.result c.deref.ensures.value c.in-None.ensures.lookup.0 ∙ ap (part_of list) index
