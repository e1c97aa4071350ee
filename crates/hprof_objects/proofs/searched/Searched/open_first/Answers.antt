use Rattle.std.proofs.Common.{rules, ◌≡◌, true}
use Rattle.std.specs.Option.{is_some}
use Rattle.hprof_runs.specs.Runs.{scratch_of}
use Rattle.hprof_objects.proofs.LookedUp.{open_at, opened_at}
use Rattle.hprof_objects.proofs.searched.Searched.open_first.Goals as goal

pub returns-then-is_some-clause-open : goal.returns-then-is_some-clause-open
returns-then-is_some-clause-open g c =
    let reader = c.args.reader.now in
    let ready = c.requires.ready in
    let some : is_some c.args.self.now.cursor ≡ true = search rules in
    open_at g.S.Target.written g.R.Source.left g.R.Source.health g.R.Source.pulls (scratch_of reader.runs.now) reader.limits
    (g.P.Parts.bytes reader.parts.now) c.args.id c.args.self.now.cursor c.args.self.now.cuts.now c.args.cut.now c.requires.first.0
    c.requires.first.1 some ready.can ready.stands

pub returns-in-Ok-clause-open : goal.returns-in-Ok-clause-open
returns-in-Ok-clause-open g c =
    let reader = c.args.reader.now in
    opened_at g.S.Target.written g.R.Source.left g.R.Source.health g.R.Source.pulls (scratch_of reader.runs.now) reader.limits
    (g.P.Parts.bytes reader.parts.now) c.args.id c.args.cut.now c.in-Ok.cursor c.in-Ok.ensures.can c.in-Ok.ensures.over
    c.in-Ok.ensures.comes
