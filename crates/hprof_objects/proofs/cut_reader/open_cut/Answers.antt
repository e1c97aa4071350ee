use Rattle.hprof_runs.specs.Runs.{scratch_of}
use Rattle.hprof_objects.proofs.CutsOpened.{part_comes, part_refuses}
use Rattle.hprof_objects.proofs.cut_reader.open_cut.Goals as goal

pub returns-in-Ok-clause-comes : goal.returns-in-Ok-clause-comes
returns-in-Ok-clause-comes g c =
    let reader = c.args.reader.now in
    part_comes g.S.Target.written (scratch_of reader.runs.now) reader.limits (g.P.Parts.bytes reader.parts.now) c.args.cut.now
    c.in-InPart.cut c.in-InPart.is g.R.Source.left g.R.Source.health g.R.Source.pulls c.in-Ok.cursor c.in-Ok.ensures.rows

pub returns-in-Err-clause-tells : goal.returns-in-Err-clause-tells
returns-in-Err-clause-tells g c =
    let reader = c.args.reader.now in
    part_refuses g.S.Target.written (scratch_of reader.runs.now) reader.limits (g.P.Parts.bytes reader.parts.now) c.args.cut.now
    c.in-InPart.cut c.in-InPart.is g.row.F.Denot g.S.Scratch.unreadable c.in-Err.fault c.part_stop.result c.part_stop.ensures
    c.in-Err.ensures.fault
