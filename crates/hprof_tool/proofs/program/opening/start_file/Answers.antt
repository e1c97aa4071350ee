use Rattle.hprof_tool.proofs.Files.{creating_starts, if_the_error, opening_starts}
use Rattle.hprof_tool.proofs.program.opening.start_file.Goals as goal

pub returns-in-Err-clause-kind : goal.returns-in-Err-clause-kind
returns-in-Err-clause-kind g c = opening_starts (g.F.Folder.answered c.args.files.now) c.args.names.now c.args.out.name.now c.in-Err.why
    c.in-Err.ensures.kind c.leave_out.ensures

pub create_out-requires : goal.create_out-requires
create_out-requires g c = c.requires c.in-Ok.parts.items c.in-Ok.ensures.opened

pub returns-in_err-buffered-clause-kind : goal.returns-in_err-buffered-clause-kind
returns-in_err-buffered-clause-kind g c = if_the_error _ c.from_residual.result c.in_err-buffered.field-0.0
    (creating_starts (g.F.Folder.answered c.args.files.now) c.args.names.now c.args.out.name.now _ c.in_err-buffered.ensures.fails)
    c.from_residual.ensures.1
