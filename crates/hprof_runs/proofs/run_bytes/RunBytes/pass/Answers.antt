use Rattle.std.proofs.Common.{◌≤◌, length, refl, rules}
use Rattle.hprof_runs.proofs.Bringing.{part_passed, pass_brings}
use Rattle.hprof_runs.proofs.run_bytes.RunBytes.pass.Goals as goal

pub returns-clause-held : goal.returns-clause-held
returns-clause-held g c =
    let it = c.args.self.now in
    let within : it.end ≤ length it.block.items = search rules in
    part_passed it.block.items it.start it.end c.args.count it.order within c.requires

pub returns-clause-bytes : goal.returns-clause-bytes
returns-clause-bytes g c =
    let it = c.args.self.now in
    let within : it.end ≤ length it.block.items = search rules in
    pass_brings g.S.Target.written it _ c.args.count refl refl refl c.requires
    (part_passed it.block.items it.start it.end c.args.count it.order within c.requires)
