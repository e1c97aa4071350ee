use Rattle.std.proofs.Common.{take}
use Rattle.hprof_writing.proofs.SubFitting.{sub_front_fits}
use Rattle.hprof_writing.proofs.object_fitting.sub_fits.Goals as goal

pub returns : goal.returns
returns c =
    let front = c.in-Some.front in
    let both = sub_front_fits c.args.ids c.args.fact.now front.tag (take front.count front.fields) front.more.now
    c.in-Some.ensures.some in (
      λ whole. both.0 (c.front_fits.ensures.0 whole),
      λ fits. c.front_fits.ensures.1 (both.1 fits),
    )
