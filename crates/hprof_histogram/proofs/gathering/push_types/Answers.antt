use Rattle.std.proofs.Common.{ap, get_or}
use Rattle.hprof_values.specs.declared.basic.Basic.TheVariants.{Array}
use Rattle.hprof_histogram.specs.CountedKinds.{element_types, nothing}
use Rattle.hprof_histogram.proofs.Gathered.{types_more}
use Rattle.hprof_histogram.proofs.gathering.push_types.Goals as goal

pub loop-elem-preserved : goal.loop-elem-preserved
loop-elem-preserved c =
    let types = c.args.types.now in
    types_more types element_types c.loop-elem.elem-index Array c.loop-elem.rows.items c.push_row.new.rows.items _
    (get_or types c.code.result nothing) c.loop-elem-test.true (ap (λ code. get_or types code nothing) c.code.ensures)
    c.in_ok-push_row.ensures c.loop-elem.invariant
