use Rattle.hprof_layouts.specs.declared.known.KnownLayouts.{KnownLayouts}
use Rattle.hprof_layouts.proofs.KnownPlans.{knows_nothing}
use Rattle.hprof_layouts.proofs.known.KnownLayouts.new.Goals as goal

pub returns : goal.returns
returns c = λ ids.
    let known : KnownLayouts = record { alloc = c.args.alloc; plans = c.new.result; waiting = c.new-2.result } in
    knows_nothing ids known c.new.ensures.none
    (λ superclass. c.new-2.ensures superclass)
