use Rattle.std.proofs.Common.{◌^◌, ◌<◌, ◌++◌, List, length, sym, ap, ◌∙◌, arith}
use Rattle.hprof_layouts.specs.declared.reference.Reference.{Reference}
use Rattle.hprof_layouts.specs.OwnFields.{references_in}
use Rattle.hprof_layouts.specs.References.{wanted_of}
use Rattle.hprof_layouts.proofs.Laid.{differs_laid, laid, unplanned_known, unplanned_laid}
use Rattle.hprof_layouts.proofs.known.KnownLayouts.set_references.Goals as goal

pub returns-in_default-clause-wanted : goal.returns-in_default-clause-wanted
returns-in_default-clause-wanted c = λ facts knows.
    rw c.clear.ensures.items (unplanned_laid c.args.ids facts c.args.self.now knows c.args.class c.args.bytes.now c.args.wanted
    (sym c.in_default.ensures))

pub returns-in_default-clause-known : goal.returns-in_default-clause-known
returns-in_default-clause-known c = λ sizes facts knows.
    unplanned_known sizes facts c.args.self.now knows c.args.class c.args.bytes.now c.args.wanted (sym c.in_default.ensures)

pub returns-in_ok-lay_plan-clause-wanted : goal.returns-in_ok-lay_plan-clause-wanted
returns-in_ok-lay_plan-clause-wanted c = λ facts knows.
    let small : length c.args.bytes.now < 2 ^ 64 = omega arith in
    laid c.args.ids facts c.args.self.now knows c.args.class c.args.bytes.now c.args.wanted c.in-Some.plan.now (sym c.in-Some.ensures)
    c.lay_plan.new.references.items small c.if-plan-bytes.true
    (λ slots is fills. c.in_ok-lay_plan.ensures facts c.args.class slots knows is fills
    ∙ ap (λ (l : List Reference). l ++ wanted_of c.args.wanted (references_in c.args.ids 0 slots c.args.bytes.now)) c.clear.ensures.items)

pub returns-else-plan-bytes-clause-wanted : goal.returns-else-plan-bytes-clause-wanted
returns-else-plan-bytes-clause-wanted c = λ facts knows.
    let small : length c.args.bytes.now < 2 ^ 64 = omega arith in
    rw c.clear.ensures.items (differs_laid c.args.ids facts c.args.self.now knows c.args.class c.args.bytes.now c.args.wanted
    c.in-Some.plan.now (sym c.in-Some.ensures) small c.if-plan-bytes.false)
