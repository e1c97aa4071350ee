use Rattle.std.proofs.Common.{ℕ, Contains, sym, ap, subst, ◌∙◌}
use Rattle.std.proofs.lemmas.List.Elements.{Contains-get_or}
use Rattle.hprof_layouts.specs.declared.plan.Plan.{Plan}
use Rattle.hprof_layouts.specs.Known.{plan_of}
use Rattle.hprof_layouts.proofs.known.KnownLayouts.plan_at.Goals as goal

pub returns-in-Some : goal.returns-in-Some
returns-in-Some c =
    let rows = c.rows.result.now in
    let row : ℕ × Plan = c.in-Some.row.now in
    let lookup = c.in-Some.ensures.lookup in
    let there : Contains rows row =
    subst (Contains rows) (sym lookup.1) (Contains-get_or rows c.args.at row lookup.3.0) in
    sym ((c.rows.ensures.found row.0 row.1).1 there) ∙ ap (plan_of c.args.self.now) c.if-row-class.true
