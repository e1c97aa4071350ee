use Rattle.std.proofs.Common.{refl, sym, ◌∙◌, arith, rules}
use Rattle.hprof_stream.specs.Progress.{place_of}
use Rattle.hprof_stream.proofs.Holding.{kept_behind, on_ok, not_some, not_empty}
use Rattle.hprof_stream.proofs.held.keep.Goals as goal

pub returns-clause-ok : goal.returns-clause-ok
returns-clause-ok c =
    on_ok c.hold.result (λ held still keeps short cut.
    kept_behind c.args.progress.now.limits.max_item (place_of c.args.progress.now) still c.args.left.now c.args.rest.now _ keeps short
    cut (not_empty c.args.left.now c.if-is_empty.ensures) (λ i. omega (arith, c.type_inv.left i))
    (sym c.passing_at.ensures.passing ∙ not_some c.passing_at.result c.in_default.not-Some) held refl refl) c.hold.ensures.ok

pub returns-clause-err : goal.returns-clause-err
returns-clause-err c = search rules
