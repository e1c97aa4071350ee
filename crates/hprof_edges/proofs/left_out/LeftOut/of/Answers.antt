use Rattle.std.proofs.Common.{List, Contains, ◌≡◌, subst}
use Rattle.std.specs.Prelude.{◌↔◌}
use Rattle.hprof_edges.specs.declared.field_place.FieldPlace.{FieldPlace}
use Rattle.hprof_edges.proofs.left_out.LeftOut.of.Goals as goal

pub returns-clause-exact : goal.returns-clause-exact
returns-clause-exact c = λ field.
    subst (λ (l : List FieldPlace). Contains c.fields_of.result.now field ↔ (Contains l field × (field.class ≡ c.args.class)))
    c.deref-2.ensures.value (c.fields_of.ensures.exact field)
