use Rattle.std.proofs.Common.{◌∙◌, rules, of_calls}
use Rattle.std.proofs.lemmas.Fn.{always_returns_same}
use Rattle.hprof_edges.specs.declared.field_place.FieldPlace.{FieldPlace}
use Rattle.hprof_edges.proofs.PlacesAscend.{place_found}
use Rattle.hprof_holders.proofs.steps.has_place.Goals as goal

pub returns : goal.returns
returns c =
    c.is_ok.ensures.value
    ∙ place_found c.args.fields.now c.requires c.args.place c.binary_search_by_key.result c.binary_search_by_key.ensures.bound
    (c.binary_search_by_key.ensures.position (λ (field : FieldPlace). field.place)
    (always_returns_same _ _ _ (λ a r f k. search (rules, of_calls))))
