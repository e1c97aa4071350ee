use Rattle.std.proofs.Common.{◌≡◌, ◌++◌, List, [], ◌∷◌, ap, sym, ◌∙◌, append_assoc, rules}
use Rattle.std.proofs.lemmas.Bool.{cond-false, le-ltb}
use Rattle.hprof_merge.specs.Late.{in_order_above}
use Rattle.hprof_runs.specs.Places.{row_at, rows_lying}
use Rattle.hprof_runs.specs.declared.place.Place.{Place}
use Rattle.hprof_runs.proofs.firsts.places_above.Goals as goal

pub loop-place-preserved : goal.loop-place-preserved
loop-place-preserved c =
    let rest = c.loop-place.rest.now in
    let place = c.in-Some.place.now in
    let behind = c.in-Some.behind.now in
    let was = c.loop-place.invariant.behind in
    let split : rest ≡ place ∷ behind = search rules in
    let low = le-ltb c.args.key place.key c.if-place-key.false in
    record {
      above = λ bytes.
          let rows = rows_lying bytes behind in
          let skipped : in_order_above c.args.key (rows_lying bytes rest) ≡ in_order_above c.args.key rows =
          ap (λ (l : List Place). in_order_above c.args.key (rows_lying bytes l)) split
          ∙ cond-false _ (row_at bytes place ∷ in_order_above place.key rows) (in_order_above c.args.key rows) low in
          sym skipped ∙ c.loop-place.invariant.above bytes;
      behind = (was.0 ++ place ∷ [], was.1 ∙ ap (λ (l : List Place). was.0 ++ l) split ∙ sym (append_assoc was.0 (place ∷ []) behind));
    }
