use Rattle.std.proofs.Common.{◌≡◌, ◌∷◌, rules}
use Rattle.hprof_runs.proofs.Lengths.{places_behind}
use Rattle.hprof_runs.proofs.firsts.FirstsRowCursor.advance.Goals as goal

pub invariant_of-self : goal.invariant_of-self
invariant_of-self c =
    let it = c.args.self.now in
    let rest = c.in-Some.rest.now in
    let above = c.places_above-above.result.now in
    let behind = c.places_above-above.ensures.behind in
    let is : it.places.now ≡ c.in-Some.place.now ∷ rest = search rules in
    record {
      lengths = c.pass.ensures it.places.now it.lengths (places_behind it.places.now rest behind.0 above c.in-Some.place.now is behind.1);
    }
