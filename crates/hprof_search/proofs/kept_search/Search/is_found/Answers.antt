use Rattle.std.proofs.Common.{◌≡◌, ◌∙◌, ℕ, Bool, Option, ap, subst, sym}
use Rattle.std.specs.Prelude.{◌↔◌, IsTrue, Some, is_some}
use Rattle.hprof_search.specs.WayBack.{found_in}
use Rattle.hprof_search.specs.Walks.{HasDistance}
use Rattle.hprof_search.proofs.Told.{tells_found}
use Rattle.hprof_search.proofs.kept_search.Search.is_found.Goals as goal

pub returns : goal.returns
returns g c = λ told is.
    let starts = g.W.WalksOf.starts told in
    let steps = g.W.WalksOf.steps told in
    let search = c.args.self.now in
    let same : is_some (found_in search c.args.node) ≡ c.is_some.result =
    sym (c.is_some.ensures ∙ ap (λ (n : Option ℕ). is_some n) c.found_number.ensures.number) in
    subst (λ (b : Bool). IsTrue b ↔ ((count : ℕ) × HasDistance starts steps c.args.node (Some count))) same
    (tells_found starts steps search is c.args.node)
