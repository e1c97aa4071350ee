use Rattle.std.proofs.Common.{◌≡◌, ◌∙◌, ℕ, Some, None, map, reverse, sym, ap, subst}
use Rattle.std.specs.Option.{option_map}
use Rattle.hprof_search.specs.Search.{node_at}
use Rattle.hprof_search.specs.WayBack.{way_in}
use Rattle.hprof_search.specs.Walks.{IsPath}
use Rattle.hprof_search.proofs.Told.{path_in, tells_path}
use Rattle.hprof_search.proofs.kept_search.Search.path.Goals as goal

pub returns-in_default : goal.returns-in_default
unfolding path_in
returns-in_default g c = λ told is.
    let search = c.args.self.now in
    let same : None ≡ path_in search c.args.node =
    ap (option_map (λ (n : ℕ). reverse (map (node_at search) (way_in search n)))) (sym c.in_default.is ∙ c.found_number.ensures.number) in
    subst (IsPath (g.W.WalksOf.starts told) (g.W.WalksOf.steps told) c.args.node) (sym same)
    (tells_path (g.W.WalksOf.starts told) (g.W.WalksOf.steps told) search is c.args.node)

pub returns : goal.returns
unfolding path_in
returns g c = λ told is.
    let search = c.args.self.now in
    let same : Some c.reverse.new.self.items ≡ path_in search c.args.node =
    ap Some (c.reverse.ensures.items ∙ ap (reverse {A = ℕ}) c.in_ok-nodes.ensures)
    ∙ ap (option_map (λ (n : ℕ). reverse (map (node_at search) (way_in search n)))) (sym c.in-Some.is ∙ c.found_number.ensures.number) in
    subst (IsPath (g.W.WalksOf.starts told) (g.W.WalksOf.steps told) c.args.node) (sym same)
    (tells_path (g.W.WalksOf.starts told) (g.W.WalksOf.steps told) search is c.args.node)
