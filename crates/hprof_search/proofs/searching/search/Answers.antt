use Rattle.hprof_search.proofs.searching.search.Goals as goal

pub returns : goal.returns
returns g c = rw (← c.new-2.ensures, ← c.in_ok-numbered.ensures) c.search_numbered.ensures
