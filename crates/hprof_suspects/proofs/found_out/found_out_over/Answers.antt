use Rattle.hprof_suspects.proofs.found_out.found_out_over.Goals as goal

pub returns-in-Ok-clause-found : goal.returns-in-Ok-clause-found
returns-in-Ok-clause-found g c = (
  c.in_ok-retained.ensures.retained.0,
  λ all make. record {
    tree = c.in_ok-retained.ensures.retained.1 all make;
    sum = c.in_ok-weakly.ensures.sum.1 all make;
    are_told = c.in-Ok.ensures.told.1 all make;
  },
)
