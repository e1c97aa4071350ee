use Rattle.hprof_keeps.proofs.kept_over.otherwise_over.Goals as goal

pub returns-in-Ok-true-is_reached_over-clause-kept : goal.returns-in-Ok-true-is_reached_over-clause-kept
returns-in-Ok-true-is_reached_over-clause-kept g c = (
  c.in-Ok-true-is_reached_over.ensures.told.0,
  λ all make retained. (
    (c.requires.some, (c.in-Ok-true.ensures.1 all make).0 c.in-Ok-true.field-0-test),
    (
      (c.in-Ok-true-is_reached_over.ensures.told.1 all make).0 c.in-Ok-true-is_reached_over.field-0-test,
      c.requires.not_held all make,
    ),
  ),
)
