use Rattle.hprof_by_label.proofs.report.labelled_tree.Goals as goal

pub returns-in-Ok-labels_over-clause-made : goal.returns-in-Ok-labels_over-clause-made
returns-in-Ok-labels_over-clause-made g c = (
  c.in-Ok-take_retained.ensures.retained.0,
  λ all make.
      let labels = c.in-Ok-labels_over.ensures.labels.1 all make in
      (c.in-Ok-take_retained.ensures.retained.1 all make, labels.0, labels.1),
)
