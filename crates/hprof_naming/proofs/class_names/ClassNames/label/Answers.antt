use Rattle.std.proofs.Common.{◌≡◌}
use Rattle.std.specs.String.{string_bytes}
use Rattle.hprof_heap.specs.HeapFacts.{facts_of}
use Rattle.hprof_naming.specs.Naming.{IsLabelOf}
use Rattle.hprof_naming.proofs.Namings.{of_text, one_label}
use Rattle.hprof_naming.proofs.class_names.ClassNames.label.Goals as goal

pub returns : goal.returns
returns c = λ naming is.
    of_text (λ text. IsLabelOf (facts_of c.args.heap.now) c.name_of.result (string_bytes text))
    (λ text. string_bytes text ≡ naming.label c.args.class) c.label_of.result
    (λ text form. one_label (facts_of c.args.heap.now) c.holds_of_heap.ensures.agree c.args.class (string_bytes text)
    (naming.label c.args.class) (c.name_of.result, c.name_of.ensures (facts_of c.args.heap.now) c.requires, form) (is.labels c.args.class))
    c.label_of.ensures
