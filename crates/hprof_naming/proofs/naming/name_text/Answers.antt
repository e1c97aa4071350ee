use Rattle.std.proofs.Common.{◌≡◌, inl}
use Rattle.std.specs.String.{string_bytes}
use Rattle.hprof_text.specs.Printed.{IsPrinted}
use Rattle.hprof_heap.specs.HeapFacts.{facts_of}
use Rattle.hprof_naming.proofs.Namings.{of_text, one_name_text}
use Rattle.hprof_naming.proofs.naming.name_text.Goals as goal

pub returns-in-Some-clause-named : goal.returns-in-Some-clause-named
returns-in-Some-clause-named c = λ naming is.
    of_text (λ text. IsPrinted c.in-Some.bytes.now (string_bytes text)) (λ text. string_bytes text ≡ naming.name_text c.args.name)
    c.printed.result
    (λ text form. one_name_text (facts_of c.args.heap.now) c.holds_of_heap.ensures.agree c.args.name (string_bytes text)
    (naming.name_text c.args.name) (inl (c.in-Some.bytes.now, c.in-Some.ensures.found, form)) (is.names c.args.name))
    c.printed.ensures.form
