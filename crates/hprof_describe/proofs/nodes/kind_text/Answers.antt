use Rattle.std.proofs.Common.{◌≡◌, ℕ, List, subst}
use Rattle.std.specs.Prelude.{IfOk}
use Rattle.std.specs.String.{string_bytes}
use Rattle.hprof_heap.specs.HeapFacts.{facts_of, size_of}
use Rattle.hprof_describe.proofs.FoundOnce.{kind_found}
use Rattle.hprof_describe.proofs.nodes.kind_text.Goals as goal

pub returns : goal.returns
returns c = λ found are.
    subst (λ (words : List ℕ). IfOk c.kind_of.result (λ text. string_bytes text ≡ words))
    (kind_found (size_of c.args.heap.now) (facts_of c.args.heap.now) c.holds_of_heap.ensures.agree found are c.args.node
    c.find_class-class.result c.find_object-object.result c.find_class-class.ensures c.find_object-object.ensures)
    (c.kind_of.ensures found.naming are.is_naming)
