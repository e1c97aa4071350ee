use Rattle.std.proofs.Common.{◌≡◌, [], None, Some, ◌∙◌, rules}
use Rattle.std.specs.String.{string_bytes}
use Rattle.hprof_heap.specs.HeapFacts.{facts_of, size_of}
use Rattle.hprof_naming.proofs.Namings.{of_text}
use Rattle.hprof_describe.specs.Nodes.{name_of_node}
use Rattle.hprof_describe.specs.Quoted.{behind_label}
use Rattle.hprof_describe.proofs.FoundOnce.{class_found}
use Rattle.hprof_describe.proofs.WordParts.{name_behind_object, no_name_behind}
use Rattle.hprof_describe.proofs.nodes.name_behind.Goals as goal

pub returns-in-Some : goal.returns-in-Some
returns-in-Some c = λ found are.
    let node = c.args.node in
    let same = class_found (size_of c.args.heap.now) (facts_of c.args.heap.now) c.holds_of_heap.ensures.agree found are node (Some _)
    c.in-Some.ensures in
    let empty : string_bytes c.new.result ≡ [] = search rules in
    empty ∙ no_name_behind _ (found.class node) (found.thread_name node) same

pub returns-in-None : goal.returns-in-None
returns-in-None c = λ found are.
    let node = c.args.node in
    let same = class_found (size_of c.args.heap.now) (facts_of c.args.heap.now) c.holds_of_heap.ensures.agree found are node None
    c.in-None.ensures in
    of_text (λ text. string_bytes text ≡ behind_label (found.thread_name node))
    (λ text. string_bytes text ≡ behind_label (name_of_node (found.class node) (found.thread_name node))) c.thread_behind.result
    (λ text e. e ∙ name_behind_object (found.class node) (found.thread_name node) same) (c.thread_behind.ensures found are)
