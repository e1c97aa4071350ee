use Rattle.std.proofs.Common.{◌≡◌, ap, ◌∙◌}
use Rattle.std.specs.Option.{option_map}
use Rattle.std.specs.String.{string_bytes}
use Rattle.hprof_heap.specs.HeapFacts.{facts_of, size_of}
use Rattle.hprof_naming.proofs.Namings.{of_text}
use Rattle.hprof_threads.specs.ThreadNames.{units_value}
use Rattle.hprof_describe.specs.Quoted.{behind_label}
use Rattle.hprof_describe.proofs.FoundOnce.{name_found}
use Rattle.hprof_describe.proofs.nodes.thread_behind.Goals as goal

pub returns : goal.returns
returns c = λ found are.
    let object = c.args.object in
    let name = option_map units_value c.in_ok-name.name in
    let same = name_found (size_of c.args.heap.now) (facts_of c.args.heap.now) c.holds_of_heap.ensures.agree found are object name
    (c.in_ok-name.ensures c.requires) in
    of_text (λ text. string_bytes text ≡ behind_label name) (λ text. string_bytes text ≡ behind_label (found.thread_name object))
    c.behind_label.result (λ text e. e ∙ ap behind_label same) c.behind_label.ensures
