use Rattle.std.specs.Option.{option_map}
use Rattle.std.proofs.lemmas.Result.{IfOk-weaker}
use Rattle.hprof_heap.specs.HeapFacts.{facts_of, size_of}
use Rattle.hprof_threads.specs.ThreadNames.{IsNameOf, IsThreadName, units_value}
use Rattle.hprof_threads.proofs.NameAnswers.{name_of_object}
use Rattle.hprof_threads.proofs.thread_names.thread_name.Goals as goal

pub returns : goal.returns
returns c = λ are.
    let ids = size_of c.args.heap.now in
    let facts = facts_of c.args.heap.now in
    let object = c.args.object in
    let held = c.in_ok-name.ensures are in
    IfOk-weaker c.units_of_text.result (λ units. IsNameOf ids facts c.in_ok-name.name (option_map units_value units))
    (λ units. IsThreadName ids facts object (option_map units_value units))
    (λ units. name_of_object ids facts object held.0 held.1 c.in_ok-name.name held.2 (option_map units_value units))
    c.units_of_text.ensures
