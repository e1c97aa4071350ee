use Rattle.std.proofs.Common.{◌≡◌, ℕ, subst}
use Rattle.std.specs.Prelude.{IfOk}
use Rattle.std.specs.Option.{option_map}
use Rattle.std.specs.String.{string_bytes}
use Rattle.hprof_heap.specs.HeapFacts.{facts_of}
use Rattle.hprof_threads.proofs.ThreadAnswers.{object_once}
use Rattle.hprof_holders.specs.RootsText.{object_words}
use Rattle.hprof_holders.proofs.root_lines.object_words.Goals as goal

pub returns : goal.returns
returns c = λ found threads are are_threads.
    let serial = c.args.serial in
    let object = c.thread_object-object in
    subst (λ (n : ℕ). IfOk c.words_of_object.result (λ words. option_map string_bytes words ≡ object_words found n))
    (object_once (facts_of c.args.view.heap.now) c.holds_of_heap.ensures.agree serial object.result (threads.object serial)
    (object.ensures c.requires.threads) (are_threads.objects serial))
    (c.words_of_object.ensures found are)
