use Rattle.std.proofs.Common.{◌≡◌, List, ℕ, Option, ap, subst, ◌∙◌}
use Rattle.std.specs.Prelude.{IfOk}
use Rattle.std.specs.Option.{option_map}
use Rattle.std.specs.String.{string_bytes}
use Rattle.hprof_values.specs.Lists.{identifiers_of}
use Rattle.hprof_heap.specs.HeapFacts.{facts_of}
use Rattle.hprof_threads.proofs.ThreadAnswers.{stack_once}
use Rattle.hprof_holders.specs.RootsText.{at_frame}
use Rattle.hprof_holders.specs.StackFrames.{frame_at}
use Rattle.hprof_holders.proofs.RootParts.{frame_told}
use Rattle.hprof_holders.proofs.root_lines.frame_words.Goals as goal

pub returns : goal.returns
returns c = λ found threads are are_threads.
    let serial = c.args.serial in
    let number = c.args.number in
    let frames = c.thread_stack-frames in
    let stack = option_map identifiers_of frames.result in
    let same = c.frame_at.ensures ∙ ap (λ (s : Option (List ℕ)). frame_at s number)
    (stack_once (facts_of c.args.view.heap.now) c.holds_of_heap.ensures.agree serial stack (threads.stack serial)
    (frames.ensures c.requires.threads) (are_threads.stacks serial)) in
    subst (λ (told : Option (List ℕ)). IfOk c.words_of_frame.result (λ words. option_map string_bytes words ≡ told))
    (ap (at_frame threads) same ∙ frame_told threads serial number)
    (c.words_of_frame.ensures found threads are are_threads)
