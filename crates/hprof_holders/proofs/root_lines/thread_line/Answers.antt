use Rattle.std.proofs.Common.{◌≡◌, ℕ, List, [], Option, Some, None, sym, ap, rules, ◌∙◌}
use Rattle.std.specs.Option.{option_map}
use Rattle.std.specs.String.{string_bytes}
use Rattle.hprof_threads.specs.Serials.{thread_of_root}
use Rattle.hprof_naming.proofs.Namings.{of_text}
use Rattle.hprof_holders.specs.RootsText.{frame_words_of, object_words, thread_line, words_line}
use Rattle.hprof_holders.proofs.root_lines.thread_line.Goals as goal

pub returns-in_default : goal.returns-in_default
returns-in_default c = λ found threads are are_threads.
    let none : None ≡ thread_of_root c.args.root = search rules in
    let empty : string_bytes c.new.result ≡ [] = search rules in
    empty ∙ ap (thread_line found threads c.args.root) none

pub returns : goal.returns
returns c = λ found threads are are_threads.
    let root = c.args.root in
    let serial = c.in-Some.serial in
    let some : Some serial ≡ thread_of_root root = sym c.in-Some.is ∙ c.thread_of_root.ensures in
    let object = option_map string_bytes c.in_ok-object.object in
    let frame = option_map string_bytes c.in_ok-frame.frame in
    let object_is = c.in_ok-object.ensures found threads are are_threads in
    let frame_is = c.in_ok-frame.ensures found threads are are_threads ∙ ap (frame_words_of threads serial) c.frame_of_root.ensures in
    of_text (λ line. string_bytes line ≡ words_line object frame)
    (λ line. string_bytes line ≡ thread_line found threads root (thread_of_root root)) c.words_line.result
    (λ line e. e ∙ ap (λ (o : Option (List ℕ)). words_line o frame) object_is
    ∙ ap (words_line (object_words found (threads.object serial))) frame_is ∙ ap (thread_line found threads root) some)
    c.words_line.ensures
