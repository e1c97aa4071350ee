use Rattle.std.proofs.Common.{◌≡◌, ◌++◌, Some, ◌∙◌, ap, codes, rules, w32, ℤ}
use Rattle.std.proofs.lemmas.Int.{to_z-of_z}
use Rattle.std.specs.String.{string_bytes}
use Rattle.hprof_naming.proofs.Namings.{of_text}
use Rattle.hprof_threads.specs.Frames.{frame_line, place_text}
use Rattle.hprof_threads.proofs.FrameAnswers.{line_of_parts}
use Rattle.hprof_threads.proofs.frame_lines.line_of.Goals as goal

pub returns : goal.returns
returns c = λ id naming is.
    let class = c.in_ok-class.class in
    let method = c.in_ok-method.method in
    let place = c.in_ok-place.place in
    of_text
    (λ text. string_bytes text
    ≡ string_bytes class ++ (codes "." ++ (string_bytes method ++ (codes "(" ++ (string_bytes place ++ codes ")")))))
    (λ text. string_bytes text ≡ frame_line naming id (Some c.args.frame) c.args.class) c.format.result
    (λ text e. e ∙ line_of_parts naming id c.args.frame c.args.class (string_bytes class) (string_bytes method) (string_bytes place)
    (c.in_ok-class.ensures naming is) (c.in_ok-method.ensures.named naming is)
    (c.in_ok-place.ensures naming is
    ∙ ap (λ (line : ℤ). place_text naming c.args.frame.source line) (to_z-of_z w32 c.args.frame.line (search rules))))
    c.format.ensures.ok
