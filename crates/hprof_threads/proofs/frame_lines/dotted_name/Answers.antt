use Rattle.std.proofs.Common.{◌≡◌, ◌∙◌, ap, rules}
use Rattle.std.specs.String.{string_bytes}
use Rattle.std.proofs.lemmas.Str.{IsUtf8-from_ascii}
use Rattle.hprof_heap.specs.HeapFacts.{facts_of}
use Rattle.hprof_threads.specs.Frames.{dotted}
use Rattle.hprof_threads.proofs.Dotted.{IsAscii-dotted, IsAscii-name_text}
use Rattle.hprof_threads.proofs.frame_lines.dotted_name.Goals as goal

pub unwrap-requires : goal.unwrap-requires
unwrap-requires c =
    let bytes : c.in_ok-bytes.bytes.items ≡ dotted (string_bytes c.in_ok-text.text) =
    c.in_ok-bytes.ensures ∙ ap dotted c.as_bytes.ensures.value in
    c.from_utf8.ensures.succeeds
    (IsUtf8-from_ascii c.in_ok-bytes.bytes.items (rw bytes
    (IsAscii-dotted (string_bytes c.in_ok-text.text)
    (IsAscii-name_text (facts_of c.args.heap.now) c.args.name (string_bytes c.in_ok-text.text) c.ranges.name.fits
    c.in_ok-text.ensures.form))))

pub returns : goal.returns
returns c = λ naming is.
    let same : string_bytes c.unwrap.result ≡ c.in_ok-bytes.bytes.items = search rules in
    same ∙ c.in_ok-bytes.ensures ∙ ap dotted (c.as_bytes.ensures.value ∙ c.in_ok-text.ensures.named naming is)
