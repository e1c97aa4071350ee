use Rattle.std.proofs.Common.{◌≡◌, ◌++◌, ℕ, List, Bor, rules, sym, ap, ◌∙◌}
use Rattle.std.specs.Int.{w64, to_be_bytes}
use Rattle.std.proofs.lemmas.Str.{IsUtf8-from_ascii}
use Rattle.std.proofs.lemmas.Result.{MatchResult-at_ok}
use Rattle.hex.specs.Hex.{encode_lower}
use Rattle.hprof_text.specs.JavaFloats.{fraction_text, without_last_zeros, one_at_least}
use Rattle.hprof_text.proofs.IdTexts.{reads_as_text}
use Rattle.hprof_text.proofs.LastZeros.{one_at_least-none, one_at_least-some}
use Rattle.hprof_text.proofs.Prints.{IsAscii-hex}
use Rattle.hprof_text.proofs.java_floats.push_fraction.Goals as goal
use Rattle.hprof_text.proofs.java_floats.push_fraction.Goals.{After-from_utf8, After-push_str, then-is_empty, else-is_empty}

written : (c : After-from_utf8) → c.encode_to_slice.new.output ≡ encode_lower (to_be_bytes w64 c.args.fraction)
written c = search rules

pub unwrap-requires : goal.unwrap-requires
unwrap-requires c =
    let bytes = to_be_bytes w64 c.args.fraction in
    let utf8 = IsUtf8-from_ascii (encode_lower bytes) (IsAscii-hex bytes) in
    reads_as_text c.from_utf8.result _ _ _ (rw (written c) utf8) c.from_utf8.ensures.cases

abbrev the_text : Bor (List ℕ) → List ℕ
the_text reference = reference.now

shown : (c : After-push_str) → c.if-is_empty.push_str.now ≡ one_at_least c.without_last_zeros-kept.result.now
shown c =
    let kept = c.without_last_zeros-kept.result.now in
    let text = c.if-is_empty.push_str.now in
    elim c.if-is_empty.branch [
      | then-is_empty w ↦ one_at_least-none kept text (sym c.is_empty.ensures ∙ w.if-is_empty.true) (ap the_text w.push_str-is)
      | else-is_empty w ↦ one_at_least-some kept text (sym c.is_empty.ensures ∙ w.if-is_empty.false) (ap the_text w.push_str-is)
    ]

pub returns-clause-text : goal.returns-clause-text
unfolding fraction_text
returns-clause-text c =
    let text = (MatchResult-at_ok _ _ c.unwrap.result c.unwrap.ensures c.from_utf8.ensures.cases).0 in
    let digits = text ∙ written (goal.at.returns-clause-text c).After-from_utf8 in
    let kept = c.without_last_zeros-kept.ensures.text ∙ ap without_last_zeros digits in
    c.push_str.ensures.bytes ∙ ap (λ l. c.args.text.now.bytes ++ l) (shown c ∙ ap one_at_least kept)
