use Rattle.std.proofs.Common.{◌≡◌, ℕ, ◌%◌, List, ◌++◌, ◌∙◌, ap}
use Rattle.std.proofs.lemmas.Str.{IsUtf8-from_ascii}
use Rattle.hprof_text.specs.Printed.{printed_unit}
use Rattle.hprof_describe.proofs.PrintedAscii.{IsAscii-printed_unit}
use Rattle.hprof_describe.proofs.values.char_text.Goals as goal

pub unwrap-unit-requires : goal.unwrap-unit-requires
unwrap-unit-requires c =
    let unit = c.args.bits % 65536 in
    let bytes : c.push_unit.new.text.items ≡ printed_unit unit =
    c.in_ok-push_unit.ensures ∙ ap (λ (l : List ℕ). l ++ printed_unit unit) c.new-unit.ensures.items in
    c.from_utf8.ensures.succeeds (IsUtf8-from_ascii c.push_unit.new.text.items (rw bytes (IsAscii-printed_unit unit)))
