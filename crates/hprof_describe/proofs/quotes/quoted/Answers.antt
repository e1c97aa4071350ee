use Rattle.std.proofs.Common.{◌≡◌, List, ℕ, ◌++◌, take, ◌∙◌, ap, codes, rules}
use Rattle.std.specs.String.{string_bytes}
use Rattle.std.proofs.lemmas.Str.{IsUtf8-from_ascii}
use Rattle.hprof_naming.proofs.Namings.{of_text}
use Rattle.hprof_threads.specs.ThreadNames.{units_value}
use Rattle.hprof_lines.specs.Printed.{printed_units}
use Rattle.hprof_describe.specs.Quoted.{quoted}
use Rattle.hprof_describe.proofs.PrintedAscii.{IsAscii-printed_units}
use Rattle.hprof_describe.proofs.QuotedParts.{quoted_of_parts}
use Rattle.hprof_describe.proofs.quotes.quoted.Goals as goal

pub unwrap-first-requires : goal.unwrap-first-requires
unwrap-first-requires c =
    let first = take 100 (units_value c.args.units) in
    let bytes : c.push_first.new.text.items ≡ printed_units first =
    c.in_ok-push_first.ensures ∙ ap (λ (l : List ℕ). l ++ printed_units first) c.new-first.ensures.items in
    c.from_utf8.ensures.succeeds
    (IsUtf8-from_ascii c.push_first.new.text.items (rw bytes (IsAscii-printed_units first)))

pub returns : goal.returns
returns c =
    let units = units_value c.args.units in
    let first = c.unwrap-first.result in
    let more = c.in_ok-more.more in
    let bytes : c.push_first.new.text.items ≡ printed_units (take 100 units) =
    c.in_ok-push_first.ensures ∙ ap (λ (l : List ℕ). l ++ printed_units (take 100 units)) c.new-first.ensures.items in
    let same : string_bytes first ≡ c.push_first.new.text.items = search rules in
    of_text (λ text. string_bytes text ≡ codes "\"" ++ (string_bytes first ++ (codes "\"" ++ string_bytes more)))
    (λ text. string_bytes text ≡ quoted units) c.format.result
    (λ text e. e ∙ quoted_of_parts units (string_bytes first) (string_bytes more) c.count.result (same ∙ bytes) c.count.ensures
    c.in_ok-more.ensures) c.format.ensures.ok
