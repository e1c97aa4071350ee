use Rattle.std.proofs.Common.{◌≡◌, ◌++◌, ◌∙◌}
use Rattle.std.specs.Option.{option_map}
use Rattle.std.specs.String.{string_bytes}
use Rattle.hprof_naming.proofs.Namings.{of_text}
use Rattle.hprof_threads.specs.ThreadNames.{units_value}
use Rattle.hprof_describe.specs.Quoted.{behind_label}
use Rattle.hprof_describe.specs.References.{text_of_instance}
use Rattle.hprof_describe.proofs.WordParts.{instance_of_parts}
use Rattle.hprof_describe.proofs.references.instance_words.Goals as goal

pub returns : goal.returns
returns c = λ found are.
    let id = c.args.id in
    let class = c.args.class in
    let label = c.in_ok-label.label in
    let behind = c.in_ok-behind.behind in
    let is : string_bytes label ≡ found.naming.label class = c.in_ok-label.ensures found.naming are.is_naming in
    of_text (λ text. string_bytes text ≡ string_bytes label ++ string_bytes behind)
    (λ text. string_bytes text ≡ found.naming.label class ++ behind_label (text_of_instance found id class)) c.format.result
    (λ text e. e ∙ instance_of_parts found id class (string_bytes label) (string_bytes behind)
    (option_map units_value c.in_ok-units.units) is (c.in_ok-units.ensures found class are (c.deref.ensures ∙ is))
    c.in_ok-behind.ensures) c.format.ensures.ok
