use Rattle.std.specs.Prelude.{IfOk}
use Rattle.std.proofs.Common.{◌≡◌, ◌++◌, codes, ◌∙◌, arith, rules}
use Rattle.std.proofs.lemmas.Grind.{common_steps}
use Rattle.std.specs.String.{string_bytes}
use Rattle.hprof_text.specs.Identifier.{id_digits}
use Rattle.hprof_naming.proofs.Namings.{of_text}
use Rattle.hprof_describe.specs.Nodes.{node_text}
use Rattle.hprof_describe.proofs.WordParts.{node_of_parts}
use Rattle.hprof_describe.proofs.nodes.node_text.Goals as goal

pub returns : goal.returns
returns c =
    let made : IfOk c.format.result (λ text. string_bytes text
    ≡ id_digits c.args.node ++ (codes " " ++ (string_bytes c.in_ok-kind.kind ++ string_bytes c.in_ok-name.name))) =
    first_of (search rules, grind (arith, common_steps)) in
    λ found are.
    let node = c.args.node in
    let kind = string_bytes c.in_ok-kind.kind in
    let name = string_bytes c.in_ok-name.name in
    of_text (λ text. string_bytes text ≡ id_digits node ++ (codes " " ++ (kind ++ name)))
    (λ text. string_bytes text ≡ node_text found node) c.format.result
    (λ text e. e ∙ node_of_parts found node kind name (c.in_ok-kind.ensures found are) (c.in_ok-name.ensures found are)) made
