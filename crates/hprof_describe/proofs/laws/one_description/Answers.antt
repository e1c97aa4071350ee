use Rattle.std.proofs.Common.{ap}
use Rattle.hprof_describe.specs.Findings.{Findings}
use Rattle.hprof_describe.specs.Nodes.{kind_text, node_text}
use Rattle.hprof_describe.specs.References.{reference_text}
use Rattle.hprof_describe.specs.Values.{value_text}
use Rattle.hprof_describe.proofs.OneFinding.{one_findings}
use Rattle.hprof_describe.proofs.laws.one_description.Goals as goal

pub returns-clause-kind : goal.returns-clause-kind
returns-clause-kind c = λ ids facts one other agree is too node.
    ap (λ (found : Findings). kind_text found node) (one_findings ids facts agree one other is too)

pub returns-clause-node : goal.returns-clause-node
returns-clause-node c = λ ids facts one other agree is too node.
    ap (λ (found : Findings). node_text found node) (one_findings ids facts agree one other is too)

pub returns-clause-reference : goal.returns-clause-reference
returns-clause-reference c = λ ids facts one other agree is too id.
    ap (λ (found : Findings). reference_text found id) (one_findings ids facts agree one other is too)

pub returns-clause-value : goal.returns-clause-value
returns-clause-value c = λ ids facts one other agree is too basic bits.
    ap (λ (found : Findings). value_text found basic bits) (one_findings ids facts agree one other is too)
