use Rattle.std.proofs.Common.{◌≡◌, sym, ◌∙◌}
use Rattle.std.specs.Prelude.{bytes_eq}
use Rattle.hprof_describe.specs.Nodes.{kind_text}
use Rattle.hprof_naming.proofs.Namings.{of_text}
use Rattle.hprof_why.specs.WhyText.{link_by}
use Rattle.hprof_why.specs.Walks.{is_alike_link, kind_of_step}
use Rattle.hprof_why.proofs.KindParts.{both_alike, some_is}
use Rattle.hprof_why.proofs.walk.Walk.is_alike.Goals as goal

pub returns-clause-alike : goal.returns-clause-alike
returns-clause-alike c = λ found edge next are is least.
    let told = c.in_ok-found.ensures.step found.edges next are.are_edges least in
    let step = c.in-Some.is in
    let same = c.in_ok-is_same.ensures found.nodes are.are_nodes in
    of_text (λ alike. alike ≡ bytes_eq (kind_of_step found edge) (kind_of_step found next))
    (λ alike. alike ≡ is_alike_link found c.args.before edge (link_by found next c.args.to)) c.same_step.result
    (λ alike e. e ∙ both_alike (kind_of_step found edge) (kind_text found.nodes c.args.before) (link_by found next c.args.to)
    (sym same ∙ c.if-not-is_same.false))
    (c.same_step.ensures found.nodes.naming found.edges edge next are.are_nodes.is_naming is (some_is _ _ (sym step ∙ told)))
