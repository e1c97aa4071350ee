use Rattle.std.proofs.Common.{◌≡◌, ◌∙◌}
use Rattle.hprof_heap.specs.HeapFacts.{facts_of}
use Rattle.hprof_naming.proofs.Namings.{of_text}
use Rattle.hprof_reach.specs.Roots.{AreRootsOf}
use Rattle.hprof_reach.proofs.RootLists.{one_list}
use Rattle.hprof_holders.specs.WhoText.{roots_of_some}
use Rattle.hprof_holders.proofs.WhoParts.{all_roots, no_roots}
use Rattle.hprof_holders.proofs.who_report.roots_of_some.Goals as goal

pub returns-then-id-eq0 : goal.returns-then-id-eq0
returns-then-id-eq0 c = λ roots are. c.new.ensures.items ∙ no_roots c.args.id roots c.if-id-eq0.true

pub returns : goal.returns
returns c = λ roots are.
    let facts = facts_of c.args.heap.now in
    let id = c.args.id in
    of_text (λ found. AreRootsOf facts id found.items) (λ found. found.items ≡ roots_of_some id roots) c.roots_of.result
    (λ found is. one_list facts id found.items roots is are ∙ all_roots id roots c.if-id-eq0.false) c.roots_of.ensures
