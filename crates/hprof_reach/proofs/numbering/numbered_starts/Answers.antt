use Rattle.std.specs.Prelude.{◌↔◌, Contains, slice_index}
use Rattle.std.proofs.Common.{ℕ, List, sym, subst}
use Rattle.std.proofs.lemmas.Result.{IfOk-weaker}
use Rattle.hprof_heap.specs.HeapFacts.{facts_of}
use Rattle.hprof_numbers.specs.Numbered.{nodes_in}
use Rattle.hprof_reach.specs.Reaching.{IsRooted}
use Rattle.hprof_reach.proofs.numbering.numbered_starts.Goals as goal

pub returns : goal.returns
returns c = IfOk-weaker c.numbers_of.result _ _
    (λ starts are. λ number.
    let node = slice_index (nodes_in c.args.nodes.now) number in
    let rooted = subst (λ (ids : List ℕ). Contains ids node ↔ IsRooted (facts_of c.args.heap.now) node) (sym c.deref.ensures.value)
    (c.in_ok-starts.ensures node) in (
      λ has. let both = (are number).0 has in (both.0, rooted.0 both.1),
      λ both. (are number).1 (both.0, rooted.1 both.1),
    ))
    c.numbers_of.ensures
