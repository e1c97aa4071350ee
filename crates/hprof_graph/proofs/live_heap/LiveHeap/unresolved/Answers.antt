use Rattle.std.specs.Prelude.{⊤}
use Rattle.std.proofs.Common.{◌≡◌, [], sym, subst, rules}
use Rattle.hprof_graph.specs.Derived.{CannotBeLaid, IsDerived}
use Rattle.hprof_graph.specs.LiveHeap.{outcome_of}
use Rattle.hprof_graph.specs.Number.{IsNumberOf}
use Rattle.hprof_graph.proofs.Counted.{no_number}
use Rattle.hprof_graph.proofs.Outcomes.{answer_mapped, answer_so, kind_answered}
use Rattle.hprof_graph.proofs.live_heap.LiveHeap.unresolved.Goals as goal

pub returns-clause-kind : goal.returns-clause-kind
returns-clause-kind c =
    kind_answered (λ ids facts number. ⊤) (outcome_of c.args.self.now) c.map.result
    (answer_mapped (λ ids facts number. ⊤) _ (λ heap number gives. tt) (λ number gives ids. tt) (outcome_of c.args.self.now) c.so_far.result
    c.map.result c.so_far.ensures c.map.ensures)

pub returns-clause-value : goal.returns-clause-value
returns-clause-value c = λ current.
    let derived = c.args.self.now.derived in
    answer_so (λ ids facts number. IsDerived ids facts derived → IsNumberOf (CannotBeLaid facts) number)
    (λ ids facts number. IsNumberOf (CannotBeLaid facts) number) (outcome_of c.args.self.now) derived c.map.result
    (answer_mapped (λ ids facts number. IsDerived ids facts derived → IsNumberOf (CannotBeLaid facts) number) _
    (λ heap number gives. search rules)
    (λ number gives ids is. (
    let zero : number ≡ 0 = search rules in
    subst (IsNumberOf (CannotBeLaid [])) (sym zero) (no_number (CannotBeLaid []) (λ id can. absurd can.is_of.1.has))))
    (outcome_of c.args.self.now) c.so_far.result c.map.result c.so_far.ensures c.map.ensures) current.derived
    (λ ids facts number is holds. holds is)
