use Rattle.std.proofs.Common.{◌∙◌, sym, ap, arith, List, ℕ, length, subst}
use Rattle.std.proofs.lemmas.List.{nil_from_length}
use Rattle.hprof_heap.specs.HeapFacts.{facts_of, size_of}
use Rattle.hprof_edges.specs.LeftOut.{IsKept, fields_in}
use Rattle.hprof_why.specs.Walks.{IsGone}
use Rattle.hprof_why.proofs.Going.{gone_all, gone_apart, gone_more}
use Rattle.hprof_why.proofs.fronts.go_on.Goals as goal

pub returns-then-not-is_alike-clause-run : goal.returns-then-not-is_alike-clause-run
returns-then-not-is_alike-clause-run c = λ found edge links are is start.
    let ids = size_of c.args.view.heap.now in
    let facts = facts_of c.args.view.heap.now in
    let P = IsKept (fields_in c.args.left_out.now) facts in
    let run = c.loop-to.run in
    let gone = c.loop-to.invariant.gone found edge links are is start in (
      gone,
      gone_apart P ids facts found c.args.before edge links run.count run.behind.node c.in-Some.to.now c.in-Some.after.now
          (subst (λ (l : List ℕ). IsGone P ids facts found c.args.before edge links run.count run.behind.node l)
          c.in-Some.ensures.cases.0 gone)
          (λ next least. sym c.if-not-is_alike.true ∙ c.in_ok-is_alike.ensures.alike found edge next are is least),
    )

pub loop-to-preserved : goal.loop-to-preserved
loop-to-preserved c =
    let ids = size_of c.args.view.heap.now in
    let facts = facts_of c.args.view.heap.now in
    let P = IsKept (fields_in c.args.left_out.now) facts in
    let run = c.loop-to.run in
    let split = c.in-Some.ensures.cases.0 in
    record {
      gone = λ found edge links are is start.
          let gone = c.loop-to.invariant.gone found edge links are is start in
          gone_more P ids facts found c.args.before edge links run.count run.behind.node c.in-Some.to.now c.in-Some.after.now
          (subst (λ (l : List ℕ). IsGone P ids facts found c.args.before edge links run.count run.behind.node l) split gone)
          (λ next least. sym c.if-not-is_alike.false ∙ c.in_ok-is_alike.ensures.alike found edge next are is least);
      counted = omega (arith, ap length split, c.loop-to.invariant.counted);
      shorter = omega (arith, ap length split, c.loop-to.invariant.shorter);
      skips = c.in_ok-is_alike.ensures.skips;
    }

pub returns-clause-run : goal.returns-clause-run
returns-clause-run c = λ found edge links are is start.
    let ids = size_of c.args.view.heap.now in
    let facts = facts_of c.args.view.heap.now in
    let P = IsKept (fields_in c.args.left_out.now) facts in
    let run = c.loop-to.run in
    let gone = c.loop-to.invariant.gone found edge links are is start in
    let none = nil_from_length run.behind.rest.now c.in_default.ensures.cases in
    (gone, gone_all P ids facts found c.args.before edge links run.count run.behind.node run.behind.rest.now gone none)
