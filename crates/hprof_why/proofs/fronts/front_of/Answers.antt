use Rattle.std.proofs.Common.{◌∙◌, sym, arith}
use Rattle.hprof_heap.specs.HeapFacts.{facts_of, size_of}
use Rattle.hprof_edges.specs.LeftOut.{IsKept, fields_in}
use Rattle.hprof_why.proofs.KindParts.{some_is}
use Rattle.hprof_why.proofs.Going.{first_step}
use Rattle.hprof_why.proofs.Fronting.{begins_one, begins_stretch}
use Rattle.hprof_why.proofs.fronts.front_of.Goals as goal

pub returns-then-like-lt-FOLDED-clause-front : goal.returns-then-like-lt-FOLDED-clause-front
returns-then-like-lt-FOLDED-clause-front c = λ found text are told.
    let ids = size_of c.args.view.heap.now in
    let facts = facts_of c.args.view.heap.now in
    let P = IsKept (fields_in c.args.left_out.now) facts in
    let first = first_step P ids facts found c.args.from c.args.to c.args.after.now told.links told.are_links in
    let edge = first.0 in
    let is = some_is _ _ (sym c.in-Some.is ∙ c.in_ok-found.ensures.step found.edges edge are.are_edges first.1.least) in
    let run = c.in_ok-like.ensures.run found edge told.links are is first.1 in
    let counted = run.0 in
    let few = c.if-like-lt-FOLDED.true in
    let begins = begins_one P ids facts found c.args.from c.args.to c.args.after.now text told edge first.1 (omega (arith, counted, few)) in
    (edge, begins.0, is, begins.1, begins.2)

pub returns-clause-front : goal.returns-clause-front
returns-clause-front c = λ found text are told.
    let ids = size_of c.args.view.heap.now in
    let facts = facts_of c.args.view.heap.now in
    let P = IsKept (fields_in c.args.left_out.now) facts in
    let first = first_step P ids facts found c.args.from c.args.to c.args.after.now told.links told.are_links in
    let edge = first.0 in
    let is = some_is _ _ (sym c.in-Some.is ∙ c.in_ok-found.ensures.step found.edges edge are.are_edges first.1.least) in
    let run = c.in_ok-like.ensures.run found edge told.links are is first.1 in
    let counted = run.0 in
    let many = c.if-like-lt-FOLDED.false in
    let end = c.in_ok-like.like in
    let begins = begins_stretch P ids facts found c.args.from c.args.to c.args.after.now text told edge first.1 end.count end.behind.node
    end.behind.rest.now (run.1 (omega (arith, many))) counted (omega (arith, many)) in
    (edge, begins.0, is, begins.1, begins.2)
