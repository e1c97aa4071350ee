use Rattle.std.proofs.Common.{Err, Ok, Result}
use Rattle.hprof_engine.specs.declared.product.ProductFault.{ProductFault}
use Rattle.hprof_heap.specs.HeapFacts.{facts_of, size_of}
use Rattle.hprof_rows.proofs.Order.{order_agrees}
use Rattle.hprof_lines.proofs.PassedEnds.{ends_passed}
use Rattle.hprof_retained.proofs.KeptFound.{retained_kept_on}
use Rattle.hprof_by_label.specs.RetainedText.{IsRetainedText}
use Rattle.hprof_by_label.proofs.report.write_retained_over.Goals as goal

pub returns-in-Ok-outcome-clause-ends : goal.returns-in-Ok-outcome-clause-ends
returns-in-Ok-outcome-clause-ends g c =
    let ids = size_of c.args.heap.now in
    let facts = facts_of c.args.heap.now in
    let objects = c.args.objects.now in
    let answer : Result (Unit {0}) ProductFault = Ok c.in-Ok-outcome.field-0 in
    ends_passed (g.O.Objects.make_up objects ids facts) (g.O.Objects.agree objects ids facts) (g.O.Objects.tells objects ids facts)
    (IsRetainedText ids) g.W.Target.written g.W.Target.health c.args.target.now c.write_labels-outcome.new.target answer
    c.in-Ok.ensures.made.0
    (λ all make.
    let made = c.in-Ok.ensures.made.1 all make in
    c.in-Ok-outcome.ensures.bytes ids all (order_agrees all (g.met.O.Objects.whole objects ids facts all make).ordered) made.0 made.1
    made.2)
    c.in-Ok-outcome.ensures.health

pub returns-clause-ends : goal.returns-clause-ends
returns-clause-ends g c =
    let ids = size_of c.args.heap.now in
    let facts = facts_of c.args.heap.now in
    let objects = c.args.objects.now in
    let answer : Result (Unit {0}) ProductFault = Err c.in-Err-outcome.stop in
    ends_passed (g.O.Objects.make_up objects ids facts) (g.O.Objects.agree objects ids facts) (g.O.Objects.tells objects ids facts)
    (IsRetainedText ids) g.W.Target.written g.W.Target.health c.args.target.now c.write_labels-outcome.new.target answer
    c.in-Ok.ensures.made.0
    (λ all make.
    let made = c.in-Ok.ensures.made.1 all make in
    c.in-Err-outcome.ensures.bytes ids all (order_agrees all (g.met.O.Objects.whole objects ids facts all make).ordered) made.0 made.1
    made.2)
    c.in-Err-outcome.ensures.health

pub returns-in-Ok-outcome-clause-references : goal.returns-in-Ok-outcome-clause-references
returns-in-Ok-outcome-clause-references g c =
    let ids = size_of c.args.heap.now in
    let facts = facts_of c.args.heap.now in
    let objects = c.args.objects.now in
    retained_kept_on (g.O.Objects.make_up objects ids facts) (g.O.Objects.agree objects ids facts) ids c.labelled_tree.new.references
    c.keep_retained.new.self c.in-Ok.ensures.references c.in-Ok.made.retained
    (c.in-Ok.ensures.made.0, λ all make. (c.in-Ok.ensures.made.1 all make).0) c.keep_retained.ensures.retained
    c.keep_retained.ensures.others

pub returns-clause-references : goal.returns-clause-references
returns-clause-references g c =
    let ids = size_of c.args.heap.now in
    let facts = facts_of c.args.heap.now in
    let objects = c.args.objects.now in
    retained_kept_on (g.O.Objects.make_up objects ids facts) (g.O.Objects.agree objects ids facts) ids c.labelled_tree.new.references
    c.keep_retained.new.self c.in-Ok.ensures.references c.in-Ok.made.retained
    (c.in-Ok.ensures.made.0, λ all make. (c.in-Ok.ensures.made.1 all make).0) c.keep_retained.ensures.retained
    c.keep_retained.ensures.others
