use Rattle.std.proofs.Common.{◌++◌, subst, ◌∙◌, append_assoc}
use Rattle.hprof_heap.specs.ClassDump.{class_value}
use Rattle.hprof_edges.specs.declared.edge.Via.TheVariants as vias
use Rattle.hprof_edges.specs.EdgeLists.{named_edges, numbered, targets_of_constants, targets_of_statics}
use Rattle.hprof_edges.proofs.ClassDumpEdges.{class_dump_edges}
use Rattle.hprof_edges.proofs.of_class.class_edges.Goals as goal

pub returns-clause-holds : goal.returns-clause-holds
returns-clause-holds g c = λ edges held.
    let dump = class_value c.args.dump.now in
    let named = named_edges dump in
    let constants = numbered dump.id vias.Constant 0 (targets_of_constants dump.constants) in
    let statics = numbered dump.id vias.Static 0 (targets_of_statics dump.statics) in
    let first = c.in_ok-put_named.ensures.holds edges held in
    let next = c.in_ok-put_constants.ensures.holds (edges ++ named) first in
    let last = c.in_ok-put_statics.ensures.holds ((edges ++ named) ++ constants) next in
    record {
      more = named ++ (constants ++ statics);
      holds_more = subst (g.C.Collect.holds c.put_statics.new.into)
          (append_assoc (edges ++ named) constants statics ∙ append_assoc edges named (constants ++ statics)) last;
      exact = class_dump_edges dump;
    }
