use Rattle.std.proofs.Common.{ℕ, None, length, subst, ap, arith}
use Rattle.std.specs.Prelude.{Contains}
use Rattle.hprof_numbers.specs.Numbered.{nodes_in}
use Rattle.hprof_numbers.specs.Numbers.{items_in}
use Rattle.hprof_numbers.specs.Targets.{IsNumberOf}
use Rattle.hprof_numbers.proofs.Ascending.{has_number, number_of}
use Rattle.hprof_numbers.proofs.Targets.{number_of_node, only_nodes}
use Rattle.hprof_numbers.proofs.edges.numbers_of.Goals as goal

pub put_targets-requires : goal.put_targets-requires
put_targets-requires c = record {
  fit = λ target number is.
      omega (arith, (only_nodes (nodes_in c.args.nodes.now) target number is).0, c.len.ensures, c.empty-numbers.ensures.bound);
}

pub returns : goal.returns
returns c = λ number.
    let nodes = nodes_in c.args.nodes.now in
    let targets = c.args.targets.now in
    let put = c.in_ok-put_targets.ensures.items in
    let items = items_in c.put_targets.new.items in
    let none = ap (length {A = ℕ}) c.empty-numbers.ensures.items in
    let is = number_of_node nodes c.args.nodes.now.ascend (Contains targets) number in (
      λ has.
          let at = number_of items number has in
          is.0 (subst (IsNumberOf nodes None (Contains targets)) at.2 (put.only at.0 (omega (arith, none)) at.1)),
      λ came. let at = put.all number (is.1 came) in has_number items number at.0 at.2 at.3,
    )
