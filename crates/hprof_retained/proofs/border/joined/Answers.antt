use Rattle.hprof_retained.proofs.BorderLists.{either_list}
use Rattle.hprof_retained.proofs.border.joined.Goals as goal

pub returns-clause-all : goal.returns-clause-all
returns-clause-all c =
    either_list c.in_ok-all.all.items c.extend_from_slice.new.self.items c.extend_from_slice-2.new.self.items c.sort_once.new.nodes.items
    c.args.one.now c.args.other.now c.in_ok-all.ensures.items c.in_ok-extend_from_slice.ensures.items
    c.in_ok-extend_from_slice-2.ensures.items c.in_ok-sort_once.ensures.same
