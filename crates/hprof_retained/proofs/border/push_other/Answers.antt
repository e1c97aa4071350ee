use Rattle.std.proofs.Common.{◌∙◌, refl, sym}
use Rattle.hprof_reach.proofs.TableNodes.{same_given}
use Rattle.hprof_retained.proofs.BorderLists.{no_other, none_more, other_one}
use Rattle.hprof_retained.proofs.border.push_other.Goals as goal

pub returns-then-place-ne0 : goal.returns-then-place-ne0
returns-then-place-ne0 c =
    none_more c.args.others.now.items c.args.others.now.items _ refl
    (no_other c.args.retained.now c.args.id (λ at. c.if-place-ne0.true (c.place.ensures ∙ at)))

pub returns : goal.returns
returns c =
    same_given _ _ c.args.others.now.items c.push_node.new.nodes.items
    (other_one c.args.retained.now c.args.id (sym c.place.ensures ∙ c.if-place-ne0.false)) c.in_ok-push_node.ensures
