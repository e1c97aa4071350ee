use Rattle.std.proofs.Common.{Some, ap, ◌∙◌}
use Rattle.hprof_values.proofs.IdLists.{nth_by, past_by}
use Rattle.hprof_values.proofs.lists.ids.IdList.get.Goals as goal

pub returns-then-self-width : goal.returns-then-self-width
returns-then-self-width c = past_by c.args.self.now.ids _ c.args.self.now.bytes.now c.args.place c.width-width.ensures c.if-self-width.true

pub returns : goal.returns
returns c =
    ap Some c.id_at.ensures
    ∙ nth_by c.args.self.now.ids _ c.args.self.now.bytes.now _ c.args.place c.width-width.ensures c.if-self-width.false
    c.split_at.ensures.back
