use Rattle.std.proofs.Common.{◌≡◌, ◌++◌}
use Rattle.hprof_layouts.proofs.Joined.{behind_from}
use Rattle.hprof_layouts.proofs.own_fields.OwnLayout.append.Given as goal

abbrev pub invariant-loop-reference : goal.invariant-loop-reference
invariant-loop-reference l =
    l.self.references.items ++ behind_from l.start l.before l.others.references.items l.reference-index
    ≡ l.fn.self.references.items ++ behind_from l.start l.before l.others.references.items 0
