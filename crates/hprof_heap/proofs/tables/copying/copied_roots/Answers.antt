use Rattle.hprof_rows.specs.RootSet.{roots_of}
use Rattle.hprof_heap.proofs.OtherTables.{joined_roots}
use Rattle.hprof_heap.proofs.tables.copying.copied_roots.Goals as goal

pub returns : goal.returns
returns c =
    joined_roots (roots_of c.new-copied.result) (roots_of c.args.roots.now) (roots_of c.join.new.self) c.new-copied.ensures
    c.args.roots.now.sound c.in_ok-join.ensures.ok
