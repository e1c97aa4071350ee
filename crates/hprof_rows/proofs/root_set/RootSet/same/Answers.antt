use Rattle.std.proofs.lemmas.Slice.Eq.{slice_eq-Decides}
use Rattle.hprof_rows.specs.RootSet.{roots_of}
use Rattle.hprof_rows.proofs.RootEquality.{root_eq-Decides}
use Rattle.hprof_rows.proofs.root_set.RootSet.same.Goals as goal

pub returns : goal.returns
returns c = slice_eq-Decides root_eq-Decides (roots_of c.args.self.now) (roots_of c.args.other.now) c.eq.result c.eq.ensures
