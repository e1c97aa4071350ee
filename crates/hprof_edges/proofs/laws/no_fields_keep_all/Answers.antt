use Rattle.std.proofs.Common.{[], refl}
use Rattle.hprof_edges.proofs.LeftOutEdges.{all_kept}
use Rattle.hprof_edges.proofs.laws.no_fields_keep_all.Goals as goal

pub returns : goal.returns
returns c = λ facts edge. all_kept [] facts edge refl
