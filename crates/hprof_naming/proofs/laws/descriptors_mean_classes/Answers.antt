use Rattle.hprof_naming.proofs.Meanings.{class_descriptor}
use Rattle.hprof_naming.proofs.laws.descriptors_mean_classes.Goals as goal

pub returns : goal.returns
returns c = class_descriptor
