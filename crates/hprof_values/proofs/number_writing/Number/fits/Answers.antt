use Rattle.std.proofs.Common.{rules}
use Rattle.hprof_values.proofs.number_writing.Number.fits.Goals as goal

pub returns-in-Id-Four : goal.returns-in-Id-Four
returns-in-Id-Four c = search rules

pub returns-in_default : goal.returns-in_default
returns-in_default c = search rules

pub returns-in_default-2 : goal.returns-in_default-2
returns-in_default-2 c = search rules
