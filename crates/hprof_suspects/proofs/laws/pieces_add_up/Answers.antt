use Rattle.hprof_suspects.proofs.AddedUp.{pieces_add_up}
use Rattle.hprof_suspects.proofs.laws.pieces_add_up.Goals as goal

pub returns : goal.returns
returns c = pieces_add_up
