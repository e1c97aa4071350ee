use Rattle.std.proofs.Common.{sym, ◌∙◌}
use Rattle.hprof_rows.proofs.NumberRows.{frames_agree}
use Rattle.hprof_rows.proofs.number_rows.FrameRowContent.agrees.Goals as goal

pub returns : goal.returns
returns c =
    let decides = frames_agree c.args.self.now c.args.other.now in
    (λ yes. decides.0 (sym c.eq.ensures ∙ yes), λ same. c.eq.ensures ∙ decides.1 same)
