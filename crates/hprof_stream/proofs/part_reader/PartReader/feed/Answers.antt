use Rattle.std.proofs.Common.{◌≡◌, ◌<◌, min, length, ap, sym, subst, ◌∙◌, arith, true, false, rules}
use Rattle.std.proofs.lemmas.Bool.{both_ways, eqb-true, eqb-false}
use Rattle.std.proofs.lemmas.List.{length-drop, nil_from_length}
use Rattle.std.specs.Prelude.{OnOk}
use Rattle.std.specs.Result.{is_err}
use Rattle.hprof_stream.proofs.FedRefusals.{KeepsLeft, Feeds-refused}
use Rattle.hprof_stream.proofs.PieceRoom.{room_of, taken_whole, taken_some, taken_all, takes_all}
use Rattle.hprof_stream.proofs.Feeding.{front_kept}
use Rattle.hprof_stream.proofs.FedRefusals.{IsFeedFault-excess, Feeds-kept, Feeds-unheld}
use Rattle.hprof_stream.proofs.part_reader.PartReader.feed.Goals.{in-Ok, in-Ok-2, in-Err}
use Rattle.hprof_stream.proofs.part_reader.PartReader.feed.Goals as goal

pub returns-then-is_err-clause-fed : goal.returns-then-is_err-clause-fed
returns-then-is_err-clause-fed g c = λ limits bytes facts read.
    let sink = g.S.Sink in
    let self = c.args.self.now in
    let piece = c.args.piece.now in
    let taken = c.split_at.result.0.now in
    let excess = c.split_at.result.1.now in
    let at = c.read_on.new.progress in
    let rest = c.read_on.new.rest in
    let old = c.args.sink.now in
    let new = c.read_on.new.sink in
    let count : c.min.result ≡ min (room_of self) (length piece) = omega (arith, c.min.ensures, c.len.ensures) in
    let wrong : is_err c.match-read_on.outcome ≡ true = sym c.is_err.ensures.value ∙ c.if-is_err.true in
    let whole = taken_whole limits bytes piece taken facts self c.min.result read count c.split_at.ensures.front in
    let front = front_kept limits bytes facts self read in
    elim c.match-read_on.branch [
      | in-Ok w ↦
          let none = nil_from_length excess (eqb-true (length excess) 0 (sym w.is_empty.ensures ∙ w.if-is_empty.true)) in
          let all = takes_all piece taken excess c.min.result c.split_at.ensures.front c.split_at.ensures.back none in
          let within = taken_all limits bytes piece facts self c.min.result read count all.0 in
          let tells = ap (λ s. s.1.0.header) w.self-is in
          rw w.outcome-is (Feeds-unheld sink.begins sink.steps sink.refuses sink.failed limits bytes piece taken w.in-Ok.left.now facts self
          _ at rest old new read within all.1 (w.in-Ok.ensures.read read.unfinished front) w.keep-outcome.result
          (ap is_err (sym w.outcome-is) ∙ wrong) tells w.in-Ok.ensures.less w.keep-outcome.ensures.err)
      | in-Ok-2 w ↦
          let some : 0 < length excess = omega (arith, eqb-false (length excess) 0 (sym w.is_empty.ensures ∙ w.if-is_empty.false)) in
          let lt : c.min.result < length piece = omega (arith, ap length c.split_at.ensures.back, length-drop c.min.result piece) in
          let many = taken_some limits bytes piece facts self c.min.result read count lt in
          let tells = ap (λ s. s.1.0.header) w.self-is in
          rw w.outcome-is (IsFeedFault-excess sink.begins sink.steps sink.refuses sink.failed limits bytes piece taken w.in-Ok.left.now
          facts self at _ rest old new read whole many (w.in-Ok.ensures.read read.unfinished front) tells)
      | in-Err w ↦
          let tells = ap (λ s. s.1.0.header) w.self-is in
          rw w.outcome-is (Feeds-refused sink.begins sink.steps sink.refuses sink.failed limits bytes piece taken facts self _ at rest old
          new w.in-Err.fault read whole (w.in-Err.ensures.read read.unfinished front) tells)
    ]

pub returns-else-is_err-clause-fed : goal.returns-else-is_err-clause-fed
returns-else-is_err-clause-fed g c = λ limits bytes facts read.
    let sink = g.S.Sink in
    let self = c.args.self.now in
    let piece = c.args.piece.now in
    let taken = c.split_at.result.0.now in
    let excess = c.split_at.result.1.now in
    let at = c.read_on.new.progress in
    let rest = c.read_on.new.rest in
    let count : c.min.result ≡ min (room_of self) (length piece) = omega (arith, c.min.ensures, c.len.ensures) in
    let fine : is_err c.match-read_on.outcome ≡ false = sym c.is_err.ensures.value ∙ c.if-is_err.false in
    elim c.match-read_on.branch [
      | in-Ok w ↦
          let none = nil_from_length excess (eqb-true (length excess) 0 (sym w.is_empty.ensures ∙ w.if-is_empty.true)) in
          let all = takes_all piece taken excess c.min.result c.split_at.ensures.front c.split_at.ensures.back none in
          let within = taken_all limits bytes piece facts self c.min.result read count all.0 in
          let reads = w.in-Ok.ensures.read read.unfinished (front_kept limits bytes facts self read) in
          let kept = subst (λ r. OnOk w.keep-outcome.result (KeepsLeft at rest w.in-Ok.left.now r)) (ap (λ s. s.1.1.0) (sym w.self-is))
          w.keep-outcome.ensures.ok in
          rw w.outcome-is (Feeds-kept sink.begins sink.steps sink.refuses sink.failed limits bytes piece taken w.in-Ok.left.now facts self
          _ at rest c.args.sink.now c.read_on.new.sink read within all.1 reads w.keep-outcome.result
          (ap is_err (sym w.outcome-is) ∙ fine) (ap (λ s. s.1.0) w.self-is) c.if-self.false kept)
      | in-Ok-2 w ↦ absurd (both_ways (is_err c.match-read_on.outcome) fine (ap is_err w.outcome-is))
      | in-Err w ↦ absurd (both_ways (is_err c.match-read_on.outcome) fine (ap is_err w.outcome-is))
    ]

pub returns-then-is_err-clause-err : goal.returns-then-is_err-clause-err
returns-then-is_err-clause-err g c = search rules

pub returns-then-is_err-clause-full : goal.returns-then-is_err-clause-full
returns-then-is_err-clause-full g c = search rules

pub returns-then-is_err-clause-ready : goal.returns-then-is_err-clause-ready
returns-then-is_err-clause-ready g c = search rules
