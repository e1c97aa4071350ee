use Rattle.std.proofs.Common.{◌<◌, ◌≤◌, [], Option, ℕ, length, take, subst, sym, arith, rules}
use Rattle.std.proofs.KnownBytes.{Consumes-nil, Consumes-kept}
use Rattle.std.proofs.lemmas.List.{length-take-le}
use Rattle.std.proofs.lemmas.Result.{err_from_is_err_and}
use Rattle.std.specs.Io.KnownBytes.{Consumes}
use Rattle.hprof_values.specs.declared.ids.IdSize.{IdSize}
use Rattle.hprof_stream.specs.Reader.{IsReady}
use Rattle.hprof_stream.proofs.FedRuns.{no_bytes_no_header}
use Rattle.hprof_placed.proofs.Parts.{placed_end, placed_failed, placed_fault, placed_more, placed_none, placed_spent}
use Rattle.hprof_placed.proofs.reading.feed_all.Goals as goal

pub loop-init : goal.loop-init
loop-init g c = record {
  fed = λ limits read. placed_none g.R.Source.left g.R.Source.health g.R.Source.pulls g.S.PlacedSink.holds g.S.Sink.refuses
      g.S.Sink.failed limits c.args.source.now c.args.reader.now c.args.sink.now read (no_bytes_no_header limits [] c.args.reader.now read);
  well = c.requires.well;
  few = omega arith;
  room = c.requires.room;
  small = c.requires.few;
  ready = c.requires.begun;
}

pub returns-in_default-clause-fed : goal.returns-in_default-clause-fed
returns-in_default-clause-fed g c =
    let left = g.R.Source.left in
    let nothing : Consumes (left c.loop.source) (left c.pull.new.self) [] = Consumes-kept (left c.loop.source) (left c.loop.source)
    (left c.pull.new.self) [] (Consumes-nil (left c.loop.source)) c.in_default.ensures.bytes in
    λ limits read same. placed_failed g.R.Source.left g.R.Source.health g.R.Source.pulls g.S.PlacedSink.holds g.S.Sink.refuses
    g.S.Sink.failed limits c.loop.counter c.args.source.now c.loop.source c.pull.new.self c.loop.reader c.args.sink.now c.loop.sink
    (record { gave = nothing; one = c.in_default.ensures.pulls; few = omega arith }) c.in_default.ensures.health
    (c.loop.invariant.fed limits read) (omega (arith, same))

pub returns-then-count-eq0-clause-fed : goal.returns-then-count-eq0-clause-fed
returns-then-count-eq0-clause-fed g c =
    let piece = c.pull.new.piece in
    let room : 0 < length piece = let before = c.loop.invariant.room in omega arith in
    let nothing = subst (λ (n : ℕ). Consumes (g.R.Source.left c.loop.source) (g.R.Source.left c.pull.new.self) (take n piece))
    c.if-count-eq0.true c.in-Ok.ensures.bytes in
    λ limits read same. placed_end g.R.Source.left g.R.Source.health g.R.Source.pulls g.S.PlacedSink.holds g.S.Sink.refuses
    g.S.Sink.failed limits c.loop.counter c.args.source.now c.loop.source c.pull.new.self c.loop.reader c.args.sink.now c.loop.sink tt
    (record { gave = nothing; one = c.in-Ok.ensures.pulls; few = omega arith }) (c.in-Ok.ensures.end c.if-count-eq0.true room)
    c.in-Ok.ensures.health (c.loop.invariant.fed limits read) (omega (arith, same))

pub feed-requires : goal.feed-requires
feed-requires g c =
    subst (λ (begun : Option IdSize). IsReady c.loop.reader begun) (sym c.note_place.ensures.begun) c.loop.invariant.ready

pub returns-in_err-feed-clause-fed : goal.returns-in_err-feed-clause-fed
returns-in_err-feed-clause-fed g c =
    let p = err_from_is_err_and c.from_residual.result c.from_residual.ensures.1 in
    let came = length-take-le c.in-Ok.count c.pull.new.piece c.in-Ok.ensures.count in
    let some : 0 < length (take c.in-Ok.count c.pull.new.piece) = omega (arith, c.if-count-eq0.false, came) in
    let few : length (take c.in-Ok.count c.pull.new.piece) ≤ 65536 = let before = c.loop.invariant.small in omega
    (arith, came, c.in-Ok.ensures.count) in
    λ limits read same. rw (p.1, p.2) (placed_fault g.R.Source.left g.R.Source.health g.R.Source.pulls g.S.PlacedSink.holds
    g.S.Sink.refuses g.S.Sink.failed g.S.Sink.begins g.S.Sink.steps g.met.S.PlacedSink.begins_part g.met.S.PlacedSink.takes_fact limits
    c.loop.counter c.args.source.now c.loop.source c.pull.new.self c.loop.reader c.feed.new.self c.args.sink.now c.loop.sink
    c.note_place.new.sink c.feed.new.sink (take c.in-Ok.count c.pull.new.piece) c.in_err-feed.field-0.0
    (record { gave = c.in-Ok.ensures.bytes; one = c.in-Ok.ensures.pulls; few = few }) some
    (λ earlier header bytes more facts was held. c.note_place.ensures.holds limits earlier header bytes more facts was held)
    (λ bytes facts was. c.in_err-feed.ensures.fed limits bytes facts was) c.in_err-feed.ensures.kept c.in-Ok.ensures.health
    (c.loop.invariant.fed limits read) (omega (arith, same)))

pub loop-preserved : goal.loop-preserved
loop-preserved g c =
    let before = c.loop.invariant in
    let piece = c.pull.new.piece in
    let came = length-take-le c.in-Ok.count piece c.in-Ok.ensures.count in
    let some : 0 < length (take c.in-Ok.count piece) = omega (arith, c.if-count-eq0.false, came) in
    let few : length (take c.in-Ok.count piece) ≤ 65536 = omega (arith, before.small, came, c.in-Ok.ensures.count) in
    record {
      fed = λ limits read. placed_more g.R.Source.left g.R.Source.health g.R.Source.pulls g.S.PlacedSink.holds g.S.Sink.refuses
          g.S.Sink.failed g.S.Sink.begins g.S.Sink.steps g.met.S.PlacedSink.begins_part g.met.S.PlacedSink.takes_fact limits
          c.loop.counter c.args.source.now c.loop.source c.pull.new.self
          c.loop.reader c.feed.new.self c.args.sink.now c.loop.sink c.note_place.new.sink c.feed.new.sink (take c.in-Ok.count piece)
          c.in_ok-feed.field-0
          (record { gave = c.in-Ok.ensures.bytes; one = c.in-Ok.ensures.pulls; few = few }) some
          (λ earlier header bytes more facts was held. c.note_place.ensures.holds limits earlier header bytes more facts was held)
          (λ bytes facts was. c.in_ok-feed.ensures.fed limits bytes facts was) c.in_ok-feed.ensures.kept (before.fed limits read);
      well = c.in-Ok.ensures.health;
      few = omega (arith, before.few, c.in-Ok.ensures.pulls);
      room = omega (arith, before.room);
      small = omega (arith, before.small);
      ready = c.in_ok-feed.ensures.ready;
    }

pub returns-clause-fed : goal.returns-clause-fed
returns-clause-fed g c =
    let before = c.loop.invariant in
    λ limits read same. placed_spent g.R.Source.left g.R.Source.health g.R.Source.pulls g.S.PlacedSink.holds g.S.Sink.refuses
    g.S.Sink.failed limits c.loop.counter c.args.source.now c.loop.source c.loop.reader c.args.sink.now c.loop.sink before.well
    (before.fed limits read) (omega (arith, same))

pub returns-then-count-eq0-clause-pulls : goal.returns-then-count-eq0-clause-pulls
returns-then-count-eq0-clause-pulls g c = search rules
