use Rattle.std.proofs.Common.{refl, rules}
use Rattle.std.proofs.lemmas.Result.{err_from_is_err_and}
use Rattle.hprof_placed.proofs.Parts.{begun_at_end, reads_finished, reads_nothing}
use Rattle.hprof_placed.proofs.reading.read_placed.Goals as goal

pub returns-in_default-clause-read : goal.returns-in_default-clause-read
returns-in_default-clause-read g c =
    reads_nothing g.R.Source.left g.R.Source.health g.R.Source.pulls g.S.PlacedSink.holds g.S.Sink.refuses g.S.Sink.failed
    c.args.limits c.args.source.now c.args.sink.now c.requires

pub feed_all-requires-clause-begun : goal.feed_all-requires-clause-begun
feed_all-requires-clause-begun g c = c.new-reader.ensures.ready (g.S.Sink.begun c.args.sink.now)

pub returns-in_err-feed_all-clause-read : goal.returns-in_err-feed_all-clause-read
returns-in_err-feed_all-clause-read g c =
    let p = err_from_is_err_and c.from_residual.result c.from_residual.ensures.1 in
    rw (p.1, p.2) (c.in_err-feed_all.ensures.fed c.args.limits c.new-reader.ensures.read refl)

pub returns-clause-read : goal.returns-clause-read
returns-clause-read g c =
    let fed = c.in_ok-feed_all.ensures.fed c.args.limits c.new-reader.ensures.read refl in (
      fed.0,
      fed.1,
      reads_finished g.R.Source.left g.R.Source.health g.R.Source.pulls g.S.PlacedSink.holds g.S.Sink.refuses g.S.Sink.failed
          c.args.limits c.args.source.now fed.0 c.feed_all.new.source c.feed_all.new.reader
          c.args.sink.now c.feed_all.new.sink c.in_ok-feed_all.field-0 c.finish.result fed.2
          (λ facts was. c.finish.ensures.finished c.args.limits fed.0 facts was),
    )

pub returns-clause-pulls : goal.returns-clause-pulls
returns-clause-pulls g c = search rules

pub returns-in_default-clause-pulls : goal.returns-in_default-clause-pulls
returns-in_default-clause-pulls g c = search rules

pub returns-in_err-feed_all-clause-pulls : goal.returns-in_err-feed_all-clause-pulls
returns-in_err-feed_all-clause-pulls g c = search rules

pub returns-clause-begun : goal.returns-clause-begun
returns-clause-begun g c =
    let fed = c.in_ok-feed_all.ensures.fed c.args.limits c.new-reader.ensures.read refl in
    begun_at_end c.args.limits fed.0 fed.2.3.0 c.feed_all.new.reader (g.S.Sink.begun c.feed_all.new.sink) c.finish.result fed.2.3.1
    c.in_ok-feed_all.ensures.ready (c.finish.ensures.finished c.args.limits fed.0 fed.2.3.0 fed.2.3.1)
