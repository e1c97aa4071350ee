use Rattle.std.proofs.Common.{Some, ap, sym, subst, refl, ◌∙◌}
use Rattle.hprof_diff.specs.Kept.{totals_in}
use Rattle.hprof_tool.specs.declared.program.refused.Refused.{Refused}
use Rattle.hprof_tool.specs.Comparing.{IsFrontOfBoth, StopsComparing, growth_of_parts}
use Rattle.hprof_tool.specs.Program.{of_dump}
use Rattle.hprof_tool.proofs.Comparing.{difference_made, dump_leaves, new_kind, new_says, old_kind, old_leaves, old_says}
use Rattle.hprof_tool.proofs.Streams.{stream_kind, stream_left, stream_refusal}
use Rattle.hprof_tool.proofs.program.comparing.compare_readers.Goals as goal

-- the older parts were refused
pub returns-in-Err-clause-stops : goal.returns-in-Err-clause-stops
returns-in-Err-clause-stops g c =
    let left = g.R.Source.left in
    let contents = g.W.Write.contents in
    let olds = c.args.olds.now in
    let news = c.args.news.now in
    let counts = c.in-Err.ensures.counts in
    subst (λ (why : Refused). StopsComparing left g.R.Source.health g.R.Source.pulls olds c.count_dump.new.readers news news contents
    c.args.writer why (Some c.args.writer)) (sym (c.of_dump.ensures ∙ ap (of_dump 0) c.from.ensures)) (
      old_kind c.in-Err.fault,
      λ old_parts new_parts told told_too. old_says left g.R.Source.health g.R.Source.pulls olds c.count_dump.new.readers news
          c.in-Err.fault counts old_parts new_parts told,
      old_leaves left g.R.Source.health g.R.Source.pulls olds c.count_dump.new.readers contents
          (IsFrontOfBoth left olds news) c.args.writer
          c.in-Err.fault counts,
    )

pub returns-in-Ok-write_through_buffer-clause-ok : goal.returns-in-Ok-write_through_buffer-clause-ok
returns-in-Ok-write_through_buffer-clause-ok g c = λ old_parts new_parts told told_too.
    let made = (c.in-Ok-write_through_buffer.ensures.ok.1.ok refl).1 new_parts told_too in
    let are = c.in-Ok.ensures.totals old_parts told in
    (made.0, difference_made (totals_in c.in-Ok.old) old_parts are new_parts made.0 made.1, made.2)

-- the newer parts were refused, or the writer failed
pub returns-clause-stops : goal.returns-clause-stops
returns-clause-stops g c =
    let left = g.R.Source.left in
    let contents = g.W.Write.contents in
    let olds = c.args.olds.now in
    let news = c.args.news.now in
    let totals = totals_in c.in-Ok.old in
    let stopped = c.in-Err-write_through_buffer.stopped in
    let stops = c.in-Err-write_through_buffer.ensures.stops in
    let kind = stream_kind left _ _ news _ (growth_of_parts totals) contents c.args.writer stopped.why
    stopped.writer stops in
    let says = stream_refusal left _ _ news _ (growth_of_parts totals) contents c.args.writer stopped.why
    stopped.writer stops in
    let health = g.R.Source.health in
    let pulls = g.R.Source.pulls in
    let olds_then = c.count_dump.new.readers in
    let news_then = c.write_through_buffer.new.readers in
    subst (λ (why : Refused). StopsComparing left health pulls olds olds_then news news_then contents c.args.writer why stopped.writer)
    (sym c.of_dump-in-Err-write_through_buffer.ensures) (
      new_kind stopped.why kind,
      λ old_parts new_parts told told_too.
          new_says totals old_parts (c.in-Ok.ensures.totals old_parts told) left health pulls olds olds_then news news_then stopped.why kind
          new_parts (says new_parts told_too),
      dump_leaves contents (IsFrontOfBoth left olds news) c.args.writer stopped.why stopped.writer
          (stream_left left _ _ news _ (growth_of_parts totals) contents c.args.writer
          (IsFrontOfBoth left olds news) (λ held holds writes old_parts new_parts told told_too.
          let front = writes new_parts told_too in (
            front.0,
            front.1,
            difference_made totals old_parts (c.in-Ok.ensures.totals old_parts told) new_parts front.0 front.2,
            front.3,
          )) stopped.why stopped.writer stops),
    )
