use Rattle.std.specs.Prelude.{map}
use Rattle.std.proofs.Common.{◌≡◌, ◌+◌, ◌∙◌, List, length, ap, arith, subst, sym}
use Rattle.std.proofs.lemmas.List.{length-map}
use Rattle.std.proofs.lemmas.Result.{err_from_is_err_and}
use Rattle.hprof_devices.proofs.Writes.{Pushed, Pushed-more, Pushed-none}
use Rattle.hprof_values.specs.declared.entry.Entry.{Entry}
use Rattle.hprof_values.specs.declared.lists.entry_list.EntryIterator.{EntryIterator}
use Rattle.hprof_values.specs.Lists.{entries_left, entries_of}
use Rattle.hprof_lines.specs.Line.{each_line, text_of_lines}
use Rattle.hprof_lines.proofs.TextWriting.{pushed_stops_within}
use Rattle.hprof_show.proofs.entries.write_entries.Goals as goal

pub loop-entry-init : goal.loop-entry-init
loop-entry-init g c =
    let line_at = g.E.Part.line_at in
    let of = g.E.ListEntry.of in
    let old = g.W.Target.written c.args.target.now in
    let left = entries_left c.into_iter-entry-iterator.result in
    let there : left ≡ entries_of c.args.entries.now =
    ap (λ (it : EntryIterator _ _). entries_left it) c.into_iter-entry-iterator.ensures.into_iter_gives ∙ c.iter-entry-items.ensures.all in
    record {
      pushed = λ found is.
          let all = text_of_lines (each_line (line_at found) 0 (map of (entries_of c.args.entries.now))) in
          subst (λ (l : List Entry). Pushed old old all (text_of_lines (each_line (line_at found) 0 (map of l)))) (sym there)
          (Pushed-none old all);
      well = c.requires.well;
      count = omega (arith, length-map left of, ap length there);
    }

pub returns-in_err-write_line-clause-bytes : goal.returns-in_err-write_line-clause-bytes
returns-in_err-write_line-clause-bytes g c = λ found is.
    let line_at = g.E.Part.line_at found in
    let of = g.E.ListEntry.of in
    let place = c.loop-entry.place in
    let line = line_at place c.in-Some.entry in
    let all = text_of_lines (each_line line_at 0 (map of (entries_of c.args.entries.now))) in
    let left = text_of_lines (each_line line_at place (map of (entries_left c.loop-entry.entry-iterator))) in
    let others = text_of_lines (each_line line_at (place + 1) (map of (entries_left c.next.new.self))) in
    let r = c.from_residual.result in
    let p = err_from_is_err_and r c.from_residual.ensures.1 in
    pushed_stops_within r p.0 p.1 (g.W.Target.written c.args.target.now) (g.W.Target.written c.loop-entry.target) all left
    (c.loop-entry.invariant.pushed found is) (g.W.Target.written c.write_line.new.target) line others
    (ap (λ entries. text_of_lines (each_line line_at place entries)) c.in-Some.ensures.steps)
    (c.in_err-write_line.ensures.bytes line (c.line.ensures found is))

pub loop-entry-preserved : goal.loop-entry-preserved
loop-entry-preserved g c = record {
  pushed = λ found is.
      let line_at = g.E.Part.line_at found in
      let of = g.E.ListEntry.of in
      let place = c.loop-entry.place in
      let line = line_at place c.in-Some.entry in
      let all = text_of_lines (each_line line_at 0 (map of (entries_of c.args.entries.now))) in
      let left = text_of_lines (each_line line_at place (map of (entries_left c.loop-entry.entry-iterator))) in
      let others = text_of_lines (each_line line_at (place + 1) (map of (entries_left c.next.new.self))) in
      Pushed-more (g.W.Target.written c.args.target.now) (g.W.Target.written c.loop-entry.target)
      (g.W.Target.written c.write_line.new.target) all left line others (c.loop-entry.invariant.pushed found is)
      (ap (λ entries. text_of_lines (each_line line_at place entries)) c.in-Some.ensures.steps)
      (c.in_ok-write_line.ensures.bytes line (c.line.ensures found is));
  well = c.in_ok-write_line.ensures.health;
  count = omega (arith, ap length c.in-Some.ensures.steps, c.loop-entry.invariant.count);
}
