use Rattle.std.proofs.Common.{ap, List, ℕ, map}
use Rattle.std.specs.List.{flat_map}
use Rattle.std.proofs.lemmas.Result.{err_from_is_err_and}
use Rattle.hprof_devices.proofs.Writes.{Pushed-more}
use Rattle.hprof_lines.proofs.TextWriting.{pushed_stops_within}
use Rattle.hprof_holders.specs.declared.sums.Sum.{Sum}
use Rattle.hprof_holders.specs.SumCounts.{sum_value}
use Rattle.hprof_holders.specs.WhoText.{sum_line}
use Rattle.hprof_holders.proofs.who_report.write_sums.Goals as goal

abbrev text : List Sum → List ℕ
text sums = flat_map sum_line (map sum_value sums)

pub returns-in_err-write_line-clause-bytes : goal.returns-in_err-write_line-clause-bytes
returns-in_err-write_line-clause-bytes g c =
    let r = c.from_residual in
    let p = err_from_is_err_and r.result r.ensures.1 in
    let line = sum_line (sum_value c.in-Some.sum.now) in
    let after = c.in-Some.after.now in
    pushed_stops_within r.result p.0 p.1 (g.W.Target.written c.args.target.now) (g.W.Target.written c.loop-sum.target)
    (text c.args.sums.now) (text c.loop-sum.rest.now) c.loop-sum.invariant.pushed
    (g.W.Target.written c.write_line.new.target) line (text after) (ap text c.in-Some.ensures.cases.0)
    (c.in_err-write_line.ensures.bytes line c.sum_line.ensures)

pub loop-sum-preserved : goal.loop-sum-preserved
loop-sum-preserved g c = record {
  pushed =
      let line = sum_line (sum_value c.in-Some.sum.now) in
      let after = c.in-Some.after.now in
      Pushed-more (g.W.Target.written c.args.target.now) (g.W.Target.written c.loop-sum.target)
      (g.W.Target.written c.write_line.new.target) (text c.args.sums.now) (text c.loop-sum.rest.now) line (text after)
      c.loop-sum.invariant.pushed (ap text c.in-Some.ensures.cases.0)
      (c.in_ok-write_line.ensures.bytes line c.sum_line.ensures);
  well = c.in_ok-write_line.ensures.health;
}
