use Rattle.std.proofs.Common.{ap}
use Rattle.std.proofs.lemmas.Result.{err_from_is_err_and}
use Rattle.hprof_devices.proofs.Writes.{Pushed-more}
use Rattle.hprof_lines.proofs.TextWriting.{pushed_stops_within}
use Rattle.hprof_holders.specs.RootsText.{root_text, roots_text}
use Rattle.hprof_holders.proofs.root_lines.write_roots.Goals as goal

pub returns-in_err-write_root-clause-bytes : goal.returns-in_err-write_root-clause-bytes
returns-in_err-write_root-clause-bytes g c = λ found threads are are_threads.
    let r = c.from_residual in
    let p = err_from_is_err_and r.result r.ensures.1 in
    let root = c.in-Some.root.now in
    let after = c.in-Some.after.now in
    let text = roots_text found threads in
    pushed_stops_within r.result p.0 p.1 (g.W.Target.written c.args.target.now) (g.W.Target.written c.loop-root.target)
    (text c.args.roots.now) (text c.loop-root.rest.now) (c.loop-root.invariant.pushed found threads are are_threads)
    (g.W.Target.written c.write_root.new.target) (root_text found threads root) (text after) (ap text c.in-Some.ensures.cases.0)
    (c.in_err-write_root.ensures.bytes found threads are are_threads)

pub loop-root-preserved : goal.loop-root-preserved
loop-root-preserved g c = record {
  pushed = λ found threads are are_threads.
      let root = c.in-Some.root.now in
      let after = c.in-Some.after.now in
      let text = roots_text found threads in
      Pushed-more (g.W.Target.written c.args.target.now) (g.W.Target.written c.loop-root.target)
      (g.W.Target.written c.write_root.new.target) (text c.args.roots.now) (text c.loop-root.rest.now) (root_text found threads root)
      (text after) (c.loop-root.invariant.pushed found threads are are_threads) (ap text c.in-Some.ensures.cases.0)
      (c.in_ok-write_root.ensures.bytes found threads are are_threads);
  well = c.in_ok-write_root.ensures.health;
}
