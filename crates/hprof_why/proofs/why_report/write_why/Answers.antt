use Rattle.std.proofs.Common.{◌≡◌, false, true, sym, subst}
use Rattle.std.proofs.lemmas.Result.{err_from_is_err_and}
use Rattle.hprof_heap.specs.HeapFacts.{facts_of, size_of}
use Rattle.hprof_lines.proofs.TextWriting.{text_unwritten}
use Rattle.hprof_reach.specs.Reaching.{IsDumped}
use Rattle.hprof_why.specs.Paths.{IsReached}
use Rattle.hprof_why.proofs.Reaching.{why_told}
use Rattle.hprof_why.proofs.SomeText.{found_exist, why_exists}
use Rattle.hprof_why.proofs.why_report.write_why.Goals as goal
use Rattle.hprof_why.proofs.why_report.write_why.Goals.{then-is_dumped+in_ok-reached, else-is_dumped}

-- memory was wanted before the first line
pub returns-in_err-reached-clause-bytes : goal.returns-in_err-reached-clause-bytes
returns-in_err-reached-clause-bytes g c =
    let it = why_exists (size_of c.args.view.heap.now) (facts_of c.args.view.heap.now) c.holds_of_heap.ensures.agree c.args.id in
    let r = c.from_residual in
    let p = err_from_is_err_and r.result r.ensures.1 in
    (it.0, it.1, text_unwritten r.result (g.W.Target.written c.args.target.now) p.0 it.0 p.1)

pub returns-clause-bytes : goal.returns-clause-bytes
returns-clause-bytes g c =
    let ids = size_of c.args.view.heap.now in
    let facts = facts_of c.args.view.heap.now in
    let agree = c.holds_of_heap.ensures.agree in
    let id = c.args.id in
    let how = c.if-is_dumped.reached in
    let is : IsDumped facts id → IsReached ids facts id how = λ dumped. elim c.if-is_dumped.branch [
      | then-is_dumped+in_ok-reached w ↦ subst (IsReached ids facts id) (sym w.reached-is) w.in_ok-reached.ensures.reached
      | else-is_dumped w ↦
          let told : c.is_dumped.result ≡ true = c.is_dumped.ensures.1 dumped in
          let not : c.is_dumped.result ≡ false = w.if-is_dumped.false in
          absurd cc
    ] in
    let found = found_exist ids facts agree in
    let told = why_told ids facts agree found.0 found.1 id how is in
    (told.0, told.2, c.write_told.ensures.bytes found.0 told.0 found.1 told.1)
