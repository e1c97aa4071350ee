use Rattle.std.proofs.lemmas.Result.{err_from_is_err_and}
use Rattle.hprof_heap.specs.HeapFacts.{facts_of, size_of}
use Rattle.hprof_describe.proofs.OneFinding.{findings_exist}
use Rattle.hprof_lines.proofs.TextWriting.{text_unwritten}
use Rattle.hprof_keeps.specs.Kept.{kept_text}
use Rattle.hprof_keeps.proofs.SomeKeeps.{keeps_exists}
use Rattle.hprof_keeps.proofs.Texts.{keeps_told}
use Rattle.hprof_keeps.proofs.keeps.write_keeps.Goals as goal

-- memory was wanted before the first line
pub returns-in_err-kept-clause-bytes : goal.returns-in_err-kept-clause-bytes
returns-in_err-kept-clause-bytes g c =
    let some = keeps_exists (size_of c.args.heap.now) (facts_of c.args.heap.now) c.holds_of_heap.ensures.agree c.args.id in
    let r = c.from_residual in
    let p = err_from_is_err_and r.result r.ensures.1 in
    (some.0, some.1, text_unwritten r.result (g.W.Target.written c.args.target.now) p.0 some.0 p.1)

pub returns-clause-bytes : goal.returns-clause-bytes
returns-clause-bytes g c =
    let ids = size_of c.args.heap.now in
    let facts = facts_of c.args.heap.now in
    let agree = c.holds_of_heap.ensures.agree in
    let found = findings_exist ids facts agree in
    let retained = c.args.retained.now in
    let told = c.in_ok-kept.kept in (
      kept_text found.0 retained c.args.id told,
      keeps_told ids facts agree found.0 found.1 retained c.requires.retained c.args.id told c.in_ok-kept.ensures.kept,
      c.write_kept.ensures.bytes found.0 found.1,
    )
