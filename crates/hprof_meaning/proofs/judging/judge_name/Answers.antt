use Rattle.std.proofs.Common.{sym}
use Rattle.hprof_heap.specs.HeapFacts.{facts_of}
use Rattle.hprof_meaning.proofs.JudgedNames.{judged_more}
use Rattle.hprof_meaning.proofs.judging.judge_name.Goals as goal

pub returns-in-Some : goal.returns-in-Some
returns-in-Some c = λ word meant are. (are c.args.name c.in-Some.is_meant (sym c.in-Some.ensures), are)

pub returns : goal.returns
returns c = λ word meant are.
    let judged = c.in_ok-is_meant.ensures word meant in (
      judged,
      judged_more (facts_of c.args.heap.now) word c.args.judged.now c.insert.new.self c.args.name c.in_ok-is_meant.is_meant
          c.in_ok-insert.ensures.updates.0 judged are,
    )
