use Rattle.std.proofs.Common.{◌++◌, refl, subst, Err, Result}
use Rattle.hprof_lines.proofs.TextWriting.{text_stops, text_then}
use Rattle.hprof_lines.specs.Stopping.{WritesText}
use Rattle.hprof_engine.specs.declared.product.ProductFault.{ProductFault}
use Rattle.hprof_ask.specs.HeapAnswers.{behind_reply}
use Rattle.hprof_ask.proofs.answers.write_answer.Goals as goal

pub returns-in-Ok-clause-bytes : goal.returns-in-Ok-clause-bytes
returns-in-Ok-clause-bytes g c =
    let it = c.in-Ok.ensures.bytes in
    let mid = g.W.Target.written c.write_reply.new.target in
    let new = g.W.Target.written c.write_str.new.target in
    let behind = behind_reply c.args.question in (
      it.0 ++ behind,
      record { reply = it.0; is_reply = it.1; is = refl },
      text_then c.write_str.result (g.W.Target.written c.args.target.now) mid new it.0 behind it.2
          (subst (WritesText mid new c.write_str.result) c.behind_reply.ensures c.write_str.ensures.bytes),
    )

pub returns-in-Err-clause-bytes : goal.returns-in-Err-clause-bytes
returns-in-Err-clause-bytes g c =
    let it = c.in-Err.ensures.bytes in
    let r : Result (Unit {0}) ProductFault = Err c.in-Err.stop in
    let behind = behind_reply c.args.question in (
      it.0 ++ behind,
      record { reply = it.0; is_reply = it.1; is = refl },
      text_stops r (g.W.Target.written c.args.target.now) (g.W.Target.written c.write_reply.new.target) c.in-Err.stop it.0 behind refl it.2,
    )
