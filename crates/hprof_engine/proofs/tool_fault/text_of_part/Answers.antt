use Rattle.std.proofs.Common.{string_bytes, rules}
use Rattle.hprof_engine.proofs.FaultTexts.{with_why}
use Rattle.hprof_engine.proofs.tool_fault.text_of_part.Goals as goal

pub returns : goal.returns
returns c = with_why string_bytes c.args.index c.deref.result.now c.text_with.result c.text_with.ensures

pub returns-in_err-why : goal.returns-in_err-why
returns-in_err-why c = search rules
