use Rattle.std.proofs.Common.{◌≡◌, ◌∙◌, refl, sym, subst, ap, Result}
use Rattle.std.specs.Io.KnownBytes.{append_known}
use Rattle.std.specs.Io.Buffered.{writer_contents, writer_inner}
use Rattle.hprof_engine.specs.declared.tool_fault.ToolFault.{ToolFault}
use Rattle.hprof_engine.specs.Joining.{IsBeforeWriting, fault_of}
use Rattle.hprof_tool.proofs.Making.{none_added, same_stream}
use Rattle.hprof_tool.proofs.program.writing.write_buffered.Goals as goal

pub returns-in-Ok-clause-ok : goal.returns-in-Ok-clause-ok
returns-in-Ok-clause-ok g c =
    let contents = g.W.Write.contents in
    let made = c.write_and_flush-outcome in
    let making = g.P.Made.making c.args.product.now in
    let empty : writer_contents contents c.args.buffered ≡ contents (writer_inner c.args.buffered) =
    ap (append_known (contents (writer_inner c.args.buffered))) c.requires.empty ∙ none_added (contents (writer_inner c.args.buffered)) in
    let flushed = rw c.in-Ok.is at made.ensures.flushed in
    let whole : append_known (contents made.result.writer) made.result.unwritten.items ≡ contents made.result.writer =
    rw (flushed, none_added (contents made.result.writer)) in
    same_stream g.R.Source.left g.R.Source.health g.R.Source.pulls c.args.readers.now made.new.readers making _ _ _ _ _ _ empty whole
    (ap fault_of c.in-Ok.is) made.ensures.makes

pub returns-in-Err-clause-stops : goal.returns-in-Err-clause-stops
returns-in-Err-clause-stops g c =
    let contents = g.W.Write.contents in
    let made = c.write_and_flush-outcome in
    let making = g.P.Made.making c.args.product.now in
    let empty : writer_contents contents c.args.buffered ≡ contents (writer_inner c.args.buffered) =
    ap (append_known (contents (writer_inner c.args.buffered))) c.requires.empty ∙ none_added (contents (writer_inner c.args.buffered)) in
    record {
      fault = c.in-Err.fault;
      is = c.from.ensures;
      unwritten = made.result.unwritten.items;
      makes = same_stream g.R.Source.left g.R.Source.health g.R.Source.pulls c.args.readers.now made.new.readers making _ _ _ _ _ _ empty
          refl (ap fault_of c.in-Err.is) made.ensures.makes;
      untouched = λ none.
          made.ensures.untouched (subst (λ (o : Result (Unit {0}) ToolFault). IsBeforeWriting (fault_of o)) (sym c.in-Err.is) none);
    }
