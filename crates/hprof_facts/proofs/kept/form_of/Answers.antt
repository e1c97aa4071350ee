use Rattle.std.proofs.Common.{subst, ap, sym, ◌∙◌}
use Rattle.hprof_values.specs.declared.ids.IdSize.{IdSize}
use Rattle.hprof_values.specs.Lists.{IsIdList, identifiers_of}
use Rattle.hprof_values.proofs.IdLists.{ids_again}
use Rattle.hprof_items.specs.FactValue.{Trace, ListsHave, value_of}
use Rattle.hprof_items.specs.declared.fact.Fact.{Fact}
use Rattle.hprof_facts.proofs.kept.form_of.Goals as goal

pub returns-in-Trace : goal.returns-in-Trace
returns-in-Trace c = record {
  keeps = λ ids fits lists spelled.
      let frames = identifiers_of c.in-Trace.frames in
      let list = subst (λ (i : IdSize). IsIdList i frames c.bytes.result.now) (subst (λ (f : Fact). ListsHave ids f) c.in-Trace.is lists)
      c.bytes.ensures.spelled in
      let again = ids_again ids frames c.bytes.result.now list in
      (again.0, ap value_of c.in-Trace.is ∙ sym (ap (Trace c.in-Trace.serial c.in-Trace.thread) again.1));
}
