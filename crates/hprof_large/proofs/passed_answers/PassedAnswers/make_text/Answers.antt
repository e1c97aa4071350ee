use Rattle.std.proofs.Common.{◌≡◌, ℕ, List, ◌++◌, ap, sym, subst, ◌∙◌}
use Rattle.std.specs.Prelude.{Vec}
use Rattle.std.specs.declared.alloc.Global.{Global}
use Rattle.hprof_values.specs.declared.ids.IdSize.{IdSize}
use Rattle.hprof_stream.specs.declared.summary.PartSummary.{PartSummary}
use Rattle.hprof_heap.specs.HeapFacts.{size_of}
use Rattle.hprof_ask.specs.Report.{IsHeapReport}
use Rattle.hprof_large.proofs.passed_answers.PassedAnswers.make_text.Goals as goal

pub returns-in-Ok-clause-text : goal.returns-in-Ok-clause-text
returns-in-Ok-clause-text g c = λ whole is.
    let self = c.args.self.now in
    let it = c.in-Ok.ensures.ends.1 whole.facts (is.made_up, tt) in
    let same : c.into_inner.result.items ≡ it.0 =
    ap (λ (v : Vec ℕ Global). v.items) c.into_inner.ensures ∙ it.2
    ∙ ap (λ (v : Vec ℕ Global). v.items ++ it.0) c.new-target.ensures.inner
    ∙ ap (λ (l : List ℕ). l ++ it.0) c.new.ensures.items in
    subst (λ (text : List ℕ). IsHeapReport self.summaries.now.items whole.ids whole.facts c.args.report text) (sym same)
    (subst (λ (ids : IdSize). IsHeapReport self.summaries.now.items ids whole.facts c.args.report it.0) (sym is.ids)
    (subst (λ (ss : List PartSummary). IsHeapReport ss (size_of self.heap.now) whole.facts c.args.report it.0) c.deref.ensures.value it.1))
