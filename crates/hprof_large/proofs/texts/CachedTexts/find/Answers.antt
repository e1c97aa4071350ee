use Rattle.std.proofs.Common.{rules, List, sym, subst}
use Rattle.std.specs.List.{Contains}
use Rattle.std.proofs.lemmas.List.Elements.{Contains-get_or}
use denote.Enum.Bare.{same_true}
use Rattle.hprof_questions.specs.contracts.report.HeapReport.{the_type}
use Rattle.hprof_large.specs.declared.texts.CachedText.{CachedText}
use Rattle.hprof_large.proofs.texts.CachedTexts.find.Goals as goal

pub returns-then-eq : goal.returns-then-eq
returns-then-eq c =
    let item = c.text-item.result in
    let all = c.deref-text-items in (
      item,
      subst (λ (texts : List CachedText). Contains texts item) all.ensures.value
          (subst (Contains all.result.now) (sym c.text-item.is)
          (Contains-get_or all.result.now c.loop-text.text-index item c.loop-text-test.true)),
      same_true the_type (search rules) item.report c.args.report (sym c.if-eq.ensures),
      c.deref.ensures.value,
    )
