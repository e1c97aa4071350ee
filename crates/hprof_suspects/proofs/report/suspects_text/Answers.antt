use Rattle.std.specs.String.{string_bytes}
use Rattle.std.proofs.Common.{◌≡◌, sym, subst}
use Rattle.std.proofs.lemmas.Result.{IfOk-weaker}
use Rattle.hprof_heap.specs.HeapFacts.{facts_of, size_of}
use Rattle.hprof_describe.proofs.OneFinding.{findings_exist}
use Rattle.hprof_suspects.specs.SuspectsText.{IsSuspectsText}
use Rattle.hprof_suspects.specs.Told.{AreTold, report_text}
use Rattle.hprof_suspects.proofs.ToldTexts.{report_is}
use Rattle.hprof_suspects.proofs.report.suspects_text.Goals as goal

pub returns-clause-text : goal.returns-clause-text
returns-clause-text c =
    let ids = size_of c.args.heap.now in
    let facts = facts_of c.args.heap.now in
    let retained = c.args.retained.now in
    let labels = c.in_ok-labels.labels in
    let agree = c.holds_of_heap.ensures.agree in
    let some = findings_exist ids facts agree in
    let told = c.in_ok-told.ensures.told ids facts (record {
      agree = agree;
      tree = c.requires.retained;
      labelled = c.in_ok-labels.ensures.labels;
      alone = c.in_ok-alone.ensures.alone facts agree c.in_ok-labels.ensures.labels (λ place some low labelled. (λ is. is, λ is. is));
    }) in
    IfOk-weaker c.report_text.result
    (λ text. string_bytes text ≡ report_text some.0 retained labels c.in_ok-sum.sum c.deref.result.now)
    (λ text. IsSuspectsText ids facts (string_bytes text))
    (λ text e. subst (IsSuspectsText ids facts) (sym e) (report_is ids facts retained labels some.0 agree some.1 c.in_ok-sum.sum
    c.deref.result.now (record {
      tree = c.requires.retained;
      sum = c.in_ok-sum.ensures.sum;
      are_told = subst (AreTold ids facts retained labels) (sym c.deref.ensures.value) told;
    })))
    (c.report_text.ensures some.0 some.1)
