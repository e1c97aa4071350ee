-- The texts of reports that are kept between questions.
use Rattle.std.specs.Prelude.{List, All}
use Rattle.hprof_values.specs.declared.ids.IdSize.{IdSize}
use Rattle.hprof_items.specs.FactValue.{FactValue}
use Rattle.hprof_stream.specs.declared.summary.PartSummary.{PartSummary}
use Rattle.hprof_ask.specs.Report.{IsHeapReport}
use Rattle.hprof_large.specs.declared.texts.CachedTexts.{CachedTexts}

-- each is the report on parts with these summaries, and on a heap of these facts
abbrev pub AreReports : List PartSummary → IdSize → List FactValue → CachedTexts → Type 0
AreReports summaries ids facts kept = All (λ text. IsHeapReport summaries ids facts text.report text.bytes.items) kept.texts.items
