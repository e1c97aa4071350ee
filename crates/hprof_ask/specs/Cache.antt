-- What is kept between reports.
use Rattle.std.specs.Prelude.{List, IfSome}
use Rattle.hprof_values.specs.declared.ids.IdSize.{IdSize}
use Rattle.hprof_items.specs.FactValue.{FactValue}
use Rattle.hprof_reach.specs.Reaching.{IsReach}
use Rattle.hprof_reach.specs.Index.{IsIndexOf}
use Rattle.hprof_retained.specs.Tree.{IsTreeOf}
use Rattle.hprof_retained.specs.Weakly.{AreWeaklyHeld}
use Rattle.hprof_reports.specs.HistogramText.{IsHistogramText}
use Rattle.hprof_reports.specs.ClassesText.{IsClassesText}
use Rattle.hprof_ask.specs.declared.cache.Cache.{Cache}
use Rattle.hprof_ask.specs.Surveys.{AreReferences, IsSurvey}

-- if a search, a survey, what is known of references, what nodes retain, the nodes that only weak references reach, an index or the text of
-- a report are kept, they are those of these facts
pub record IsCacheOf (ids : IdSize) (facts : List FactValue) (cache : Cache) : Type 0 where
  pub reach : IfSome cache.reach (IsReach ids facts)
  pub survey : IfSome cache.survey (IsSurvey ids facts)
  pub references : IfSome cache.references (AreReferences ids facts)
  pub retained : IfSome cache.retained (IsTreeOf ids facts)
  pub weakly : IfSome cache.weakly (AreWeaklyHeld ids facts)
  pub referrers : IfSome cache.referrers (IsIndexOf ids facts)
  pub histogram : IfSome cache.histogram (λ text. IsHistogramText ids facts text.bytes.items)
  pub classes : IfSome cache.classes (λ text. IsClassesText ids facts text.bytes.items)
