-- What is made of a heap once, for reports that people read.
use Rattle.std.specs.Prelude.{◌↔◌, List, IfSome}
use Rattle.hprof_values.specs.declared.ids.IdSize.{IdSize}
use Rattle.hprof_items.specs.FactValue.{FactValue}
use Rattle.hprof_layouts.specs.Known.{Knows}
use Rattle.hprof_edges.specs.declared.edge.Edge.{Edge}
use Rattle.hprof_edges.specs.Edges.{IsEdge}
use Rattle.hprof_edges.specs.LeftOut.{IsKept, IsLeftOut, fields_in}
use Rattle.hprof_naming.specs.ClassNames.{AreClassNames}
use Rattle.hprof_reach.specs.Reaching.{IsReachBy}
use Rattle.hprof_threads.specs.ThreadRoots.{AreThreadRoots}
use Rattle.hprof_weak.specs.Weak.{IsWeak}
use Rattle.hprof_ask.specs.declared.survey.References.{References}
use Rattle.hprof_ask.specs.declared.survey.Survey.{Survey}

-- the survey is of these facts
pub record IsSurvey (ids : IdSize) (facts : List FactValue) (survey : Survey) : Type 0 where
  pub classes : AreClassNames facts survey.classes
  pub threads : AreThreadRoots facts survey.threads

-- what is known of references is of these facts
--   strong: of the search without weak fields, if there is one
pub record AreReferences (ids : IdSize) (facts : List FactValue) (references : References) : Type 0 where
  pub layouts : Knows ids facts references.layouts
  pub weak : (edge : Edge) → IsEdge ids facts edge → IsLeftOut (fields_in references.weak) facts edge ↔ IsWeak facts edge
  pub strong : IfSome references.strong (IsReachBy (IsKept (fields_in references.weak) facts) ids facts)
