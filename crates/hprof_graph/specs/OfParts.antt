-- What a live heap answers, by the parts that it was given.
use Rattle.std.specs.Prelude.{◌≡◌, ◌≢◌, ◌↔◌, ◌⊎◌, List, None}
use Rattle.std.specs.List.{AllByRecursion}
use Rattle.hprof_values.specs.declared.ids.IdSize.{IdSize}
use Rattle.hprof_items.specs.FactValue.{FactValue}
use Rattle.hprof_rows.specs.declared.key.Key.{Key}
use Rattle.hprof_rows.specs.Conflict.{HasConflict, IsConsistent}
use Rattle.hprof_heap.specs.Gathering.{Given, Gathers, HaveOneSize, all_given, nothing_gathered}
use Rattle.hprof_graph.specs.declared.live.Live.{Live}
use Rattle.hprof_graph.specs.declared.live.Live.TheVariants as lives
use Rattle.hprof_graph.specs.declared.live_heap.LiveHeap.{LiveHeap}
use Rattle.hprof_graph.specs.LiveHeap.{IsAnswer, outcome_of, seen_by}

-- the parts have two sizes of identifiers, or two of their facts have one key and different contents
abbrev pub Disagree : List Given → Type 0
Disagree parts = (HaveOneSize parts None → ⊥) ⊎ ((key : Key) × HasConflict (all_given parts) key)

-- the parts have one size, their facts agree, and it holds of all these facts; where there are no parts, of none under either size
pub record HoldsOf {X : Type 0} (P : IdSize → List FactValue → X → Type 0) (parts : List Given) (answer : X) : Type 0 where
  pub one_size : HaveOneSize parts None
  pub agree : IsConsistent (all_given parts)
  pub holds : (ids : IdSize) → AllByRecursion (λ part. part.header.ids ≡ ids) parts → P ids (all_given parts) answer

-- what is answered of the parts
pub record IsAnswerOf {X : Type 0} (P : IdSize → List FactValue → X → Type 0) (parts : List Given) (answer : Live X) : Type 0 where
  pub no_fault : answer ≢ lives.Failed
  -- in conflict exactly where the parts disagree
  pub in_conflict : (answer ≡ lives.InConflict) ↔ Disagree parts
  pub holds : (this : X) → answer ≡ lives.Is this → HoldsOf P parts this

-- where a live heap was given these parts and nothing else, an answer of the facts so far is one of the parts
abbrev pub AnswersOfParts : {X : Type 0} → (IdSize → List FactValue → X → Type 0) → Type 0
AnswersOfParts {X = X} P = (live : LiveHeap) (parts : List Given) (answer : Live X) → Gathers nothing_gathered parts (seen_by live)
    → IsAnswer P (outcome_of live) answer → IsAnswerOf P parts answer
