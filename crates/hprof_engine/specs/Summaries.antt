-- The summaries of parts.
use Rattle.std.specs.Prelude.{ℕ, List, [], ◌∷◌, take, map, Option, Some, None, ⊤}
use Rattle.hprof_stream.specs.declared.summary.PartSummary.{PartSummary}
use Rattle.hprof_stream.specs.Part.{IsSummary}

-- each part has its summary
abbrev pub AreSummaries : List (List ℕ) → List PartSummary → Type 0
AreSummaries [] [] = ⊤
AreSummaries (bytes ∷ parts) (summary ∷ summaries) = IsSummary bytes summary × AreSummaries parts summaries
AreSummaries [] (summary ∷ summaries) = ⊥
AreSummaries (bytes ∷ parts) [] = ⊥

-- what a reader had to tell, if it told, has this summary
abbrev pub IsSummarised : Option (List ℕ) → PartSummary → Type 0
IsSummarised None summary = ⊤
IsSummarised (Some bytes) summary = IsSummary bytes summary

abbrev pub AreSummarised : List (Option (List ℕ)) → List PartSummary → Type 0
AreSummarised [] [] = ⊤
AreSummarised (left ∷ lefts) (summary ∷ summaries) = IsSummarised left summary × AreSummarised lefts summaries
AreSummarised [] (summary ∷ summaries) = ⊥
AreSummarised (left ∷ lefts) [] = ⊥

-- so many readers were read to their ends, and the summaries of what they told are those that are held
pub record HoldsFirst {R S : Type 0} (left : R → Option (List ℕ)) (holds : S → List PartSummary → Type 0) (readers : List R) (count : ℕ)
    (kept : S) : Type 0 where
  pub summaries : List PartSummary
  pub of_readers : AreSummarised (map left (take count readers)) summaries
  pub held : holds kept summaries
