-- All parts of a heap, with their pieces.
use Rattle.std.specs.Prelude.{◌≢◌, ℕ, List, Option, AllPairs, Contains}
use Rattle.hprof_values.specs.declared.ids.IdSize.{IdSize}
use Rattle.hprof_items.specs.FactValue.{FactValue}
use Rattle.hprof_retained.specs.Retained.{Sum}
use Rattle.hprof_suspects.specs.Parts.{HasPieces, IsPart}
use Rattle.hprof_suspects.specs.SuspectsText.{Suspect}

-- these are all parts, each once
pub record AreAllParts (ids : IdSize) (facts : List FactValue) (retained : ℕ → Sum) (total : Sum) (parts : List Suspect) : Type 0 where
  pub once : AllPairs (λ one other. one.part ≢ other.part) parts
  pub right : (part : Suspect) → Contains parts part
      → IsPart ids facts retained total part.part × HasPieces ids facts retained total part.part part.pieces
  pub all : (part : Option ℕ) → IsPart ids facts retained total part
      → (pieces : ℕ) × Contains parts (record { part = part; pieces = pieces })
