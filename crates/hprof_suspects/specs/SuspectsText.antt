-- The report `suspects`: where most of the memory is held, and what it falls apart into. Its form is this project's own.
use Rattle.std.specs.Prelude.{◌≡◌, ◌≢◌, ◌⊎◌, ◌≤◌, ◌-◌, ◌*◌, ◌/◌, ℕ, List, [], ◌∷◌, ◌++◌, Option, Some, None, Contains, length, take, drop}
use Rattle.std.specs.Prelude.{codes}
use Rattle.std.specs.Prelude.{if◌then◌else◌, nat_lt}
use Rattle.std.specs.Cmp.Lexicographic.{slice_cmp}
use Rattle.std.specs.Fmt.{decimal}
use Rattle.std.specs.List.{flat_map}
use Rattle.std.specs.List.Sorted.{IsStrictlySortedBy}
use Rattle.std.specs.Ordering.{nat_cmp, ordering_then}
use Rattle.std.specs.declared.cmp.Ordering.{Ordering}
use Rattle.hprof_values.specs.declared.ids.IdSize.{IdSize}
use Rattle.hprof_items.specs.FactValue.{FactValue}
use Rattle.hprof_rows.specs.Conflict.{IsConsistent}
use Rattle.hprof_describe.specs.Findings.{AreFindings, Findings}
use Rattle.hprof_retained.specs.Retained.{IsSumOver, IsTotal, Sum}
use Rattle.hprof_retained.specs.Weakly.{IsWeaklyHeld}
use Rattle.hprof_keeps.specs.KeepsText.{above_lines, total_line, weakly_line}
use Rattle.hprof_keeps.specs.Order.{AreDominators, AreRetained}
use Rattle.hprof_suspects.specs.Parts.{IsPieceSum, IsSuspect, PieceSum}

-- ---- lines

-- a part with the bytes of its pieces, and how many hundredths of all they are
abbrev pub suspect_line : Sum → ℕ → List ℕ
suspect_line total pieces = codes "suspect " ++ decimal (100 * pieces / total.bytes) ++ codes "% " ++ decimal pieces ++ codes "\n"

-- of more than 20 nodes the first 10, the number of those left out, and the last 10
abbrev pub chain_lines : Findings → (ℕ → Sum) → List ℕ → List ℕ
chain_lines found retained nodes = if nat_lt 20 (length nodes)
    then above_lines found retained (take 10 nodes) ++ (codes ".. " ++ decimal (length nodes - 20) ++ codes " more\n"
    ++ above_lines found retained (drop (length nodes - 10) nodes))
    else above_lines found retained nodes

abbrev pub piece_line : PieceSum → List ℕ
piece_line sum = codes "  " ++ decimal sum.bytes ++ codes " " ++ decimal sum.count ++ codes " " ++ sum.label ++ codes "\n"

-- ---- a suspect

-- the part and the nodes above it, from the outermost; none of the roots
abbrev pub IsChain : IdSize → List FactValue → Option ℕ → List ℕ → Type 0
IsChain ids facts None nodes = nodes ≡ []
IsChain ids facts (Some node) nodes = AreDominators ids facts node nodes

-- the most bytes first, then the most nodes, then by label, byte by byte
abbrev pub piece_cmp : PieceSum → PieceSum → Ordering
piece_cmp sum other = ordering_then (nat_cmp other.bytes sum.bytes)
    (ordering_then (nat_cmp other.count sum.count) (slice_cmp nat_cmp sum.label other.label))

-- the sums by label that are a tenth of the pieces at least
pub record ArePieceSums (ids : IdSize) (facts : List FactValue) (retained : ℕ → Sum) (total : Sum) (part : Option ℕ) (pieces : ℕ)
    (sums : List PieceSum) : Type 0 where
  pub ordered : IsStrictlySortedBy piece_cmp sums
  pub right : (sum : PieceSum) → Contains sums sum → IsPieceSum ids facts retained total part sum × (pieces ≤ 10 * sum.bytes)
  pub all : (sum : PieceSum) → IsPieceSum ids facts retained total part sum → pieces ≤ 10 * sum.bytes → Contains sums sum

-- the lines of a part
pub record IsPartText (ids : IdSize) (facts : List FactValue) (found : Findings) (retained : ℕ → Sum) (total : Sum) (part : Option ℕ)
    (pieces : ℕ) (text : List ℕ) : Type 0 where
  pub chain : List ℕ
  pub is_chain : IsChain ids facts part chain
  pub sums : List PieceSum
  pub are_sums : ArePieceSums ids facts retained total part pieces sums
  pub is : text ≡ suspect_line total pieces ++ (chain_lines found retained chain ++ flat_map piece_line sums)

-- ---- all suspects

-- a part and the bytes of its pieces
pub record Suspect : Type 0 where
  pub part : Option ℕ
  pub pieces : ℕ

-- the identifier of a part; 0 of the roots
abbrev pub id_of : Option ℕ → ℕ
id_of None = 0
id_of (Some node) = node

-- the most bytes first, then by identifier
abbrev pub suspect_cmp : Suspect → Suspect → Ordering
suspect_cmp suspect other = ordering_then (nat_cmp other.pieces suspect.pieces) (nat_cmp (id_of suspect.part) (id_of other.part))

pub record AreSuspects (ids : IdSize) (facts : List FactValue) (retained : ℕ → Sum) (total : Sum) (suspects : List Suspect) : Type 0 where
  pub ordered : IsStrictlySortedBy suspect_cmp suspects
  pub right : (suspect : Suspect) → Contains suspects suspect → IsSuspect ids facts retained total suspect.part suspect.pieces
  pub all : (part : Option ℕ) (pieces : ℕ) → IsSuspect ids facts retained total part pieces
      → Contains suspects (record { part = part; pieces = pieces })

-- the texts of the suspects, one behind the other
pub data AreTexts (ids : IdSize) (facts : List FactValue) (found : Findings) (retained : ℕ → Sum) (total : Sum) : List Suspect → List ℕ
    → Type 0 where
  NoMore : AreTexts ids facts found retained total [] []
  OneMore : (suspect : Suspect) (suspects : List Suspect) (text rest : List ℕ)
      → IsPartText ids facts found retained total suspect.part suspect.pieces text → AreTexts ids facts found retained total suspects rest
      → AreTexts ids facts found retained total (suspect ∷ suspects) (text ++ rest)

-- nothing of a heap without bytes
abbrev pub IsSuspectsPart : IdSize → List FactValue → Findings → (ℕ → Sum) → Sum → List ℕ → Type 0
IsSuspectsPart ids facts found retained total text = ((total.bytes ≡ 0) × (text ≡ []))
    ⊎ ((total.bytes ≢ 0) × (suspects : List Suspect) × AreSuspects ids facts retained total suspects
    × AreTexts ids facts found retained total suspects text)

-- the text is the report of these facts, which agree
pub record IsSuspectsText (ids : IdSize) (facts : List FactValue) (text : List ℕ) : Type 0 where
  pub agree : IsConsistent facts
  pub found : Findings
  pub are_found : AreFindings ids facts found
  pub retained : ℕ → Sum
  pub are_retained : AreRetained ids facts retained
  pub total : Sum
  pub is_total : IsTotal ids facts total
  pub weakly : Sum
  pub are_weakly : IsSumOver ids facts (IsWeaklyHeld ids facts) weakly
  pub behind : List ℕ
  pub is_behind : IsSuspectsPart ids facts found retained total behind
  pub is : text ≡ total_line total ++ weakly_line weakly ++ behind
