-- The report `keeps`: what keeps an object alive, and what it keeps alive itself. Its form is this project's own.
use Rattle.std.specs.Prelude.{◌≡◌, ◌≢◌, ◌⊎◌, ◌==◌, ℕ, List, [], ◌++◌, Some, None, codes, if◌then◌else◌}
use Rattle.std.specs.Fmt.{decimal}
use Rattle.std.specs.List.{flat_map}
use Rattle.hprof_values.specs.declared.ids.IdSize.{IdSize}
use Rattle.hprof_items.specs.FactValue.{FactValue}
use Rattle.hprof_rows.specs.Conflict.{IsConsistent}
use Rattle.hprof_text.specs.Identifier.{id_digits}
use Rattle.hprof_edges.specs.Edges.{AnyEdge}
use Rattle.hprof_reach.specs.Reaching.{IsNode, IsStart, IsStepBy}
use Rattle.hprof_dominators.specs.Dominating as over
use Rattle.hprof_describe.specs.Findings.{AreFindings, Findings}
use Rattle.hprof_describe.specs.Nodes.{node_text}
use Rattle.hprof_retained.specs.Retained.{IsHeld, IsSumOver, IsTotal, Sum}
use Rattle.hprof_retained.specs.Weakly.{IsWeaklyHeld}
use Rattle.hprof_keeps.specs.Order.{AreChildren, AreDominators, AreRetained}

-- ---- what is not reached

-- references of no kind lead there
abbrev pub IsNotReached : IdSize → List FactValue → ℕ → Type 0
IsNotReached ids facts node = ¬ (over.IsReached (IsStart facts) (IsStepBy AnyEdge ids facts) node)

-- ---- lines

-- bytes and objects
abbrev pub sum_words : Sum → List ℕ
sum_words sum = decimal sum.bytes ++ codes " " ++ decimal sum.objects

-- a node with what it retains
unfoldable pub retained_line : Findings → (ℕ → Sum) → ℕ → List ℕ
retained_line found retained node = sum_words (retained node) ++ codes " " ++ node_text found node ++ codes "\n"

abbrev pub above_lines : Findings → (ℕ → Sum) → List ℕ → List ℕ
above_lines found retained nodes = flat_map (retained_line found retained) nodes

-- behind two spaces those right below
abbrev pub child_lines : Findings → (ℕ → Sum) → List ℕ → List ℕ
child_lines found retained nodes = flat_map (λ node. codes "  " ++ retained_line found retained node) nodes

abbrev pub total_line : Sum → List ℕ
total_line total = sum_words total ++ codes " roots\n"

-- no line if nothing is held by weak references alone
abbrev pub weakly_line : Sum → List ℕ
weakly_line sum = if sum.objects == 0 then [] else sum_words sum ++ codes " only by weak references\n"

-- ---- the text

-- of the roots together: the total, what is held by weak references alone, and the nodes that no other dominates
pub record IsRootsText (ids : IdSize) (facts : List FactValue) (found : Findings) (retained : ℕ → Sum) (text : List ℕ) : Type 0 where
  pub total : Sum
  pub is_total : IsTotal ids facts total
  pub weakly : Sum
  pub are_weakly : IsSumOver ids facts (IsWeaklyHeld ids facts) weakly
  pub children : List ℕ
  pub are_children : AreChildren ids facts retained None children
  pub is : text ≡ total_line total ++ weakly_line weakly ++ child_lines found retained children

-- of a node that is held: the total, what dominates it, and what is right below it
pub record IsHeldText (ids : IdSize) (facts : List FactValue) (found : Findings) (retained : ℕ → Sum) (id : ℕ)
    (text : List ℕ) : Type 0 where
  pub held : IsHeld ids facts id
  pub total : Sum
  pub is_total : IsTotal ids facts total
  pub dominators : List ℕ
  pub are_dominators : AreDominators ids facts id dominators
  pub children : List ℕ
  pub are_children : AreChildren ids facts retained (Some id) children
  pub is : text ≡ total_line total ++ above_lines found retained dominators ++ child_lines found retained children

-- of an identifier other than 0
abbrev pub IsNodeText : IdSize → List FactValue → Findings → (ℕ → Sum) → ℕ → List ℕ → Type 0
IsNodeText ids facts found retained id text =
    (¬ (IsNode facts id) × (text ≡ codes "nothing at " ++ id_digits id ++ codes "\n"))
    ⊎ ((IsNode facts id × IsHeldText ids facts found retained id text)
    ⊎ ((IsNode facts id × IsWeaklyHeld ids facts id × (text ≡ codes "only by weak references\n"))
    ⊎ (IsNode facts id × IsNotReached ids facts id × (text ≡ codes "not reached\n"))))

-- the text is the report of these facts, which agree, on an identifier
pub record IsKeepsText (ids : IdSize) (facts : List FactValue) (id : ℕ) (text : List ℕ) : Type 0 where
  pub agree : IsConsistent facts
  pub found : Findings
  pub are_found : AreFindings ids facts found
  pub retained : ℕ → Sum
  pub are_retained : AreRetained ids facts retained
  pub is : ((id ≡ 0) × IsRootsText ids facts found retained text) ⊎ ((id ≢ 0) × IsNodeText ids facts found retained id text)
