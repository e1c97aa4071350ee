-- A path of many like steps is folded. The rule is this project's own.
use Rattle.std.specs.Prelude.{◌≡◌, ◌≤◌, ℕ, ◌+◌, ◌&&◌, Bool, List, [], ◌∷◌, ◌++◌, length, bytes_eq, codes, if◌then◌else◌}
use Rattle.std.specs.Fmt.{decimal}

-- a step and the node that it leads to: in words, and of which kinds they are
pub record Link : Type 0 where
  pub step : List ℕ
  pub step_kind : List ℕ
  pub node : List ℕ
  pub node_kind : List ℕ

-- a part of a path: one link, or a stretch of which the links between the first step and the last node are left out
pub data Part : Type 0 where
  One : (link : Link) → Part
  Stretch : (first : Link) → (between : List Link) → (last : Link) → Part

-- the links of a part
abbrev pub links_of : Part → List Link
links_of (One link) = link ∷ []
links_of (Stretch first between last) = first ∷ between ++ last ∷ []

-- ---- stretches

-- the link is of that kind, and leads to a node of that kind
abbrev pub is_alike : (step_kind node_kind : List ℕ) → Link → Bool
is_alike step_kind node_kind link = bytes_eq step_kind link.step_kind && bytes_eq node_kind link.node_kind

-- how many links at the front are alike
unfoldable pub alike_at_front : (step_kind node_kind : List ℕ) → List Link → ℕ
alike_at_front step_kind node_kind [] = 0
alike_at_front step_kind node_kind (link ∷ links) =
    if is_alike step_kind node_kind link then alike_at_front step_kind node_kind links + 1 else 0

-- the kind of the node that the links lead to
abbrev pub kind_behind : List ℕ → List Link → List ℕ
kind_behind kind [] = kind
kind_behind kind (link ∷ links) = kind_behind link.node_kind links

-- the length of the longest run at the front of steps of one kind, through nodes of that kind
abbrev pub run_at_front : List ℕ → List Link → ℕ
run_at_front kind [] = 0
run_at_front kind (link ∷ links) = alike_at_front link.step_kind kind (link ∷ links)

-- ---- the parts of a path

-- a part at the front of a path from a node of that kind: the longest run, if it has at least 4 steps, and else one link
abbrev pub IsFront : List ℕ → List Link → Part → Type 0
IsFront kind links (One link) = (run_at_front kind links ≤ 3)
IsFront kind links (Stretch first between last) = (4 ≤ run_at_front kind links) × (length between + 2 ≡ run_at_front kind links)

-- the parts of a path from a node of that kind, one behind the other
pub data AreParts : List ℕ → List Link → List Part → Type 0 where
  NoPart : (kind : List ℕ) → AreParts kind [] []
  OnePart : (kind : List ℕ) (part : Part) (rest : List Link) (parts : List Part) → IsFront kind (links_of part ++ rest) part
      → AreParts (kind_behind kind (links_of part)) rest parts → AreParts kind (links_of part ++ rest) (part ∷ parts)

-- ---- in print

abbrev pub step_line : Link → List ℕ
step_line link = codes "  " ++ link.step ++ codes "\n"

abbrev pub node_line : Link → List ℕ
node_line link = link.node ++ codes "\n"

-- a link; of a stretch the first step, how many nodes are left out, and the last node
abbrev pub part_text : Part → List ℕ
part_text (One link) = step_line link ++ node_line link
part_text (Stretch first between last) =
    step_line first ++ codes ".. " ++ decimal (length between + 1) ++ codes " more\n" ++ node_line last
