-- Parts of a heap: where memory that comes down through few nodes falls apart into many. The rules are this project's own.
use Rattle.std.specs.Prelude.{◌≡◌, ◌≢◌, ◌≤◌, ◌+◌, ◌*◌, ◌↔◌, ◌⊎◌, ℕ, List, Option, Some, None, length}
use Rattle.std.specs.List.{sum_by}
use Rattle.hprof_values.specs.declared.ids.IdSize.{IdSize}
use Rattle.hprof_items.specs.FactValue.{FactValue}
use Rattle.hprof_dominators.specs.Retained.{IsOnce}
use Rattle.hprof_dominators.specs.Walks.{IsOn}
use Rattle.hprof_retained.specs.Retained.{Sum}
use Rattle.hprof_by_label.specs.NodeLabel.{IsNodeLabel}
use Rattle.hprof_suspects.specs.Groups.{HaveOneLabel, IsBelow, IsClassAlone}

-- a label, and what the nodes with it are that are right below a part and no parts: the bytes that they retain, and their number
pub record PieceSum : Type 0 where
  pub label : List ℕ
  pub bytes : ℕ
  pub count : ℕ

-- retained: what each node that is held retains; total: what the roots hold together
module _ (ids : IdSize) (facts : List FactValue) (retained : ℕ → Sum) (total : Sum) where
  -- it retains a tenth of all at least
  abbrev pub IsLarge : ℕ → Type 0
  IsLarge node = total.bytes ≤ 10 * (retained node).bytes

  -- it is the only large one with its label right below that
  abbrev pub IsOnlyLarge : Option ℕ → ℕ → Type 0
  IsOnlyLarge above node =
      (other : ℕ) → IsBelow ids facts above other → IsLarge other → HaveOneLabel facts other node → other ≡ node

  -- large ones with one label are pieces, but for class dumps alone and for what is right below the roots
  abbrev pub IsSingled : Option ℕ → ℕ → Type 0
  IsSingled above node = IsClassAlone facts node ⊎ ((above ≡ None) ⊎ IsOnlyLarge above node)

  -- the roots together are a part, and so is a large node right below a part that is singled out
  pub data IsPart : Option ℕ → Type 0 where
    Roots : IsPart None
    Large : (above : Option ℕ) (node : ℕ) → IsPart above → IsBelow ids facts above node → IsLarge node → IsSingled above node
        → IsPart (Some node)

  -- ---- pieces

  -- all nodes of which that holds retain so many bytes together, and are so many
  pub record AddUp (Holds : ℕ → Type 0) (bytes count : ℕ) : Type 0 where
    pub nodes : List ℕ
    pub once : IsOnce nodes
    pub exact : (node : ℕ) → IsOn node nodes ↔ Holds node
    pub bytes_are : bytes ≡ sum_by (λ node. (retained node).bytes) nodes
    pub count_is : count ≡ length nodes

  -- what a part retains
  abbrev pub bytes_of : Option ℕ → ℕ
  bytes_of None = total.bytes
  bytes_of (Some node) = (retained node).bytes

  -- that less what the parts right below it retain
  pub record HasPieces (part : Option ℕ) (pieces : ℕ) : Type 0 where
    pub below : ℕ
    pub count : ℕ
    pub are_below : AddUp (λ node. IsBelow ids facts part node × IsPart (Some node)) below count
    pub is : pieces + below ≡ bytes_of part

  -- ---- suspects

  -- a part whose pieces are a tenth of all at least
  pub record IsSuspect (part : Option ℕ) (pieces : ℕ) : Type 0 where
    pub is_part : IsPart part
    pub has_pieces : HasPieces part pieces
    pub enough : total.bytes ≤ 10 * pieces

  abbrev pub IsPiece : Option ℕ → List ℕ → ℕ → Type 0
  IsPiece part label node = IsBelow ids facts part node × ¬ (IsPart (Some node)) × IsNodeLabel facts node label

  pub record IsPieceSum (part : Option ℕ) (sum : PieceSum) : Type 0 where
    pub some : sum.count ≢ 0
    pub add_up : AddUp (IsPiece part sum.label) sum.bytes sum.count
