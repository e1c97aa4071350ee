-- Groups of nodes: a node, those right below it with its label, those right below these, and so on, as the cells of a list. The rule is
-- this project's own.
use Rattle.std.specs.Prelude.{ℕ, List, Option, Some, None}
use Rattle.hprof_values.specs.declared.ids.IdSize.{IdSize}
use Rattle.hprof_items.specs.FactValue.{FactValue}
use Rattle.hprof_heap.specs.Found.{IsObjectFound}
use Rattle.hprof_retained.specs.Retained.{HasParent, IsHeld}
use Rattle.hprof_by_label.specs.NodeLabel.{IsNodeLabel}

-- of a node that has a dump: it has no object dump, and so a class dump
abbrev pub IsClassAlone : List FactValue → ℕ → Type 0
IsClassAlone facts node = IsObjectFound facts node None

-- both have one label
abbrev pub HaveOneLabel : List FactValue → ℕ → ℕ → Type 0
HaveOneLabel facts one other = (label : List ℕ) × IsNodeLabel facts one label × IsNodeLabel facts other label

-- the node is of the group of its parent: both have one label, and neither is a class dump alone
pub record Joins (ids : IdSize) (facts : List FactValue) (node parent : ℕ) : Type 0 where
  pub below : HasParent ids facts node (Some parent)
  pub alike : HaveOneLabel facts node parent
  pub object : ¬ (IsClassAlone facts node)
  pub of_object : ¬ (IsClassAlone facts parent)

-- the topmost node of a group, which stands for it
pub record IsHead (ids : IdSize) (facts : List FactValue) (node : ℕ) : Type 0 where
  pub held : IsHeld ids facts node
  pub topmost : (parent : ℕ) → ¬ (Joins ids facts node parent)

-- the head of a node's group
pub data HasHead (ids : IdSize) (facts : List FactValue) : ℕ → ℕ → Type 0 where
  Itself : (node : ℕ) → IsHead ids facts node → HasHead ids facts node node
  Above : (node parent head : ℕ) → Joins ids facts node parent → HasHead ids facts parent head → HasHead ids facts node head

-- what a group has right below it, or the roots, if it is none: children of its nodes that are in other groups, each of which heads its own
abbrev pub IsBelow : IdSize → List FactValue → Option ℕ → ℕ → Type 0
IsBelow ids facts None node = IsHead ids facts node × HasParent ids facts node None
IsBelow ids facts (Some head) node =
    IsHead ids facts node × ((parent : ℕ) × HasParent ids facts node (Some parent) × HasHead ids facts parent head)
