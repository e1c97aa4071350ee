-- What is derived from facts.
use Rattle.std.specs.Prelude.{◌≡◌, ◌↔◌, ◌⊎◌, ◌-◌, ◌^◌, ℕ, Bool, min, List, ◌∷◌, length, nat_eq, Contains, ⊤}
use Rattle.std.specs.List.{IsDistinct}
use Rattle.hprof_values.specs.declared.ids.IdSize.{IdSize}
use Rattle.hprof_items.specs.declared.fact.Fact.{Fact}
use Rattle.hprof_items.specs.declared.fact.Fact.TheVariants as facts
use Rattle.hprof_items.specs.FactValue.{FactValue, Instance, ObjArray}
use Rattle.hprof_rows.specs.Conflict.{IsConsistent}
use Rattle.hprof_rows.specs.Facts.{Has, SameFacts}
use Rattle.hprof_rows.specs.Stating.{IsNewAmong}
use Rattle.hprof_heap.specs.Objects.{HasInstance}
use Rattle.hprof_layouts.specs.Known.{HasLayout, Knows}
use Rattle.hprof_layouts.specs.WaitingLists.{waiting_for}
use Rattle.hprof_edges.specs.declared.edge.Edge.{Edge}
use Rattle.hprof_edges.specs.Collecting.{is_edge_wanted}
use Rattle.hprof_edges.specs.DumpEdges.{GivenByClass, IsEdgeToClass, IsElementEdge, IsFieldEdge}
use Rattle.hprof_edges.specs.EdgeSet.{SetOf, wanted_in}
use Rattle.hprof_graph.specs.declared.derived.Derived.{Derived}

-- ---- instances

-- it is an instance of the class
abbrev pub IsInstanceOf : List FactValue → ℕ → ℕ → Type 0
IsInstanceOf facts instance class = (bytes : List ℕ) × HasInstance facts instance class bytes

-- it is an instance
abbrev pub IsInstance : List FactValue → ℕ → Type 0
IsInstance facts instance = (class : ℕ) × IsInstanceOf facts instance class

-- it is an instance, and the layout of its class is known
pub record CanBeLaid (facts : List FactValue) (instance : ℕ) : Type 0 where
  pub class : ℕ
  pub is_of : IsInstanceOf facts instance class
  pub layout : HasLayout facts class

-- it is an instance, and the layout of its class is not known
pub record CannotBeLaid (facts : List FactValue) (instance : ℕ) : Type 0 where
  pub class : ℕ
  pub is_of : IsInstanceOf facts instance class
  pub no_layout : ¬ HasLayout facts class

-- ---- a fact more

-- it is neither an instance nor an array of objects
abbrev pub IsOther : Fact → Type 0
IsOther (facts.Instance id trace class bytes) = ⊥
IsOther (facts.ObjArray id trace class elements) = ⊥
IsOther fact = ⊤

-- the facts are these and one more, which is new among them
pub record AddsFact (before : List FactValue) (fact : FactValue) (facts : List FactValue) : Type 0 where
  pub same : SameFacts facts (fact ∷ before)
  pub new : IsNewAmong before fact
  pub agree : IsConsistent facts

-- ---- edges, where some instances are laid

-- the dump of the object gives the edge so far
abbrev pub GivesSoFar : IdSize → List FactValue → List ℕ → FactValue → Edge → Type 0
GivesSoFar ids facts laid (Instance id trace class bytes) edge =
    IsEdgeToClass id class edge ⊎ (Contains laid id × IsFieldEdge ids facts id class bytes edge)
GivesSoFar ids facts laid (ObjArray id trace class elements) edge = IsEdgeToClass id class edge ⊎ IsElementEdge id elements edge
GivesSoFar ids facts laid fact edge = ⊥

-- one of the object dumps gives it so far
pub record GivenSoFar (ids : IdSize) (facts : List FactValue) (laid : List ℕ) (edge : Edge) : Type 0 where
  pub fact : FactValue
  pub has : Has facts fact
  pub gives : GivesSoFar ids facts laid fact edge

-- so do all dumps
abbrev pub IsEdgeSoFar : IdSize → List FactValue → List ℕ → Edge → Type 0
IsEdgeSoFar ids facts laid edge = GivenByClass facts edge ⊎ GivenSoFar ids facts laid edge

-- ---- what is derived

-- which edges are kept
abbrev pub keeps_of : Derived → Edge → Bool
keeps_of derived = is_edge_wanted (wanted_in derived.set)

-- a number that stops at the greatest of 64 bits
abbrev pub stopped : ℕ → ℕ
stopped number = min number (2 ^ 64 - 1)

-- what is derived from the facts while some instances are laid, and some no longer wait
pub record IsDeriving (ids : IdSize) (facts : List FactValue) (derived : Derived) (laid gone : List ℕ) : Type 0 where
  pub agree : IsConsistent facts
  pub knows : Knows ids facts derived.known
  -- the edges that are given so far
  pub given : List Edge
  pub set_of : SetOf derived.set given
  pub given_are : (edge : Edge) → Contains given edge ↔ IsEdgeSoFar ids facts laid edge
  -- the others wait for their class, each once
  pub waits : (class instance : ℕ) → Contains (waiting_for derived.waiting class) instance
      ↔ (IsInstanceOf facts instance class × ¬ Contains gone instance)
  pub waits_once : (class : ℕ) → IsDistinct nat_eq (waiting_for derived.waiting class)
  -- those that are laid can be, and are counted
  pub laid_are : (instance : ℕ) → Contains laid instance → CanBeLaid facts instance
  pub laid_once : IsDistinct nat_eq laid
  pub cuts_are : derived.cuts ≡ stopped (length laid)
  -- all instances are counted
  pub all : List ℕ
  pub all_are : (instance : ℕ) → Contains all instance ↔ IsInstance facts instance
  pub all_once : IsDistinct nat_eq all
  pub instances_are : derived.instances ≡ stopped (length all)

-- these were laid, and those that waited for the classes
pub record HasLaid (ids : IdSize) (facts : List FactValue) (derived : Derived) (before classes : List ℕ) : Type 0 where
  pub laid : List ℕ
  pub deriving_is : IsDeriving ids facts derived laid laid
  pub stays : (instance : ℕ) → Contains before instance → Contains laid instance
  pub woken : (class instance : ℕ) → Contains classes class → IsInstanceOf facts instance class → Contains laid instance

-- what is derived from the facts: all instances are laid whose class has a known layout
pub record IsDerived (ids : IdSize) (facts : List FactValue) (derived : Derived) : Type 0 where
  pub laid : List ℕ
  pub deriving_is : IsDeriving ids facts derived laid laid
  pub whole : (instance : ℕ) → CanBeLaid facts instance → Contains laid instance
