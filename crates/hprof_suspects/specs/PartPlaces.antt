-- Parts of a heap, by places; no public contract speaks of them.
use Rattle.std.specs.Prelude.{◌≡◌, ◌≢◌, ◌<◌, ◌≤◌, ◌*◌, ◌↔◌, ◌⊎◌, ℕ, Bool, false, List, Option, Some, None, IsTrue, length}
use Rattle.std.proofs.Common.{get_or}
use Rattle.std.specs.BTreeMap.{BTreeMap, get}
use Rattle.std.specs.declared.cmp.Ordering.{Ordering}
use Rattle.hprof_values.specs.declared.ids.IdSize.{IdSize}
use Rattle.hprof_items.specs.FactValue.{FactValue}
use Rattle.hprof_keeps.specs.Order.{node_of, retained_in}
use Rattle.hprof_retained.specs.Tree.{count_of, node_at, sum_at, total_of}
use Rattle.hprof_retained.specs.declared.retained.Retained.{Retained}
use Rattle.hprof_by_label.specs.Labels.{label_at}
use Rattle.hprof_by_label.specs.declared.node_labels.NodeLabels.{NodeLabels}
use Rattle.hprof_suspects.specs.Groups.{IsClassAlone}
use Rattle.hprof_suspects.specs.Heads.{head_in, up}
use Rattle.hprof_suspects.specs.Parts.{IsPart}
use Rattle.hprof_suspects.specs.declared.only.GroupLabel.{GroupLabel}
use Rattle.hprof_suspects.specs.contracts.only.GroupLabelOrd.TheImpl as group_label_ord

-- the place of the group that a place is right below; 0 right below the roots
abbrev pub over_in : Retained → List ℕ → ℕ → ℕ
over_in retained heads place = head_in heads (up retained place)

-- a head that retains a tenth of all at least
abbrev pub IsLargeHead : Retained → List ℕ → ℕ → Type 0
IsLargeHead retained heads place = (head_in heads place ≡ place) × ((sum_at retained 0).bytes ≤ 10 * (sum_at retained place).bytes)

-- ---- large heads with one label right below one group

-- the group that a place is right below, and its label
abbrev pub key_in : Retained → NodeLabels → List ℕ → ℕ → GroupLabel
key_in retained labels heads place = record { group = over_in retained heads place; label = label_at labels place }

-- the order of those: by group, then by label
abbrev pub key_cmp : GroupLabel → GroupLabel → Ordering
key_cmp = (group_label_ord.ghosts).cmp

-- a large head before a bound that has the key
pub record IsLargeWith (retained : Retained) (labels : NodeLabels) (heads : List ℕ) (key : GroupLabel) (done place : ℕ) : Type 0 where
  pub some : 0 < place
  pub before : place < done
  pub large : IsLargeHead retained heads place
  pub key_is : key_in retained labels heads place ≡ key

-- no place has it; or it is that of the only one; or it is 0, and two have it
abbrev pub IsOnlyOf : (ℕ → Type 0) → Option ℕ → Type 0
IsOnlyOf Has None = (place : ℕ) → ¬ (Has place)
IsOnlyOf Has (Some only) = (Has only × ((place : ℕ) → Has place → place ≡ only))
    ⊎ ((only ≡ 0) × ((one : ℕ) × (other : ℕ) × Has one × Has other × (one ≢ other)))

-- of each key the place of the only large head before a bound that has it, or 0 if several do
abbrev pub AreOnlyTo : Retained → NodeLabels → List ℕ → BTreeMap GroupLabel ℕ → ℕ → Type 0
AreOnlyTo retained labels heads only done =
    (key : GroupLabel) → IsOnlyOf (IsLargeWith retained labels heads key done) (get key_cmp only key)

-- what is kept of a key if one more large head has it
abbrev pub noted : Option ℕ → ℕ → ℕ
noted None place = place
noted (Some other) place = 0

-- ---- parts

abbrev pub IsSingledAt : List FactValue → Retained → NodeLabels → List ℕ → BTreeMap GroupLabel ℕ → ℕ → Type 0
IsSingledAt facts retained labels heads only place = (over_in retained heads place ≡ 0)
    ⊎ ((get key_cmp only (key_in retained labels heads place) ≡ Some place) ⊎ IsClassAlone facts (node_at retained place))

-- the place is marked
abbrev pub IsMarked : List Bool → ℕ → Type 0
IsMarked marks place = IsTrue (get_or marks place false)

-- a large head right below a marked place that is singled out
pub record IsPartBy (facts : List FactValue) (retained : Retained) (labels : NodeLabels) (heads : List ℕ) (only : BTreeMap GroupLabel ℕ)
    (parts : List Bool) (place : ℕ) : Type 0 where
  pub large : IsLargeHead retained heads place
  pub above : IsMarked parts (over_in retained heads place)
  pub singled : IsSingledAt facts retained labels heads only place

-- the node at a place is a part; the roots together at place 0
abbrev pub IsPartAt : IdSize → List FactValue → Retained → ℕ → Type 0
IsPartAt ids facts retained place = IsPart ids facts (retained_in retained) (total_of retained) (node_of retained place)

-- the places of parts are marked
pub record AreParts (ids : IdSize) (facts : List FactValue) (retained : Retained) (parts : List Bool) : Type 0 where
  pub as_many : length parts ≡ count_of retained
  pub exact : (place : ℕ) → place < count_of retained → IsMarked parts place ↔ IsPartAt ids facts retained place
