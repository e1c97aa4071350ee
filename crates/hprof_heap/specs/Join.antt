-- What joining two heaps comes to.
use Rattle.std.specs.Prelude.{◌≡◌, ◌≢◌, ◌++◌, min, List, Result, Ok, Err}
use Rattle.hprof_heap.specs.declared.join_refusal.JoinRefusal.{JoinRefusal}
use Rattle.hprof_heap.specs.declared.join_refusal.JoinRefusal.TheVariants as refusals
use Rattle.hprof_items.specs.FactValue.{FactValue}
use Rattle.hprof_rows.specs.Conflict.{IsConsistent, IsLeastConflict}
use Rattle.hprof_rows.specs.declared.table.Table.{Table}
use Rattle.hprof_rows.specs.Facts.{Has, SameFacts}
use Rattle.hprof_rows.specs.Tables.{facts_of_table}
use Rattle.hprof_rows.specs.HeapValue.{HeapValue, IsHeap}

-- the heap of both: they have one size, which is its size; the earlier time; the facts of both, in canonical order, so that
-- they agree
pub record IsUnion (one other all : HeapValue) : Type 0 where
  pub one_size : one.ids ≡ other.ids
  pub ids : all.ids ≡ one.ids
  pub millis : all.millis ≡ min one.millis other.millis
  pub facts : SameFacts all.facts (one.facts ++ other.facts)
  pub is_heap : IsHeap all

-- a heap between the first and that of both: of the same size and time, with the facts of the first and some of the other
pub record IsBetween (one other new : HeapValue) : Type 0 where
  pub one_size : one.ids ≡ other.ids
  pub agree : IsConsistent (one.facts ++ other.facts)
  pub ids : new.ids ≡ one.ids
  pub millis : new.millis ≡ one.millis
  pub kept : (fact : FactValue) → Has one.facts fact → Has new.facts fact
  pub from_both : (fact : FactValue) → Has new.facts fact → Has (one.facts ++ other.facts) fact
  pub is_heap : IsHeap new

-- the other has a fact that the first has not
abbrev pub LacksFact : HeapValue → HeapValue → Type 0
LacksFact one other = (fact : FactValue) × Has other.facts fact × (Has one.facts fact → ⊥)

-- the other has such a fact in that table
abbrev pub LacksFactIn : Table → HeapValue → HeapValue → Type 0
LacksFactIn table one other = (fact : FactValue) × Has (facts_of_table table other.facts) fact × (Has one.facts fact → ⊥)

-- what two heaps come to: the heap of both, or two sizes, or else the least key with two contents; memory is not wanted
abbrev pub IsJoin : HeapValue → HeapValue → Result HeapValue JoinRefusal → Type 0
IsJoin one other (Ok all) = IsUnion one other all
IsJoin one other (Err refusals.IdSizes) = one.ids ≢ other.ids
IsJoin one other (Err (refusals.Conflict key)) = (one.ids ≡ other.ids) × IsLeastConflict (one.facts ++ other.facts) key
IsJoin one other (Err refusals.OutOfMemory) = ⊥

-- what joining a heap with another leaves: the heap of both; nothing changes where they have two sizes or do not agree; memory
-- is wanted only for a fact of the other that is lacking still
abbrev pub JoinsInto : HeapValue → HeapValue → Result (Unit {0}) JoinRefusal → HeapValue → Type 0
JoinsInto old other (Ok done) new = IsUnion old other new
JoinsInto old other (Err refusals.IdSizes) new = (old.ids ≢ other.ids) × (new ≡ old)
JoinsInto old other (Err (refusals.Conflict key)) new = (old.ids ≡ other.ids) × IsLeastConflict (old.facts ++ other.facts) key × (new ≡ old)
JoinsInto old other (Err refusals.OutOfMemory) new = IsBetween old other new × LacksFact new other

-- ---- table by table

-- a heap of the same size and time, with the facts of the first and these
pub record TakesFacts (old : HeapValue) (more : List FactValue) (new : HeapValue) : Type 0 where
  pub ids : new.ids ≡ old.ids
  pub millis : new.millis ≡ old.millis
  pub facts : SameFacts new.facts (old.facts ++ more)
  pub is_heap : IsHeap new
