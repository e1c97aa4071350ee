-- What stating a fact does to a heap.
use Rattle.std.specs.Prelude.{◌≡◌, ◌≢◌, List, ◌∷◌}
use Rattle.hprof_items.specs.FactValue.{FactValue}
use Rattle.hprof_tables.specs.declared.relation.Stated.{Stated}
use Rattle.hprof_tables.specs.declared.relation.Stated.TheVariants.{New, Same, Differs}
use Rattle.hprof_rows.specs.Key.{HaveOneKey}
use Rattle.hprof_rows.specs.Facts.{Has, SameFacts}
use Rattle.hprof_rows.specs.HeapValue.{HeapValue, IsHeap}

-- a fact at a new key is added: the facts are this one and those that were there, in canonical order
pub record Adds (heap : HeapValue) (fact : FactValue) (new : HeapValue) : Type 0 where
  pub is_new : (other : FactValue) → Has heap.facts other → HaveOneKey other fact → ⊥
  pub absent : Has heap.facts fact → ⊥
  pub ids : new.ids ≡ heap.ids
  pub millis : new.millis ≡ heap.millis
  pub facts : SameFacts new.facts (fact ∷ heap.facts)
  pub is_heap : IsHeap new

-- none of the facts has its key, and it is not one of them
pub record IsNewAmong (facts : List FactValue) (fact : FactValue) : Type 0 where
  pub is_new : (other : FactValue) → Has facts other → HaveOneKey other fact → ⊥
  pub absent : Has facts fact → ⊥

-- another fact than this one is there with its key
pub record HasOther (facts : List FactValue) (fact : FactValue) : Type 0 where
  pub other : FactValue
  pub has_other : Has facts other
  pub one_key : HaveOneKey other fact
  pub differ : other ≢ fact

-- what stating a fact does to a heap: one at a new key is added; nothing changes where it is there, or another one with
-- its key
abbrev pub StatesInto : HeapValue → FactValue → Stated → HeapValue → Type 0
StatesInto heap fact New new = Adds heap fact new
StatesInto heap fact Same new = Has heap.facts fact × (new ≡ heap)
StatesInto heap fact Differs new = HasOther heap.facts fact × (new ≡ heap)
