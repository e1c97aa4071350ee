-- What stating a fact does to facts in order, and so to a heap.
use Rattle.std.proofs.Common.{◌≡◌, ℕ, List, find, None, Result, Ok, Err, sym, ap, subst}
use Rattle.std.specs.Prelude.{IfOk, OnErr}
use Rattle.hprof_values.specs.declared.ids.IdSize.{IdSize}
use Rattle.hprof_items.specs.FactValue.{FactValue}
use Rattle.hprof_items.specs.Spelling.{Fits}
use Rattle.hprof_tables.specs.declared.relation.Stated.{Stated}
use Rattle.hprof_tables.specs.declared.relation.Stated.TheVariants.{New, Same, Differs}
use Rattle.hprof_rows.specs.HeapValue.{HeapValue, IsHeap}
use Rattle.hprof_rows.specs.Facts.{Has}
use Rattle.hprof_rows.specs.Stating.{Adds, HasOther, StatesInto}
use Rattle.hprof_rows.proofs.Keys.{same_place}
use Rattle.hprof_rows.proofs.Inserting.{inserted, inserted-adds, states-sound}

-- one of a new key is put in its place; nothing changes where it is there, or another one with its key
abbrev pub StatesAmong : List FactValue → FactValue → Stated → List FactValue → Type 0
StatesAmong old fact New new = (find (same_place fact) old ≡ None) × (new ≡ inserted old fact)
StatesAmong old fact Same new = Has old fact × (new ≡ old)
StatesAmong old fact Differs new = HasOther old fact × (new ≡ old)

-- a heap of that size and time
abbrev pub with_facts : IdSize → ℕ → List FactValue → HeapValue
with_facts ids millis facts = record { ids = ids; millis = millis; facts = facts }

-- what stating a fact that fits does to the facts it does to the heap
pub among_states : (ids : IdSize) (millis : ℕ) (old new : List FactValue) (fact : FactValue) (stated : Stated)
    → StatesAmong old fact stated new → Fits ids fact → IsHeap (with_facts ids millis old)
    → StatesInto (with_facts ids millis old) fact stated (with_facts ids millis new)
among_states ids millis old new fact New s fits sound =
    subst (λ (facts : List FactValue). Adds (with_facts ids millis old) fact (with_facts ids millis facts)) (sym s.1)
    (inserted-adds (with_facts ids millis old) fact s.0 fits sound)
among_states ids millis old new fact Same s fits sound = (s.0, ap (with_facts ids millis) s.1)
among_states ids millis old new fact Differs s fits sound = (s.0, ap (with_facts ids millis) s.1)

-- the same where memory may have been refused
pub tried_among : {E : Type 0} (r : Result Stated E) (ids : IdSize) (millis : ℕ) (old new : List FactValue) (fact : FactValue)
    → IfOk r (λ stated. StatesAmong old fact stated new) → Fits ids fact
    → IsHeap (with_facts ids millis old) → IfOk r (λ stated. StatesInto (with_facts ids millis old) fact stated (with_facts ids millis new))
tried_among (Ok stated) ids millis old new fact ok fits sound = among_states ids millis old new fact stated ok fits sound
tried_among (Err e) ids millis old new fact ok fits sound = tt

-- and what every heap keeps is kept
pub tried_among-sound : {E : Type 0} (r : Result Stated E) (ids : IdSize) (millis : ℕ) (old new : List FactValue) (fact : FactValue)
    → IfOk r (λ stated. StatesAmong old fact stated new)
    → OnErr r (new ≡ old) → Fits ids fact → IsHeap (with_facts ids millis old) → IsHeap (with_facts ids millis new)
tried_among-sound (Ok stated) ids millis old new fact ok err fits sound =
    states-sound (with_facts ids millis old) (with_facts ids millis new) fact stated
    (among_states ids millis old new fact stated ok fits sound) sound
tried_among-sound (Err e) ids millis old new fact ok err fits sound =
    subst (λ (facts : List FactValue). IsHeap (with_facts ids millis facts)) (sym err) sound
