-- Canonical dumps and the sets of facts that they are of.
use Rattle.std.proofs.Common.{◌≡◌, ℕ, List, ap, subst}
use Rattle.std.specs.List.{flat_map}
use Rattle.hprof_values.specs.declared.ids.IdSize.{IdSize}
use Rattle.hprof_items.specs.FactValue.{FactValue}
use Rattle.hprof_stream.specs.Part.{IsPart}
use Rattle.hprof_dump.specs.Dump.{canonical_dump}
use Rattle.hprof_rows.specs.Facts.{SameFacts}
use Rattle.hprof_rows.specs.HeapValue.{IsHeap}
use Rattle.hprof_heap.specs.State.{IsState}
use Rattle.hprof_dump.proofs.Dump.{dump_is_part}
use Rattle.hprof_rows.proofs.FactSets.{SameFacts-trans}
use Rattle.hprof_rows.proofs.Order.{one_order}
use Rattle.hprof_engine.specs.Joining.{Agree}
use Rattle.hprof_stream.proofs.Parts.{states_one}

-- equal dumps are of equal heaps
pub same_dumps : (ids other_ids : IdSize) (millis other_millis : ℕ) (rows others : List FactValue)
    → IsHeap (record { ids = ids; millis = millis; facts = rows })
    → IsHeap (record { ids = other_ids; millis = other_millis; facts = others }) → canonical_dump ids millis rows
    ≡ canonical_dump other_ids other_millis others
    → (ids ≡ other_ids) × (millis ≡ other_millis) × (rows ≡ others)
same_dumps ids other_ids millis other_millis rows others heap other e =
    states_one (canonical_dump other_ids other_millis others) ids other_ids millis other_millis rows others
    (subst (λ (b : List ℕ). IsPart b ids millis rows) e (dump_is_part ids millis rows heap))
    (dump_is_part other_ids other_millis others other)

-- what parts state is said of the set of their facts
pub state_of_set : (others : List (List ℕ)) (ids : IdSize) (millis : ℕ) (facts more : List FactValue) → IsState others ids millis more
    → SameFacts facts more → IsState others ids millis facts
state_of_set others ids millis facts more state same = record {
  states = state.states;
  of_parts = state.of_parts;
  each = state.each;
  one_size = state.one_size;
  earliest = state.earliest;
  same = SameFacts-trans facts more (flat_map (λ part. part.facts) state.states) same state.same;
}

-- the dump is of the set
pub dump_of_set : (parts others : List (List ℕ)) (ids : IdSize) (millis : ℕ) (rows more : List FactValue) → Agree parts ids millis rows
    → Agree others ids millis more → SameFacts rows more
    → canonical_dump ids millis rows ≡ canonical_dump ids millis more
dump_of_set parts others ids millis rows more one two same =
    ap (canonical_dump ids millis) (one_order rows more one.ordered two.ordered same)
