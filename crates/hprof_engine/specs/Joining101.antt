-- What joining parts into a 1.0.1 dump makes of them.
use Rattle.std.specs.Prelude.{◌≡◌, ℕ, ◌≤◌, List}
use Rattle.hprof_items.specs.Spelling.{longest_body}
use Rattle.hprof_stream.specs.declared.summary.PartSummary.{PartSummary}
use Rattle.hprof_rows.specs.HeapValue.{HeapValue}
use Rattle.hprof_engine.specs.declared.heap_fault.HeapFault.{HeapFault}
use Rattle.hprof_engine.specs.declared.heap_fault.HeapFault.TheVariants as products
use Rattle.hprof_engine.specs.Makes.{Making, making_of}
use Rattle.hprof_dump.specs.Dump101.{dump101, sub_len, IsTooLong}

-- the text is the 1.0.1 dump of the heap that the parts state, and its sub-records are no longer than a record's body may be
abbrev pub IsDump101Text : List PartSummary → HeapValue → List ℕ → Type 0
IsDump101Text summaries heap text =
    (sub_len heap.ids heap.facts ≤ longest_body) × (text ≡ dump101 heap.ids heap.millis heap.facts)

-- the heap's sub-records are longer than that
abbrev pub Refuses101 : HeapFault → HeapValue → Type 0
Refuses101 products.DumpTooLong heap = IsTooLong longest_body heap.ids heap.facts
Refuses101 products.NoClass heap = ⊥

-- the 1.0.1 dump, which is refused where it is too long, and takes no memory beside that for reading
abbrev pub dump101_making : Making
dump101_making = making_of IsDump101Text Refuses101 (λ parts. ⊥) ⊥
