-- What is made of objects that only weak references reach, as they are picked; no public contract speaks of it.
use Rattle.std.specs.Prelude.{◌≡◌, ◌+◌, ℕ, [], ◌∷◌, ◌++◌}
use Rattle.hprof_values.specs.declared.ids.IdSize.{IdSize}
use Rattle.hprof_items.specs.FactValue.{FactValue}
use Rattle.hprof_heap.specs.Objects.{IsObject}
use Rattle.hprof_histogram.specs.Histogram.{size_of_object}
use Rattle.hprof_retained.specs.declared.weakly_sink.WeaklySink.{WeaklySink}

-- the object stands behind the others, with its bytes
pub record PutsBehind (ids : IdSize) (object : FactValue) (node : ℕ) (old new : WeaklySink) : Type 0 where
  pub nodes : new.nodes.items ≡ old.nodes.items ++ node ∷ []
  pub bytes : new.bytes ≡ old.bytes + size_of_object ids object

abbrev pub TakesWeakly : IdSize → FactValue → WeaklySink → WeaklySink → Type 0
TakesWeakly ids object old new = (node : ℕ) → IsObject node object → PutsBehind ids object node old new
