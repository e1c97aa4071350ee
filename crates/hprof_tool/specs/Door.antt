-- Words of the contracts of the calls that this crate passes on, for the proofs of its callers.
pub use Rattle.hprof_facts.specs.FactReader.{CanAdvance}
pub use Rattle.hprof_heap.specs.Heap.{heap_of}
pub use Rattle.hprof_engine.specs.Joining.{Agree, Tell}
