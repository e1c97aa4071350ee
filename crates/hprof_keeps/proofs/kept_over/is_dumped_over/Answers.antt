use Rattle.std.proofs.Common.{refl}
use Rattle.hprof_heap.specs.HeapFacts.{facts_of, size_of}
use Rattle.hprof_words.proofs.Among.{alone}
use Rattle.hprof_keeps.proofs.NamedNodes.{dumped_in_small}
use Rattle.hprof_keeps.proofs.kept_over.is_dumped_over.Goals as goal

pub returns-in-Ok : goal.returns-in-Ok
returns-in-Ok g c = (
  c.in-Ok.ensures.0,
  λ all make.
      let same = dumped_in_small (size_of c.args.heap.now) _ all (facts_of c.in-Ok.small) (c.in-Ok.ensures.1 all make).facts c.args.id
      (alone _ c.args.id refl) in
      (λ told. same.0 (c.is_dumped.ensures.0 told), λ dumped. c.is_dumped.ensures.1 (same.1 dumped)),
)
