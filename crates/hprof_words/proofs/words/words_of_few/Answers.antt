use Rattle.hprof_heap.specs.Heap.{heap_of}
use Rattle.hprof_heap.specs.HeapFacts.{size_of}
use Rattle.hprof_words.proofs.WordsHeaps.{words_heap_of}
use Rattle.hprof_words.proofs.words.words_of_few.Goals as goal

pub returns-in-Ok-few_next : goal.returns-in-Ok-few_next
returns-in-Ok-few_next g c = (
  c.in-Ok-few_next.ensures.0,
  λ all make.
      let named = c.in-Ok.ensures.1 all make in
      let last = c.in-Ok-few_next.ensures.1 all make in
      words_heap_of (heap_of c.args.heap.now).millis (size_of c.args.heap.now) all c.in-Ok-few_next.words.heap
      c.args.few.wanted.items c.in-Ok.named.wanted.items c.in-Ok-few_next.words.wanted.items named.1 last.1 last.0,
)
