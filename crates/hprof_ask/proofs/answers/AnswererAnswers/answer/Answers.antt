use Rattle.hprof_ask.specs.HeapAnswers.{IsHeapAnswer}
use Rattle.hprof_ask.specs.InMemory.{of_value}
use Rattle.hprof_ask.proofs.answers.AnswererAnswers.answer.Goals as goal

pub returns-in-Ok-clause-bytes : goal.returns-in-Ok-clause-bytes
returns-in-Ok-clause-bytes g c = λ value is.
    let self = c.args.self.now in
    let it = c.in-Ok.ensures.bytes in (
      it.0,
      of_value (λ ids facts. IsHeapAnswer self.summaries.now ids facts c.args.question it.0) self.heap.now value is it.1,
      it.2,
    )

pub returns-in-Err-Write-clause-bytes : goal.returns-in-Err-Write-clause-bytes
returns-in-Err-Write-clause-bytes g c = λ value is.
    let self = c.args.self.now in
    let it = c.in-Err-Write.ensures.bytes in (
      it.0,
      of_value (λ ids facts. IsHeapAnswer self.summaries.now ids facts c.args.question it.0) self.heap.now value is it.1,
      it.2,
    )

pub returns-in-Err-OutOfMemory-clause-bytes : goal.returns-in-Err-OutOfMemory-clause-bytes
returns-in-Err-OutOfMemory-clause-bytes g c = λ value is.
    let self = c.args.self.now in
    let it = c.in-Err-OutOfMemory.ensures.bytes in (
      it.0,
      of_value (λ ids facts. IsHeapAnswer self.summaries.now ids facts c.args.question it.0) self.heap.now value is it.1,
      it.2,
    )
