use Rattle.std.proofs.Common.{◌≡◌, ℕ, ◌∷◌, List, length, arith}
use Rattle.hprof_facts.specs.FactReader.{source_of}
use Rattle.hprof_merge.specs.Rows.{ByteRow}
use Rattle.hprof_objects.specs.ReadAgain.{CannotRead, HasObjects}
use Rattle.hprof_objects.proofs.ReadingAgain.{by_fault_too}
use Rattle.hprof_objects.proofs.StretchCursors.{one_comes, stands_on}
use Rattle.hprof_objects.proofs.stretch_cursor.StretchCursor.go_on.Goals as goal

pub returns-in-Ok-clause-rows : goal.returns-in-Ok-clause-rows
returns-in-Ok-clause-rows g c = λ reads.
    let its = c.args.self.now in
    let some = c.if-self-eq0.false in
    stands_on g.R.Source.left g.R.Source.health g.R.Source.pulls reads its.reader c.next_object.new.reader c.in-Ok.id its.left
    (λ none. omega (arith, some, none)) (c.in-Ok.ensures.next reads)

pub returns-in-Err-clause-fault : goal.returns-in-Err-clause-fault
returns-in-Err-clause-fault g c =
    let its = c.args.self.now in
    let new = c.next_object.new.reader in
    let left = g.R.Source.left in
    let health = g.R.Source.health in
    let pulls = g.R.Source.pulls in
    let some = c.if-self-eq0.false in
    by_fault_too c.in-Err.fault
    ((reads : ℕ) (row : ByteRow) (rows : List ByteRow) → HasObjects left health pulls reads its.reader (row ∷ rows)
    → CannotRead health pulls reads (source_of new))
    ((reads : ℕ) (row : ByteRow) (rows : List ByteRow) → HasObjects left health pulls reads its.reader (row ∷ rows) → ⊥)
    ((reads : ℕ) (rows : List ByteRow) → HasObjects left health pulls reads its.reader rows → its.left ≡ length rows
    → CannotRead health pulls reads (source_of new))
    ((reads : ℕ) (rows : List ByteRow) → HasObjects left health pulls reads its.reader rows → its.left ≡ length rows → ⊥)
    (λ holds reads. one_comes left health pulls reads its.reader its.left (CannotRead health pulls reads (source_of new))
    (λ none. omega (arith, some, none)) (holds reads))
    (λ holds reads. one_comes left health pulls reads its.reader its.left ⊥ (λ none. omega (arith, some, none)) (holds reads))
    c.in-Err.ensures.fault
