use Rattle.std.proofs.Common.{◌≡◌, ◌≤◌, ℕ, List, Some, length, arith, rules}
use Rattle.hprof_merge.specs.Rows.{ByteRow}
use Rattle.hprof_objects.specs.ReadAgain.{CannotRead, HasObjects}
use Rattle.hprof_objects.specs.StretchCursor.{ComesTo, source_under}
use Rattle.hprof_objects.proofs.ReadingAgain.{by_fault_too}
use Rattle.hprof_objects.proofs.StretchCursors.{never_late}
use Rattle.hprof_objects.proofs.PassedOn.{if_error}
use Rattle.hprof_objects.proofs.stretch_cursor.StretchCursorRowCursor.advance.Goals as goal

pub returns-in_err-go_on-clause-fails : goal.returns-in_err-go_on-clause-fails
returns-in_err-go_on-clause-fails g c =
    let left = g.R.Source.left in
    let health = g.R.Source.health in
    let pulls = g.R.Source.pulls in
    let old = c.args.self.now in
    let new = c.go_on.new.self in
    if_error _ c.from_residual.result c.in_err-go_on.field-0.0
    (by_fault_too c.in_err-go_on.field-0.0
    ((reads : ℕ) (rows : List ByteRow) → HasObjects left health pulls reads old.reader rows → old.left ≡ length rows
    → CannotRead health pulls reads (source_under new))
    ((reads : ℕ) (rows : List ByteRow) → HasObjects left health pulls reads old.reader rows → old.left ≡ length rows → ⊥)
    ((reads : ℕ) (rows : List ByteRow) → ComesTo left health pulls reads old rows → CannotRead health pulls reads (source_under new))
    ((reads : ℕ) (rows : List ByteRow) → ComesTo left health pulls reads old rows → ⊥)
    (λ holds reads rows comes. let stands = comes.stands in holds reads stands.behind stands.objects stands.count)
    (λ never reads rows comes. let stands = comes.stands in never reads stands.behind stands.objects stands.count)
    c.in_err-go_on.ensures.fault)
    c.from_residual.ensures.1

pub returns-in-Some-shown-clause-fails : goal.returns-in-Some-shown-clause-fails
returns-in-Some-shown-clause-fails g c = λ reads.
    let old = c.args.self.now in
    let new = c.go_on.new.self in
    let is : old.shown ≡ Some c.in-Some.before = search rules in
    let is_next : new.shown ≡ Some c.in-Some-shown.id = search rules in
    let low = c.if-id-before.true in
    let late : c.in-Some-shown.id ≤ c.in-Some.before = omega (arith, low) in
    never_late g.R.Source.left g.R.Source.health g.R.Source.pulls reads old new c.in-Some.before c.in-Some-shown.id is is_next late
    (c.in_ok-go_on.ensures.rows reads)
