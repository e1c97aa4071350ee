use Rattle.std.proofs.Common.{◌≡◌, ℕ, List, length}
use Rattle.std.specs.Prelude.{⊤}
use Rattle.hprof_facts.specs.FactReader.{source_of}
use Rattle.hprof_merge.specs.Rows.{ByteRow}
use Rattle.hprof_objects.specs.PartsRead.{PartRead}
use Rattle.hprof_objects.specs.ReadAgain.{CannotRead, HasObjects, IsSameAt}
use Rattle.hprof_objects.specs.Stretches.{IsStretch}
use Rattle.hprof_objects.proofs.ReadingAgain.{by_fault_too}
use Rattle.hprof_objects.proofs.StretchCursors.{opened}
use Rattle.hprof_objects.proofs.stretch_cursor.StretchCursor.new.Goals as goal

pub returns-in-Ok-go_on-clause-rows : goal.returns-in-Ok-go_on-clause-rows
returns-in-Ok-go_on-clause-rows g c = λ parts rows is same.
    let stretch = c.args.stretch.now in
    let limits = c.args.limits in
    let has = opened g.R.Source.left g.R.Source.health g.R.Source.pulls limits (g.P.Parts.bytes c.args.parts.now) stretch
    c.behind-place.result c.offset.result c.open-source.result c.in-Ok.reader c.open-source.ensures.fresh c.behind-place.ensures.part
    c.behind-place.ensures.passed c.offset.ensures c.open-source.ensures.gives c.in-Ok.ensures.given parts rows is same in
    record { stands = c.in-Ok-go_on.ensures.rows limits.max_reads rows has is.stands.count; ascends = is.stands.ascend }

pub returns-in-Err-clause-fault : goal.returns-in-Err-clause-fault
returns-in-Err-clause-fault g c =
    let left = g.R.Source.left in
    let health = g.R.Source.health in
    let pulls = g.R.Source.pulls in
    let limits = c.args.limits in
    let stretch = c.args.stretch.now in
    let told = g.P.Parts.bytes c.args.parts.now in
    let reader = c.in-Ok.reader in
    by_fault_too c.in-Err.fault
    ((reads : ℕ) (rows : List ByteRow) → HasObjects left health pulls reads reader rows → stretch.count ≡ length rows
    → CannotRead health pulls reads (source_of c.go_on.new.self.reader))
    ((reads : ℕ) (rows : List ByteRow) → HasObjects left health pulls reads reader rows → stretch.count ≡ length rows → ⊥)
    ⊤
    ((parts : List PartRead) (rows : List ByteRow) → IsStretch limits parts stretch rows → IsSameAt limits told parts stretch.part → ⊥)
    (λ holds. tt)
    (λ never parts rows is same. never limits.max_reads rows (opened left health pulls limits told stretch c.behind-place.result
    c.offset.result c.open-source.result reader c.open-source.ensures.fresh c.behind-place.ensures.part c.behind-place.ensures.passed
    c.offset.ensures c.open-source.ensures.gives c.in-Ok.ensures.given parts rows is same) is.stands.count) c.in-Err.ensures.fault
