use Rattle.std.proofs.Common.{◌≡◌, ◌-◌, ◌^◌, ℕ, ◌∷◌, List, None, Some, Ok, true, false, subst, sym, arith, rules}
use Rattle.hprof_facts.specs.FactReader.{source_of}
use Rattle.hprof_merge.specs.Rows.{ByteRow}
use Rattle.hprof_objects.specs.ReadAgain.{CannotRead, HasObjects}
use Rattle.hprof_objects.specs.StretchFault.{ByFault}
use Rattle.hprof_objects.specs.declared.stretch_fault.StretchFault.{StretchFault}
use Rattle.hprof_objects.proofs.ReadingAgain.{HasGone, by_fault, cannot_read, never_changed, never_ends, never_so_many, passes, shows_next}
use Rattle.hprof_objects.proofs.next_object.next_object.Goals as goal

pub loop-init : goal.loop-init
loop-init g c = record { can = c.requires; gone = λ reads row rows has. record { objects = has; many = omega arith } }

pub returns-in-Some-clause-next : goal.returns-in-Some-clause-next
returns-in-Some-clause-next g c = λ reads row rows has.
    let went : c.advance.result ≡ Ok true = search rules in
    let some : c.object_id.result ≡ Some c.in-Some.id = search rules in
    shows_next g.R.Source.left g.R.Source.health g.R.Source.pulls c.loop.reader c.advance.new.self c.advance.result c.advance.ensures.from
    c.advance.ensures.over reads c.object_id.result c.in-Some.id went c.object_id.ensures some row rows
    (c.loop.invariant.gone reads row rows has).objects

pub returns-in-Ok-false-clause-fault : goal.returns-in-Ok-false-clause-fault
returns-in-Ok-false-clause-fault g c = λ reads row rows has.
    let stood : c.advance.result ≡ Ok false = search rules in
    never_ends g.R.Source.left g.R.Source.health g.R.Source.pulls c.loop.reader c.advance.new.self c.advance.result c.advance.ensures.from
    c.advance.ensures.over reads stood row rows (c.loop.invariant.gone reads row rows has).objects

pub returns-in-Err-clause-fault : goal.returns-in-Err-clause-fault
returns-in-Err-clause-fault g c =
    let left = g.R.Source.left in
    let health = g.R.Source.health in
    let pulls = g.R.Source.pulls in
    let old = c.loop.reader in
    let new = c.advance.new.self in
    let fault = c.in-Err.fault in
    let Unread : Type 0 = (reads : ℕ) (row : ByteRow) (rows : List ByteRow)
    → HasObjects left health pulls reads c.args.reader.now (row ∷ rows) → CannotRead health pulls reads (source_of new) in
    let Never : Type 0 = (reads : ℕ) (row : ByteRow) (rows : List ByteRow)
    → HasObjects left health pulls reads c.args.reader.now (row ∷ rows) → ⊥ in
    subst (λ (f : StretchFault). ByFault f Unread Never) (sym c.of.ensures)
    (by_fault fault Unread Never
    (λ read reads row rows has. cannot_read left health pulls old new c.advance.result c.advance.ensures.from c.advance.ensures.over reads
    fault c.in-Err.is read (row ∷ rows) (c.loop.invariant.gone reads row rows has).objects)
    (λ judged reads row rows has. never_changed left health pulls old new c.advance.result c.advance.ensures.from c.advance.ensures.over
    reads fault c.in-Err.is row rows (c.loop.invariant.gone reads row rows has).objects judged))

pub loop-preserved : goal.loop-preserved
loop-preserved g c = record {
  can = c.advance.ensures.can;
  gone = λ reads row rows has.
      let went : c.advance.result ≡ Ok true = search rules in
      let none : c.object_id.result ≡ None = search rules in
      passes g.R.Source.left g.R.Source.health g.R.Source.pulls c.loop.reader c.advance.new.self c.advance.result c.advance.ensures.from
      c.advance.ensures.over reads c.object_id.result went c.object_id.ensures none c.loop.counter row rows
      (c.loop.invariant.gone reads row rows has);
}

pub returns-clause-fault : goal.returns-clause-fault
returns-clause-fault g c = λ reads row rows has.
    let left = g.R.Source.left in
    let end = c.loop.auto.counter-end in
    let test = c.loop-test.false in
    let all : c.loop.counter ≡ 2 ^ 64 - 1 = omega (arith, end, test) in
    absurd (never_so_many left g.R.Source.health g.R.Source.pulls reads c.loop.reader row rows
    (subst (λ (n : ℕ). HasGone left g.R.Source.health g.R.Source.pulls reads n c.loop.reader (row ∷ rows)) all
    (c.loop.invariant.gone reads row rows has)))
