use Rattle.std.proofs.Common.{◌≡◌, ◌≢◌, ℕ, Bool, ◌-◌, ◌^◌, ◌<◌, ◌≤◌, length, set, get_or, Some, None, Result, refl}
use Rattle.std.proofs.Common.{ap, sym, subst, ◌∙◌, append-nil, arith, get_or-set_other}
use Rattle.hprof_devices.specs.declared.health.Health.TheVariants.{Well}
use Rattle.hprof_engine.specs.declared.tool_fault.ToolFault.{ToolFault}
use Rattle.hprof_engine.proofs.Going.{of_fault}
use Rattle.hprof_engine.proofs.Reading.{element_at}
use Rattle.hprof_stored.specs.SavedParts.{saved_before}
use Rattle.hprof_stored.specs.SavingThrough.{StoresSaved, StoresThrough}
use Rattle.hprof_stored.specs.Storing.{storing}
use Rattle.hprof_stored.proofs.Read.{part_starts}
use Rattle.hprof_stored.proofs.SavedOne.{came_faulty, came_wanting, came_whole, number_one}
use Rattle.hprof_stored.proofs.SavedMore.{LeavesPart, stores_more, stores_none, with_one}
use Rattle.hprof_stored.proofs.SavedEnds.{as_many_parts, ends_so, no_more_headed}
use Rattle.hprof_stored.proofs.saving.read_through.Goals as goal
use Rattle.hprof_stored.proofs.saving.read_through.Goals.{else-leave_part, in-Err+in_ok-list_fault, in_default, then-leave_part}

pub loop-index-init : goal.loop-index-init
loop-index-init g c = record {
  unread = λ k d from below. refl;
  stores = λ scratch holds. stores_none g.R.Source.left g.R.Source.health g.R.Source.pulls c.args.limits c.args.readers.now
      c.args.readers.now g.S.Target.written g.S.Target.health scratch c.args.headed.now c.args.faults.now.items
      (storing c.args.sink.now) c.requires.none c.requires.empty holds;
}

pub read_placed-requires : goal.read_placed-requires
read_placed-requires g c =
    let index = c.loop-index.index in
    let found = c.index-readers-index.result in
    let within : index < length c.args.readers.now = c.loop-index-test.true in
    let there : index ≤ index = omega arith in
    subst (λ (r : g.row.R.Denot). g.R.Source.health r ≡ Well) (sym (c.loop-index.invariant.unread index found there within))
    (c.requires.well index found within)

-- a fault was not listed
pub returns-in_err-list_fault : goal.returns-in_err-list_fault
returns-in_err-list_fault g c = λ scratch holds.
    let index = c.loop-index.index in
    let found = c.index-readers-index.result in
    let was = get_or c.loop-index.readers index found in
    let is = c.read_placed.new.source in
    let within : index < length c.args.readers.now = omega arith in
    let still : index < length c.loop-index.readers = omega arith in
    let same : length c.loop-index.readers ≡ length c.args.readers.now = omega arith in
    let there = element_at c.args.readers.now c.loop-index.readers index found within (c.loop-index.invariant.unread index found
    (omega arith) within) c.index-readers-index.is ∙ ap Some c.index-readers-index.is in
    let so = c.loop-index.invariant.stores scratch holds in
    let earlier = saved_before scratch so.read.parts in
    let read = c.in-Err.ensures.read in
    let comes = read.2.2 earlier
    (part_starts g.S.Target.written g.S.Target.health c.args.limits earlier (storing c.loop-index.sink) so.holds) in
    of_fault (λ (r : Result (Unit {0}) ToolFault). StoresThrough g.R.Source.left g.R.Source.health g.R.Source.pulls c.args.limits
    c.args.readers.now (set c.loop-index.readers index is) g.S.Target.written g.S.Target.health scratch c.loop-index.headed
    c.list_fault.new.faults.items r (storing c.read_placed.new.sink)) c.from_residual.result c.in_err-list_fault.field-0.0
    c.from_residual.ensures.1
    (ends_so g.R.Source.left g.R.Source.health g.R.Source.pulls c.args.limits c.args.readers.now c.loop-index.readers g.S.Target.written
    g.S.Target.health scratch index c.loop-index.headed was is c.loop-index.faults.items (storing c.loop-index.sink)
    (storing c.read_placed.new.sink) there still same c.loop-index.invariant.unread so read.0 read.2.0 read.1 c.in-Err.ensures.pulls
    c.loop-index.headed c.list_fault.new.faults.items c.in-Err.fault
    (λ memory. came_wanting g.R.Source.left g.R.Source.health g.R.Source.pulls c.args.limits was is g.S.Target.written g.S.Target.health
    earlier read.0 read.2.0 c.read_placed.new.sink c.in-Err.fault memory read.2.1 comes)
    (λ listed. came_faulty g.R.Source.left g.R.Source.health g.R.Source.pulls c.args.limits was is g.S.Target.written g.S.Target.health
    earlier read.0 read.2.0 c.read_placed.new.sink c.in-Err.fault listed read.1 c.in-Err.ensures.pulls read.2.1 comes)
    c.in_err-list_fault.field-0.0 c.in_err-list_fault.ensures.err)

-- the number of the part that is read fits
pub leave_part-requires : goal.leave_part-requires
leave_part-requires g c =
    let index = c.loop-index.index in
    let found = c.index-readers-index.result in
    let was = get_or c.loop-index.readers index found in
    let is = c.read_placed.new.source in
    let few : index < 2 ^ 64 - 1 = omega arith in
    let scratch = c.requires.nothing.0 in
    let so = c.loop-index.invariant.stores scratch c.requires.nothing.1 in
    let earlier = saved_before scratch so.read.parts in
    let many = as_many_parts g.R.Source.left g.R.Source.health g.R.Source.pulls c.args.limits c.args.readers.now c.loop-index.readers index
    c.loop-index.headed c.loop-index.faults.items so.read in
    let starts = part_starts g.S.Target.written g.S.Target.health c.args.limits earlier (storing c.loop-index.sink) so.holds in
    elim c.match-read_placed.branch [
      | in-Err+in_ok-list_fault w ↦
          let read = w.in-Err.ensures.read in
          let one = came_faulty g.R.Source.left g.R.Source.health g.R.Source.pulls c.args.limits was is g.S.Target.written
          g.S.Target.health earlier read.0 read.2.0 c.read_placed.new.sink w.in-Err.fault w.in_ok-list_fault.ensures.ok.0 read.1
          w.in-Err.ensures.pulls read.2.1 (read.2.2 earlier starts) in
          let number = number_one g.R.Source.left g.R.Source.health g.R.Source.pulls c.args.limits was is g.S.Target.written
          g.S.Target.health earlier (Some w.in-Err.fault) (storing c.read_placed.new.sink) one in
          omega (arith, number, many, few)
      | in_default w ↦
          let read = w.in_default.ensures.read in
          let one = came_whole g.R.Source.left g.R.Source.health g.R.Source.pulls c.args.limits was is g.S.Target.written
          g.S.Target.health earlier read.0 read.2.0 c.read_placed.new.sink w.in_default.field-0 read.1 w.in_default.ensures.pulls read.2.1
          (read.2.2 earlier starts) in
          let number = number_one g.R.Source.left g.R.Source.health g.R.Source.pulls c.args.limits was is g.S.Target.written
          g.S.Target.health earlier None (storing c.read_placed.new.sink) one in
          omega (arith, number, many, few)
    ]

pub overflow_add-headed : goal.overflow_add-headed
overflow_add-headed g c =
    let index = c.loop-index.index in
    let few : index < 2 ^ 64 - 1 = omega arith in
    let so = c.loop-index.invariant.stores c.requires.nothing.0 c.requires.nothing.1 in
    let fewer = no_more_headed g.R.Source.left g.R.Source.health g.R.Source.pulls c.args.limits c.args.readers.now c.loop-index.readers
    index c.loop-index.headed c.loop-index.faults.items so.read in
    omega (arith, few, fewer)

pub loop-index-preserved : goal.loop-index-preserved
loop-index-preserved g c =
    let index = c.loop-index.index in
    let found = c.index-readers-index.result in
    let was = get_or c.loop-index.readers index found in
    let is = c.read_placed.new.source in
    let within : index < length c.args.readers.now = omega arith in
    let still : index < length c.loop-index.readers = omega arith in
    let there = element_at c.args.readers.now c.loop-index.readers index found within (c.loop-index.invariant.unread index found
    (omega arith) within) c.index-readers-index.is ∙ ap Some c.index-readers-index.is in
    let counts : c.if-leave_part.headed ≡ with_one c.leave_part.result c.loop-index.headed = elim c.if-leave_part.branch [
      | then-leave_part w ↦ w.headed-is ∙ ap (λ (b : Bool). with_one b c.loop-index.headed) (sym w.if-leave_part.true)
      | else-leave_part w ↦ w.headed-is ∙ ap (λ (b : Bool). with_one b c.loop-index.headed) (sym w.if-leave_part.false)
    ] in
    record {
      unread = λ k d after below.
          let other : k ≢ index = omega (arith, after) in
          get_or-set_other c.loop-index.readers index k is d other
          ∙ c.loop-index.invariant.unread k d (omega (arith, after)) below;
      stores = λ scratch holds.
          let so = c.loop-index.invariant.stores scratch holds in
          let earlier = saved_before scratch so.read.parts in
          let starts = part_starts g.S.Target.written g.S.Target.health c.args.limits earlier (storing c.loop-index.sink) so.holds in
          let leaves : LeavesPart g.S.Target.written g.S.Target.health c.leave_part.result (storing c.read_placed.new.sink)
          (storing c.leave_part.new.self) =
          record { came = c.leave_part.ensures.came; bare = c.leave_part.ensures.bare } in
          elim c.match-read_placed.branch [
            | in-Err+in_ok-list_fault w ↦
                let read = w.in-Err.ensures.read in
                let listed = w.in_ok-list_fault.ensures.ok in
                let one = came_faulty g.R.Source.left g.R.Source.health g.R.Source.pulls c.args.limits was is g.S.Target.written
                g.S.Target.health earlier read.0 read.2.0 c.read_placed.new.sink w.in-Err.fault listed.0 read.1 w.in-Err.ensures.pulls
                read.2.1 (read.2.2 earlier starts) in
                stores_more g.R.Source.left g.R.Source.health g.R.Source.pulls c.args.limits c.args.readers.now c.loop-index.readers
                g.S.Target.written g.S.Target.health scratch index c.loop-index.headed c.if-leave_part.headed was is
                c.loop-index.faults.items c.match-read_placed.faults.items (storing c.loop-index.sink) (storing c.read_placed.new.sink)
                (storing c.leave_part.new.self) (Some w.in-Err.fault) c.leave_part.result so there still one leaves
                (ap (λ v. v.items) w.faults-is ∙ listed.1) counts
            | in_default w ↦
                let read = w.in_default.ensures.read in
                let one = came_whole g.R.Source.left g.R.Source.health g.R.Source.pulls c.args.limits was is g.S.Target.written
                g.S.Target.health earlier read.0 read.2.0 c.read_placed.new.sink w.in_default.field-0 read.1 w.in_default.ensures.pulls
                read.2.1 (read.2.2 earlier starts) in
                stores_more g.R.Source.left g.R.Source.health g.R.Source.pulls c.args.limits c.args.readers.now c.loop-index.readers
                g.S.Target.written g.S.Target.health scratch index c.loop-index.headed c.if-leave_part.headed was is
                c.loop-index.faults.items c.match-read_placed.faults.items (storing c.loop-index.sink) (storing c.read_placed.new.sink)
                (storing c.leave_part.new.self) None c.leave_part.result so there still one leaves
                (ap (λ v. v.items) w.faults-is ∙ sym (append-nil c.loop-index.faults.items)) counts
          ];
    }

-- all parts were read
pub returns : goal.returns
returns g c = λ scratch holds.
    let all : c.loop-index.index ≡ length c.args.readers.now = omega (arith, c.loop-index.auto.index-end) in
    subst (λ (count : ℕ). StoresSaved g.R.Source.left g.R.Source.health g.R.Source.pulls c.args.limits c.args.readers.now
    c.loop-index.readers g.S.Target.written g.S.Target.health scratch count c.loop-index.headed c.loop-index.faults.items
    (storing c.loop-index.sink)) all (c.loop-index.invariant.stores scratch holds)
