use Rattle.std.proofs.Common.{ℕ, ◌+◌, length, ap, arith, subst, sym}
use Rattle.std.proofs.lemmas.Result.{err_from_is_err_and}
use Rattle.hprof_devices.proofs.Writes.{Pushed, Pushed-all, Pushed-more}
use Rattle.hprof_values.specs.Lists.{identifiers_left, identifiers_of}
use Rattle.hprof_lines.proofs.TextWriting.{pushed_stops_within}
use Rattle.hprof_show.specs.ElementLines.{present_text, told_line}
use Rattle.hprof_show.proofs.ToldElements.{none_counted, none_told, null_count, null_next, other_count, other_next, some_next, told_text}
use Rattle.hprof_show.proofs.element_lines.write_present.Goals as goal
use Rattle.hprof_show.proofs.element_lines.write_present.Goals.{then-id-ne0, else-id-ne0}

pub returns-in_err-write_element-clause-bytes : goal.returns-in_err-write_element-clause-bytes
returns-in_err-write_element-clause-bytes g c = λ found is.
    let told = c.loop-id.present in
    let place = c.loop-id.place in
    let id = c.in-Some.id in
    let left = identifiers_left c.loop-id.id-iterator in
    let others = identifiers_left c.next.new.self in
    let r = c.from_residual.result in
    let p = err_from_is_err_and r c.from_residual.ensures.1 in
    let next = some_next found told place id others left c.in-Some.ensures.steps in
    pushed_stops_within r p.0 p.1 (g.W.Target.written c.args.target.now) (g.W.Target.written c.loop-id.target)
    (present_text found (identifiers_of c.args.elements.now)) (told_text found told place left) (c.loop-id.invariant.pushed found is)
    (g.W.Target.written c.write_element.new.target) (told_line found told place id) next.0 next.1
    (c.in_err-write_element.ensures.bytes found is)

pub loop-id-preserved : goal.loop-id-preserved
loop-id-preserved g c =
    let told = c.loop-id.present in
    let place = c.loop-id.place in
    let id = c.in-Some.id in
    let left = identifiers_left c.loop-id.id-iterator in
    let others = identifiers_left c.next.new.self in
    let all = identifiers_of c.args.elements.now in
    let old = g.W.Target.written c.args.target.now in
    let mid = g.W.Target.written c.loop-id.target in
    let new = g.W.Target.written c.write_element.new.target in
    let steps = c.in-Some.ensures.steps in
    let was = c.loop-id.invariant in
    elim c.if-id-ne0.branch [
      | then-id-ne0 w ↦ record {
        pushed = λ found is.
            subst (λ (n : ℕ). Pushed old new (present_text found all) (told_text found n (place + 1) others)) (sym w.present-is)
            (Pushed-more old mid new (present_text found all) (told_text found told place left) (told_line found told place id)
            (told_text found (told + 1) (place + 1) others) (was.pushed found is)
            (other_next found told place id others left steps w.if-id-ne0.true) (c.in_ok-write_element.ensures.bytes found is));
        well = c.in_ok-write_element.ensures.health;
        few = omega (arith, w.present-is, was.few);
        places = omega (arith, ap length steps, was.places);
        count = omega (arith, w.present-is, other_count place id others left steps w.if-id-ne0.true, was.count);
      }
      | else-id-ne0 w ↦ record {
        pushed = λ found is.
            subst (λ (n : ℕ). Pushed old new (present_text found all) (told_text found n (place + 1) others)) (sym w.present-is)
            (Pushed-more old mid new (present_text found all) (told_text found told place left) (told_line found told place id)
            (told_text found told (place + 1) others) (was.pushed found is)
            (null_next found told place id others left steps w.if-id-ne0.false) (c.in_ok-write_element.ensures.bytes found is));
        well = c.in_ok-write_element.ensures.health;
        few = omega (arith, w.present-is, was.few);
        places = omega (arith, ap length steps, was.places);
        count = omega (arith, w.present-is, null_count place id others left steps w.if-id-ne0.false, was.count);
      }
    ]

pub overflow_add-present : goal.overflow_add-present
overflow_add-present g c =
    omega (arith, ap length c.in-Some.ensures.steps, c.loop-id.invariant.few, c.loop-id.invariant.places, c.iter-id-items.ensures.few)

pub returns-clause-bytes : goal.returns-clause-bytes
returns-clause-bytes g c = λ found is.
    let left = identifiers_left c.loop-id.id-iterator in
    Pushed-all (g.W.Target.written c.args.target.now) (g.W.Target.written c.loop-id.target)
    (present_text found (identifiers_of c.args.elements.now)) (told_text found c.loop-id.present c.loop-id.place left)
    (c.loop-id.invariant.pushed found is) (ap length (none_told found c.loop-id.present c.loop-id.place left c.in-None.ensures.steps.0))

pub returns-clause-count : goal.returns-clause-count
returns-clause-count g c =
    omega (
      arith,
      none_counted c.loop-id.place (identifiers_left c.loop-id.id-iterator) c.in-None.ensures.steps.0,
      c.loop-id.invariant.count,
    )
