use Rattle.std.proofs.Common.{◌≡◌, ◌+◌, ◌-◌, ◌++◌, ℕ, List, [], length, drop, Some, Ok, Err, refl, sym, ap, subst, ◌∙◌, inr, append_assoc}
use Rattle.std.proofs.Common.{arith}
use Rattle.std.proofs.lemmas.List.{length-append, length-drop}
use Rattle.std.proofs.lemmas.Result.{err_from_is_err_and}
use Rattle.hprof_items.specs.declared.walk.Walk.{Walk}
use Rattle.hprof_values.proofs.Numbers.{IsBytes-take}
use Rattle.hprof_values.specs.Ids.{IsBytes}
use Rattle.hprof_values.specs.declared.parse_stop.ParseStop.TheVariants.{Short}
use Rattle.hprof_stream.specs.declared.progress.Progress.{Progress}
use Rattle.hprof_stream.specs.Progress.{place_of}
use Rattle.hprof_stream.specs.Item.{item_at}
use Rattle.hprof_stream.specs.Rest.{IsRest, IsWalkOf, passing_of, passed_len, rest_len}
use Rattle.hprof_stream.specs.Walking.{GoesOn, IsHalted, StepsOver}
use Rattle.hprof_stream.proofs.Holding.{cut_bytes, held_more, IsRest-held, IsWalkOf-front}
use Rattle.hprof_stream.proofs.HeldOn.{GoesOn-still, GoesOn-whole, FinishesHeld-refused}
use Rattle.hprof_stream.proofs.HeldOn.{item_longer}
use Rattle.hprof_stream.proofs.ItemLists.{room_behind}
use Rattle.hprof_stream.proofs.Rests.{IsRest-none}
use Rattle.hprof_stream.proofs.Stepping.{step_keeps}
use Rattle.hprof_stream.proofs.Walks.{Walks-counted-less}
use Rattle.hprof_stream.proofs.held.finish_once.Goals as goal

pub returns-then-walks_short-clause-finished : goal.returns-then-walks_short-clause-finished
returns-then-walks_short-clause-finished g c front is =
    let from = c.args.progress.now in
    let longest = from.limits.max_item in
    let place = place_of from in
    let bytes = c.args.bytes.now in
    let more = c.split_at.result.0.now in
    let behind = c.split_at.result.1.now in
    let cut : more ++ behind ≡ bytes = cut_bytes c.min-count.result bytes more behind c.split_at.ensures.front c.split_at.ensures.back in
    let are : IsBytes more = subst IsBytes (sym c.split_at.ensures.front) (IsBytes-take c.min-count.result bytes (λ i.
    omega (arith, c.type_inv.bytes i))) in
    let held = held_more longest place front more c.hold.new.held.items c.args.rest.now is c.requires.holds c.in_ok-hold.ensures.ok are in
    let walk = c.if-walks_short.ensures.walk held.walk in
    let rest = c.walks_short.new.rest in
    let short = ap (item_at longest place) (sym held.all) ∙ walk.1 refl in
    let same : rest.held.items ≡ front ++ more = rw c.if-walks_short.ensures.held held.all in
    let whole = ap (passing_of longest place) (sym held.all) ∙ c.if-walks_short.ensures.held_whole refl in
    let keeps = IsRest-held longest place (front ++ more) rest held.are_bytes short same (c.if-walks_short.ensures.passing
    ∙ held.none) whole (subst (λ (b : List ℕ). IsWalkOf longest place b rest.walk) held.all walk.0) in
    subst (λ (b : List ℕ). GoesOn g.S.Sink.begins g.S.Sink.steps g.S.Sink.refuses g.S.Sink.failed from front b c.args.sink.now from
    behind rest c.args.sink.now) cut
    (GoesOn-still g.S.Sink.begins g.S.Sink.steps g.S.Sink.refuses g.S.Sink.failed from front more behind c.args.sink.now rest keeps)

pub returns-in_err-len-clause-finished : goal.returns-in_err-len-clause-finished
returns-in_err-len-clause-finished g c front is =
    let from = c.args.progress.now in
    let longest = from.limits.max_item in
    let place = place_of from in
    let bytes = c.args.bytes.now in
    let more = c.split_at.result.0.now in
    let behind = c.split_at.result.1.now in
    let cut : more ++ behind ≡ bytes = cut_bytes c.min-count.result bytes more behind c.split_at.ensures.front c.split_at.ensures.back in
    let are : IsBytes more = subst IsBytes (sym c.split_at.ensures.front) (IsBytes-take c.min-count.result bytes (λ i.
    omega (arith, c.type_inv.bytes i))) in
    let held = held_more longest place front more c.hold.new.held.items c.args.rest.now is c.requires.holds c.in_ok-hold.ensures.ok are in
    let value = rw c.if-walks_short.ensures.held at c.deref.ensures.value in
    let shown : c.deref.result.now ≡ front ++ more = value ∙ held.all in
    let fault = c.in_err-len.field-0.0 in
    let step = subst (λ (b : List ℕ). StepsOver g.S.Sink.begins g.S.Sink.steps g.S.Sink.refuses g.S.Sink.failed from b c.args.sink.now
    (Err fault) c.step.new.self c.step.new.sink) shown c.in_err-len.ensures.step in
    let halted = FinishesHeld-refused g.S.Sink.begins g.S.Sink.steps g.S.Sink.refuses g.S.Sink.failed from c.step.new.self front more
    behind c.args.sink.now c.step.new.sink fault step in
    let p = err_from_is_err_and c.from_residual-in_err-len.result c.from_residual-in_err-len.ensures.1 in
    rw (p.1, p.2) (subst (λ (b : List ℕ). IsHalted g.S.Sink.begins g.S.Sink.steps g.S.Sink.refuses g.S.Sink.failed from front b
    c.args.sink.now fault c.step.new.self c.step.new.sink) cut halted)

pub returns-in-Some-clause-finished : goal.returns-in-Some-clause-finished
returns-in-Some-clause-finished g c front is =
    let from = c.args.progress.now in
    let longest = from.limits.max_item in
    let place = place_of from in
    let bytes = c.args.bytes.now in
    let more = c.split_at.result.0.now in
    let behind = c.split_at.result.1.now in
    let cut : more ++ behind ≡ bytes = cut_bytes c.min-count.result bytes more behind c.split_at.ensures.front c.split_at.ensures.back in
    let are : IsBytes more = subst IsBytes (sym c.split_at.ensures.front) (IsBytes-take c.min-count.result bytes (λ i.
    omega (arith, c.type_inv.bytes i))) in
    let held = held_more longest place front more c.hold.new.held.items c.args.rest.now is c.requires.holds c.in_ok-hold.ensures.ok are in
    let value = rw c.if-walks_short.ensures.held at c.deref.ensures.value in
    let shown : c.deref.result.now ≡ front ++ more = value ∙ held.all in
    let n = c.in-Some.len in
    let to = c.step.new.self in
    let sink = c.step.new.sink in
    let step = subst (λ (b : List ℕ). StepsOver g.S.Sink.begins g.S.Sink.steps g.S.Sink.refuses g.S.Sink.failed from b c.args.sink.now
    (Ok (Some n)) to sink) shown (rw c.in-Some.is at c.in_ok-len.ensures.step) in
    let long = item_longer longest place front more step.3.0 n (room_behind from.header from.room c.step.ensures.room) held.are_bytes
    is.short step.3.1 in
    let rest = c.clear.new.self in
    let keeps = IsRest-none longest (place_of to) rest c.clear.ensures.held (c.clear.ensures.passing ∙ c.if-walks_short.ensures.passing
    ∙ held.none)
    (subst (λ (w : Walk). IsWalkOf longest (place_of to) [] w) (sym c.clear.ensures.walk) (IsWalkOf-front longest (place_of to) [])) in
    let whole = GoesOn-whole g.S.Sink.begins g.S.Sink.steps g.S.Sink.refuses g.S.Sink.failed from to front more behind n c.args.sink.now
    sink rest step.0 long step.2 keeps in
    let before : n - length front ≡ c.saturating_sub.result = omega (arith, c.saturating_sub.ensures, c.len-before.ensures, held.size) in
    let left : drop (n - length front) (more ++ behind) ≡ c.split_at-in-Some.result.1.now =
    ap (λ (k : ℕ). drop k (more ++ behind)) before ∙ ap (λ (b : List ℕ). drop c.saturating_sub.result b) cut
    ∙ sym c.split_at-in-Some.ensures.back in
    subst (λ (b : List ℕ). GoesOn g.S.Sink.begins g.S.Sink.steps g.S.Sink.refuses g.S.Sink.failed from front bytes c.args.sink.now to b
    rest sink) left
    (subst (λ (b : List ℕ). GoesOn g.S.Sink.begins g.S.Sink.steps g.S.Sink.refuses g.S.Sink.failed from front b c.args.sink.now to
    (drop (n - length front) (more ++ behind)) rest sink) cut whole)

pub returns-in-Some-clause-counted : goal.returns-in-Some-clause-counted
returns-in-Some-clause-counted g c =
    let from = c.args.progress.now in
    let shown = c.deref.result.now in
    let step = rw c.in-Some.is at c.in_ok-len.ensures.step in
    let value = rw c.if-walks_short.ensures.held at c.deref.ensures.value in
    let size = ap length (value ∙ c.in_ok-hold.ensures.ok) in
    let added = length-append c.args.rest.now.held.items c.split_at.result.0.now in
    let passing = c.clear.ensures.passing ∙ c.if-walks_short.ensures.passing in
    Walks-counted-less g.S.Sink.begins g.S.Sink.steps from.limits.max_item from c.step.new.self shown (drop c.in-Some.len shown)
    c.args.sink.now c.step.new.sink
    (rest_len c.args.rest.now + length c.args.bytes.now) (rest_len c.clear.new.self + length c.split_at-in-Some.result.1.now) step.0
    c.requires.counted
    (omega (
      arith,
      step.2,
      size,
      added,
      length-drop c.in-Some.len shown,
      ap passed_len passing,
      ap length c.clear.ensures.held,
      c.split_at.ensures.front_len,
      c.split_at-in-Some.ensures.back_len,
      c.saturating_sub.ensures,
      c.len-before.ensures,
      c.min-count.ensures,
    ))

pub returns-clause-finished : goal.returns-clause-finished
returns-clause-finished g c front is =
    let from = c.args.progress.now in
    let longest = from.limits.max_item in
    let place = place_of from in
    let bytes = c.args.bytes.now in
    let more = c.split_at.result.0.now in
    let behind = c.split_at.result.1.now in
    let cut : more ++ behind ≡ bytes = cut_bytes c.min-count.result bytes more behind c.split_at.ensures.front c.split_at.ensures.back in
    let are : IsBytes more = subst IsBytes (sym c.split_at.ensures.front) (IsBytes-take c.min-count.result bytes (λ i.
    omega (arith, c.type_inv.bytes i))) in
    let held = held_more longest place front more c.hold.new.held.items c.args.rest.now is c.requires.holds c.in_ok-hold.ensures.ok are in
    let value = rw c.if-walks_short.ensures.held at c.deref.ensures.value in
    let shown : c.deref.result.now ≡ front ++ more = value ∙ held.all in
    let walk = c.if-walks_short.ensures.walk held.walk in
    let rest = c.count_passed.new.rest in
    let step = rw c.in_default.is at c.in_ok-len.ensures.step in
    let to = c.step.new.self in
    let short = subst (λ (p : Progress). item_at p.limits.max_item (place_of p) (front ++ more) ≡ Err Short) step.1
    (ap (item_at longest place) (sym shown) ∙ step.0) in
    let on = subst (λ (p : Progress). IsWalkOf p.limits.max_item (place_of p) (front ++ more) c.walks_short.new.rest.walk) step.1
    (subst (λ (b : List ℕ). IsWalkOf longest place b c.walks_short.new.rest.walk) held.all walk.0) in
    let counts = rw (c.if-walks_short.ensures.held, held.all) at c.count_passed.ensures.rest in
    let keeps = subst (λ (p : Progress). IsRest p.limits.max_item (place_of p) (front ++ more) rest) (sym step.1)
    (counts short on (c.if-walks_short.ensures.passing ∙ held.none)) in
    inr (sym step.1, step.2, (front ++ more, ap (λ (b : List ℕ). front ++ b) (sym cut) ∙ sym (append_assoc front more behind), keeps))

pub returns-in_err-len-clause-kept : goal.returns-in_err-len-clause-kept
returns-in_err-len-clause-kept g c header e =
    step_keeps g.S.Sink.begins g.S.Sink.steps g.S.Sink.refuses g.S.Sink.failed c.args.progress.now c.step.new.self c.deref.result.now
    c.args.sink.now c.step.new.sink (Err c.in_err-len.field-0.0) header c.in_err-len.ensures.step e

pub returns-in-Some-clause-kept : goal.returns-in-Some-clause-kept
returns-in-Some-clause-kept g c header e =
    step_keeps g.S.Sink.begins g.S.Sink.steps g.S.Sink.refuses g.S.Sink.failed c.args.progress.now c.step.new.self c.deref.result.now
    c.args.sink.now c.step.new.sink c.step.result header c.step.ensures.step e
