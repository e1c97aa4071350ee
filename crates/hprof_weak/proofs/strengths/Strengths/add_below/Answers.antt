use Rattle.std.specs.Prelude.{IfNone, slice_get}
use Rattle.std.specs.Vec.Iter.{into_iter_items}
use Rattle.std.proofs.lemmas.Option.{slice_get_read}
use Rattle.std.proofs.Common.{◌≡◌, ℕ, ◌∷◌, List, [], length, Option, Some, refl, sym, ap, subst, ◌∙◌, arith, length-append}
use Rattle.hprof_heap.specs.declared.class_dump.ClassDump.{ClassDump}
use Rattle.hprof_heap.specs.Classes.{ClassValue, HasNoDump}
use Rattle.hprof_heap.specs.HeapFacts.{facts_of}
use Rattle.hprof_layouts.specs.WaitingLists.{waiting_for}
use Rattle.hprof_layouts.proofs.Outlines.{no_elements}
use Rattle.hprof_weak.specs.declared.strengths.Strength.{Strength}
use Rattle.hprof_weak.specs.Strengths.{AddsClass, strengths_in}
use Rattle.hprof_weak.proofs.Standing.{hand_above, hand_begins, hand_ends, hand_first, hand_more}
use Rattle.hprof_weak.proofs.strengths.Strengths.add_below.Goals as goal

pub returns-in_default-clause-stand : goal.returns-in_default-clause-stand
returns-in_default-clause-stand c =
    let facts = facts_of c.args.heap.now in
    let above = c.index-above.result.now in
    let at : slice_get (strengths_in c.args.self.now) c.args.place ≡ Some above =
    slice_get_read (strengths_in c.args.self.now) _ c.args.place above refl c.requires.within c.index-above.ensures in
    hand_ends facts c.args.self.now (waiting_for c.take.new.self) c.args.place above [] refl
    (hand_begins facts c.args.self.now (waiting_for c.args.subclasses.now) (waiting_for c.take.new.self) c.args.place above []
    c.requires.stand at c.in_default.ensures.taken (sym c.in_default.ensures.none))

pub loop-class-init : goal.loop-class-init
loop-class-init c =
    let facts = facts_of c.args.heap.now in
    let above = c.index-above.result.now in
    let at : slice_get (strengths_in c.args.self.now) c.args.place ≡ Some above =
    slice_get_read (strengths_in c.args.self.now) _ c.args.place above refl c.requires.within c.index-above.ensures in
    let list : into_iter_items c.into_iter-class-iterator.result ≡ waiting_for c.args.subclasses.now above.class =
    c.into_iter-class-iterator.ensures.into_iter_gives.0 ∙ c.in-Some.ensures.some in
    let lengths = ap (λ (l : List ℕ). length l) list in
    let counted = c.in-Some.ensures.counted in
    record {
      hand = hand_begins facts c.args.self.now (waiting_for c.args.subclasses.now) (waiting_for c.take.new.self) c.args.place above
          (into_iter_items c.into_iter-class-iterator.result) c.requires.stand at c.in-Some.ensures.taken list;
      counted = omega (arith, lengths, counted);
    }

pub unreachable-requires : goal.unreachable-requires
unreachable-requires c =
    let facts = facts_of c.args.heap.now in
    let class = c.in-Some-class.class in
    let none : HasNoDump facts class =
    subst (λ (r : Option ClassDump). IfNone r (HasNoDump facts class)) c.in_default-find_class.is c.find_class.ensures.none in
    let sub = hand_first facts c.loop-class.self (waiting_for c.take.new.self) c.args.place c.index-above.result.now class
    (into_iter_items c.loop-class.class-iterator) (into_iter_items c.next.new.self) c.loop-class.invariant.hand
    c.in-Some-class.ensures.steps.0 in
    none sub.dump sub.has sub.id

pub add-requires-clause-not_zero : goal.add-requires-clause-not_zero
add-requires-clause-not_zero c =
    let sub = hand_first (facts_of c.args.heap.now) c.loop-class.self (waiting_for c.take.new.self) c.args.place c.index-above.result.now
    c.in-Some-class.class (into_iter_items c.loop-class.class-iterator) (into_iter_items c.next.new.self) c.loop-class.invariant.hand
    c.in-Some-class.ensures.steps.0 in
    λ e. sub.not_zero (sym c.in-Some-find_class.ensures.id ∙ e)

pub add-requires-clause-parent : goal.add-requires-clause-parent
add-requires-clause-parent c =
    let sub = hand_first (facts_of c.args.heap.now) c.loop-class.self (waiting_for c.take.new.self) c.args.place c.index-above.result.now
    c.in-Some-class.class (into_iter_items c.loop-class.class-iterator) (into_iter_items c.next.new.self) c.loop-class.invariant.hand
    c.in-Some-class.ensures.steps.0 in
    ap (λ (d : ClassValue). d.parent) (c.in-Some-find_class.ensures.only sub.dump sub.has sub.id) ∙ sub.parent

pub add-requires-clause-above : goal.add-requires-clause-above
add-requires-clause-above c =
    hand_above (facts_of c.args.heap.now) c.loop-class.self (waiting_for c.take.new.self) c.args.place c.index-above.result.now
    (into_iter_items c.loop-class.class-iterator) c.loop-class.invariant.hand

pub loop-class-preserved : goal.loop-class-preserved
loop-class-preserved c =
    let facts = facts_of c.args.heap.now in
    let steps = c.in-Some-class.ensures.steps.0 in
    let adds = subst (λ (n : ℕ). AddsClass facts c.loop-class.self c.add.new.self n) c.in-Some-find_class.ensures.id c.in_ok-add.ensures in
    let longer = ap (λ (l : List Strength). length l) adds.strengths_are
    ∙ length-append (strengths_in c.loop-class.self) (adds.strength ∷ []) in
    let lengths = ap (λ (l : List ℕ). length l) steps in
    let counted = c.loop-class.invariant.counted in
    record {
      hand = hand_more facts c.loop-class.self c.add.new.self (waiting_for c.take.new.self) c.args.place c.index-above.result.now
          c.in-Some-class.class (into_iter_items c.loop-class.class-iterator) (into_iter_items c.next.new.self)
          c.loop-class.invariant.hand steps adds;
      counted = omega (arith, longer, lengths, counted);
    }

pub returns-clause-stand : goal.returns-clause-stand
returns-clause-stand c =
    let len = c.loop-class.class-iterator.rest.ok.0 in
    let ended = c.in-None.ensures.steps.0 in
    let none : into_iter_items c.loop-class.class-iterator ≡ [] = no_elements (into_iter_items c.loop-class.class-iterator) (omega arith) in
    hand_ends (facts_of c.args.heap.now) c.loop-class.self (waiting_for c.take.new.self) c.args.place c.index-above.result.now
    (into_iter_items c.loop-class.class-iterator) none c.loop-class.invariant.hand
