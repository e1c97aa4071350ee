use Rattle.std.proofs.Common.{ℕ, ◌+◌, ◌<◌, ◌≤◌, ◌++◌, List, ◌∷◌, [], length, get_or, drop, sym, ap, subst, ◌∙◌, arith, ◌≡◌, Vec, Global}
use Rattle.hprof_values.specs.Ids.{width_of}
use Rattle.hprof_layouts.specs.declared.own_fields.OwnReference.{OwnReference}
use Rattle.hprof_layouts.specs.declared.reference.Reference.{Reference}
use Rattle.byteorder.specs.Endian.{big_number}
use Rattle.hprof_layouts.specs.OwnFields.{references_in}
use Rattle.hprof_layouts.specs.References.{is_wanted, wanted_of}
use Rattle.hprof_layouts.proofs.Pushes.{one_within, pushing_begins, pushing_other, pushing_wanted, wanted_left}
use Rattle.hprof_layouts.proofs.own_fields.OwnLayout.push_references.Goals as goal
use Rattle.hprof_layouts.proofs.own_fields.OwnLayout.push_references.Goals.{then-wants+in_ok-push, else-wants}

pub loop-own-init : goal.loop-own-init
loop-own-init c = λ slots are wide small.
    pushing_begins c.args.ids c.args.bytes.now c.args.place c.args.wanted c.args.self.now slots are c.args.references.now.items

pub returns-in_default : goal.returns-in_default
returns-in_default c = λ slots are wide small.
    let none = c.in_default.ensures in
    let items = c.deref-own-items.ensures.value in
    let first : OwnReference = record { offset = 0; place = 0 } in
    let one : OwnReference = get_or c.deref-own-items.result.now c.loop-own.own-index first in
    let lt : c.loop-own.own-index < length c.args.self.now.references.items =
    subst (λ (l : List OwnReference). c.loop-own.own-index < length l) items c.loop-own-test.true in
    let within = one_within c.args.ids c.args.bytes.now c.args.place c.args.wanted c.args.self.now slots are c.loop-own.own-index
    one first lt
    (ap (λ (l : List OwnReference). get_or l c.loop-own.own-index first) items) in
    let fits : one.offset + width_of c.args.ids ≤ length c.args.bytes.now = let end = within.0 in omega arith in
    absurd (none fits)

pub loop-own-preserved : goal.loop-own-preserved
loop-own-preserved c = λ slots are wide small.
    let so_far = c.loop-own.invariant slots are wide small in
    let items = c.deref-own-items.ensures.value in
    let first : OwnReference = record { offset = 0; place = 0 } in
    let one : OwnReference = get_or c.deref-own-items.result.now c.loop-own.own-index first in
    let lt : c.loop-own.own-index < length c.args.self.now.references.items =
    subst (λ (l : List OwnReference). c.loop-own.own-index < length l) items c.loop-own-test.true in
    let is : one ≡ get_or c.args.self.now.references.items c.loop-own.own-index first =
    ap (λ (l : List OwnReference). get_or l c.loop-own.own-index first) items in
    let old = c.args.references.now.items ++ wanted_of c.args.wanted (references_in c.args.ids c.args.place slots c.args.bytes.now) in
    let later = wanted_left c.args.ids c.args.bytes.now c.args.place c.args.wanted
    (drop (c.loop-own.own-index + 1) c.args.self.now.references.items) in
    let wants : c.wants.result ≡ is_wanted c.args.wanted (big_number (width_of c.args.ids) (drop one.offset c.args.bytes.now)) =
    c.wants.ensures ∙ ap (is_wanted c.args.wanted) c.in-Some.ensures.1 in
    elim c.if-wants.branch [
      | then-wants+in_ok-push w ↦
          let more = pushing_wanted c.args.ids c.args.bytes.now c.args.place c.args.wanted c.args.self.now slots are c.loop-own.own-index
          one first lt is c.loop-own.references.items old w.saturating_add.result small w.saturating_add.ensures
          (sym wants ∙ w.if-wants.true) so_far in
          ap (λ (l : List Reference). l ++ later) (ap (λ (v : Vec Reference Global). v.items) w.references-is ∙ w.in_ok-push.ensures.items
          ∙ ap (λ (to : ℕ). c.loop-own.references.items ++ record { place = w.saturating_add.result; to = to } ∷ []) c.in-Some.ensures.1)
          ∙ more
      | else-wants w ↦
          ap (λ (v : Vec Reference Global). v.items ++ later) w.references-is
          ∙ pushing_other c.args.ids c.args.bytes.now c.args.place c.args.wanted c.args.self.now slots are c.loop-own.own-index one first lt
          is c.loop-own.references.items old (sym wants ∙ w.if-wants.false) so_far
    ]
