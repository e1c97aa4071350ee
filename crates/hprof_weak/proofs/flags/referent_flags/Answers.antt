use Rattle.std.specs.Prelude.{◌↔◌, IsTrue, map}
use Rattle.std.proofs.Common.{◌≡◌, ◌∷◌, Bool, List, ap, subst, sym, ◌∙◌}
use Rattle.hprof_values.specs.Lists.{entries_left}
use Rattle.hprof_values.specs.Value.{field_of}
use Rattle.hprof_heap.specs.ClassDump.{class_value}
use Rattle.hprof_heap.specs.HeapFacts.{facts_of}
use Rattle.hprof_layouts.specs.Layout.{own_slots, slot_of}
use Rattle.hprof_weak.specs.Weak.{IsReferent}
use Rattle.hprof_weak.proofs.FlagLists.{FlagsSoFar, flags_on}
use Rattle.hprof_weak.proofs.flags.referent_flags.Goals as goal
use Rattle.hprof_weak.proofs.flags.referent_flags.Goals.{then-is_reference, else-is_reference}

pub loop-field-preserved : goal.loop-field-preserved
loop-field-preserved c =
    let facts = facts_of c.args.heap.now in
    let id = c.args.dump.now.id in
    let all = own_slots (class_value c.args.dump.now) in
    let left = map (slot_of id) (map field_of (entries_left c.loop-field.field-iterator)) in
    let rest = map (slot_of id) (map field_of (entries_left c.next.new.self)) in
    let slot = slot_of id c.in-Some.field in
    let next : left ≡ slot ∷ rest = ap (map (slot_of id)) c.in-Some.ensures.steps in
    let is : IsTrue c.if-is_reference.push ↔ IsReferent facts slot = elim c.if-is_reference.branch [
      | then-is_reference w ↦ (
        λ on. record {
          declared = c.is_reference-is_reference.ensures.0 w.if-is_reference.true;
          named = w.names_referent.ensures.0 (sym w.push-is ∙ on);
        },
        λ is. w.push-is ∙ w.names_referent.ensures.1 is.named,
      )
      | else-is_reference w ↦ (
        λ on. let off = w.push-is in absurd cc,
        λ is. let on = c.is_reference-is_reference.ensures.1 is.declared in let off = w.if-is_reference.false in absurd cc,
      )
    ] in
    subst (λ (l : List Bool). FlagsSoFar facts l all rest) (sym c.in_ok-push.ensures.items)
    (flags_on facts c.loop-field.flags.items c.if-is_reference.push all left rest slot next c.loop-field.invariant is)
