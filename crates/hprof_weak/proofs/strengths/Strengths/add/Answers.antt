use Rattle.std.specs.Prelude.{◌↔◌, IsTrue}
use Rattle.std.proofs.Common.{◌⊎◌, inl, inr, refl, sym, ◌∙◌}
use Rattle.hprof_heap.specs.ClassDump.{class_value}
use Rattle.hprof_heap.specs.HeapFacts.{facts_of}
use Rattle.hprof_heap.proofs.ClassFacts.{one_dump_each}
use Rattle.hprof_layouts.specs.Layout.{own_slots}
use Rattle.hprof_weak.specs.Links.{nexts_in}
use Rattle.hprof_weak.specs.Weak.{IsClearing}
use Rattle.hprof_weak.proofs.Clearings.{strength_below}
use Rattle.hprof_weak.proofs.strengths.Strengths.add.Goals as goal
use Rattle.hprof_weak.proofs.strengths.Strengths.add.Goals.{then-above, else-above}

pub returns : goal.returns
returns c =
    let facts = facts_of c.args.heap.now in
    let dump = class_value c.args.dump.now in
    let above = c.args.above in
    let cleared : IsTrue c.if-above.is_cleared ↔ (IsClearing facts dump.id ⊎ IsTrue above.is_cleared) = elim c.if-above.branch [
      | then-above w ↦ (λ on. inr w.if-above.true, λ is. w.is_cleared-is ∙ w.if-above.true)
      | else-above w ↦ (
        λ on. inl (w.is_clearing-is_cleared.ensures.0 (sym w.is_cleared-is ∙ on)),
        λ is. elim is [
          | inl clearing ↦ w.is_cleared-is ∙ w.is_clearing-is_cleared.ensures.1 clearing
          | inr was ↦ let off = w.if-above.false in absurd cc
        ],
      )
    ] in
    record {
      strength = record { class = dump.id; is_cleared = c.if-above.is_cleared; first = c.in_ok-first.first };
      class_is = refl;
      strengths_are = c.in_ok-push.ensures.items;
      extends = c.in_ok-first.ensures.extends;
      right = strength_below facts (one_dump_each facts c.holds_of_heap.ensures.agree) dump c.requires.has c.requires.not_zero
          (nexts_in c.args.self.now.links) (nexts_in c.put_own.new.self) above c.requires.above c.requires.parent c.if-above.is_cleared
          c.in_ok-first.first (λ slots leads. c.in_ok-first.ensures.leads facts (own_slots dump) slots c.in_ok-flags.ensures leads) cleared;
    }
