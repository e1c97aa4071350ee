use Rattle.std.proofs.Common.{◌≡◌, ◌++◌, ◌∷◌, [], List, Option, Some, subst, sym, arith, length}
use Rattle.std.proofs.lemmas.List.{nil_from_length}
use Rattle.hprof_weak.specs.declared.links.Link.{Link}
use Rattle.hprof_weak.specs.Links.{Extends, nexts_in}
use Rattle.hprof_weak.proofs.LinkLists.{LeadsBehind, all_behind, behind_other, behind_referent, extends_more, nothing_popped}
use Rattle.hprof_weak.proofs.links.Links.put_own.Goals as goal

pub loop-is_referent-preserved-then-is_referent : goal.loop-is_referent-preserved-then-is_referent
loop-is_referent-preserved-then-is_referent c =
    let nexts = nexts_in c.loop-is_referent.self in
    let first = c.loop-is_referent.first in
    let longer = c.in_ok-push.ensures.items in
    record {
      extends = subst (Extends (nexts_in c.args.self.now)) (sym longer)
          (extends_more (nexts_in c.args.self.now) nexts first c.loop-is_referent.invariant.extends);
      leads = λ facts own slots are leads.
          let was = c.loop-is_referent.invariant.leads facts own slots are leads in
          let behind = behind_referent facts nexts c.loop-is_referent.left.items c.pop.new.self.items c.in-Some.is_referent own slots first
          was c.in-Some.ensures.items c.if-is_referent.true in
          let at = c.len-number.ensures in
          let ok = c.loop-is_referent.self.nexts.ok.0 in
          let counted : length nexts ≡ c.len-number.result = omega arith in
          let numbered = subst (λ n. LeadsBehind facts (nexts ++ first ∷ []) c.pop.new.self.items own slots
          (Some (record { before = 0; number = n }))) counted behind in
          subst (λ (l : List (Option Link)). LeadsBehind facts l c.pop.new.self.items own slots
          (Some (record { before = 0; number = c.len-number.result }))) (sym longer) numbered;
    }

pub loop-is_referent-preserved : goal.loop-is_referent-preserved
loop-is_referent-preserved c =
    let nexts = nexts_in c.loop-is_referent.self in
    record {
      extends = c.loop-is_referent.invariant.extends;
      leads = λ facts own slots are leads.
          let was = c.loop-is_referent.invariant.leads facts own slots are leads in
          subst (λ (o : Option Link). LeadsBehind facts nexts c.pop.new.self.items own slots o) (sym c.behind_one-first.ensures)
          (behind_other facts nexts c.loop-is_referent.left.items c.pop.new.self.items c.in-Some.is_referent own slots
          c.loop-is_referent.first was c.in-Some.ensures.items c.if-is_referent.false);
    }

pub returns-clause-leads : goal.returns-clause-leads
returns-clause-leads c = λ facts own slots are leads.
    let left = c.loop-is_referent.left in
    let len = left.ok.0 in
    let empty = nothing_popped c.pop.result _ _ c.pop.ensures.cases c.in_default.not-Some in
    let none : left.items ≡ [] = nil_from_length left.items (let e = empty.0 in omega arith) in
    all_behind facts (nexts_in c.loop-is_referent.self) left.items own slots c.loop-is_referent.first none
    (c.loop-is_referent.invariant.leads facts own slots are leads)
