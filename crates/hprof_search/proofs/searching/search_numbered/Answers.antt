use Rattle.std.proofs.Common.{◌≡◌, ◌<◌, ◌+◌, ◌∙◌, ℕ, suc, Bool, false, not, List, [], None, count_by, drop, get_or, length, refl, ap, sym}
use Rattle.std.proofs.Common.{subst, arith, eqb-true, vec_len}
use Rattle.std.proofs.Math.ListN.{drop_of_length-le}
use Rattle.std.proofs.lemmas.List.{length-replicate}
use Rattle.std.proofs.lemmas.List.Elements.{Contains-get_or}
use Rattle.hprof_search.specs.Finds.{Finds, Follows, LeadsOn, LeadsTo, finds_of, is_found}
use Rattle.hprof_search.proofs.Counts.{came_next, few_left, few_first, none_found, none_there, some_there}
use Rattle.hprof_search.proofs.FirstLevel.{searched_first}
use Rattle.hprof_search.proofs.Followed.{follows_same}
use Rattle.hprof_search.proofs.Levels.{IsSearched, searched_more, searched_still}
use Rattle.hprof_search.proofs.Ordered.{IsByDistance, first_in_order, more_in_order}
use Rattle.hprof_search.proofs.Searched.{searches_over}
use Rattle.hprof_search.proofs.searching.search_numbered.Goals as goal

pub loop-steps-init : goal.loop-steps-init
loop-steps-init g c =
    let nodes = c.args.numbered.nodes.items in
    let Leads = g.S.Steps.leads c.args.steps.now nodes in
    let starts = c.args.starts.now in
    let old = finds_of c.in_ok-trail.trail in
    let middle = finds_of c.begin.new.trail in
    let new = finds_of c.take_next.new.self in
    let level = c.take_next.new.level.items in
    let empty : (number : ℕ) → is_found old number ≡ false =
    λ number. ap (λ (fs : List Bool). get_or fs number false) c.in_ok-trail.ensures.found ∙ none_found c.len.result number in
    let many : length old.found ≡ length nodes = ap (length {A = Bool}) c.in_ok-trail.ensures.found ∙ length-replicate c.len.result false
    ∙ c.len.ensures in
    let follows = c.in_ok-begin.ensures in
    let no_next : old.next ≡ [] = ap (drop c.in_ok-trail.trail.next) c.in_ok-trail.ensures.order ∙ drop_of_length-le [] (omega arith) in
    let came = came_next (LeadsTo nodes None starts) old middle follows no_next level c.in_ok-take_next.ensures.same in
    let first = searched_first Leads nodes starts old middle empty many follows level came in
    let found : new.found ≡ middle.found = rw c.in_ok-take_next.ensures.found in
    let before : new.before ≡ middle.before = rw c.in_ok-take_next.ensures.before in
    let order : new.order ≡ middle.order = rw c.in_ok-take_next.ensures.order in
    let few = few_first (LeadsTo nodes None starts) old middle follows no_next level c.in_ok-take_next.ensures.as_many in
    let same : count_by not new.found ≡ count_by not middle.found = ap (count_by not) found in record {
      searched = searched_still Leads nodes starts middle new level 0 found before first;
      ascend = c.in_ok-take_next.ensures.ascend;
      none = c.in_ok-take_next.ensures.none;
      order = subst (IsByDistance Leads nodes starts) (sym order)
          (first_in_order Leads nodes starts old middle empty many follows c.in_ok-trail.ensures.order no_next);
      few = omega arith;
      stays = λ node to. (λ leads. leads, λ leads. leads);
      stands = c.requires.stands;
    }

pub lead_on-requires-clause-ascend : goal.lead_on-requires-clause-ascend
lead_on-requires-clause-ascend g c = rw c.deref.ensures.value c.loop-steps.invariant.ascend

pub lead_on-requires-clause-within : goal.lead_on-requires-clause-within
lead_on-requires-clause-within g c = rw c.deref.ensures.value (λ number d below.
    let level = c.loop-steps.level.items in
    (c.loop-steps.invariant.searched.last_near (get_or level number d) (Contains-get_or level number d below)).0)

pub loop-steps-preserved : goal.loop-steps-preserved
loop-steps-preserved g c =
    let nodes = c.args.numbered.nodes.items in
    let Leads = g.S.Steps.leads c.args.steps.now nodes in
    let starts = c.args.starts.now in
    let was = c.loop-steps.invariant in
    let old = finds_of c.loop-steps.trail in
    let middle = finds_of c.lead_on.new.trail in
    let new = finds_of c.take_next-in-loop-steps.new.self in
    let last = c.loop-steps.level.items in
    let level = c.take_next-in-loop-steps.new.level.items in
    let taken = c.in_ok-take_next-2.ensures in
    let stays = c.in_ok-lead_on.ensures.stays in
    let led = subst (λ (ns : List ℕ). Follows (LeadsOn (g.S.Steps.leads c.loop-steps.steps nodes) nodes ns) old middle)
    c.deref.ensures.value c.in_ok-lead_on.ensures.ok in
    let follows = follows_same (LeadsOn (g.S.Steps.leads c.loop-steps.steps nodes) nodes last) (LeadsOn Leads nodes last) old middle
    (λ from to below. (λ on. (on.0, (was.stays _ _).0 on.1), λ on. (on.0, (was.stays _ _).1 on.1))) led in
    let came = came_next (LeadsOn Leads nodes last) old middle follows was.none level taken.same in
    let more = searched_more Leads nodes starts c.args.numbered.ascend old middle last c.loop-steps.levels was.searched follows
    level came in
    let found : new.found ≡ middle.found = rw taken.found in
    let before : new.before ≡ middle.before = rw taken.before in
    let order : new.order ≡ middle.order = rw taken.order in
    let left = few_left (LeadsOn Leads nodes last) old middle follows was.none level taken.as_many in
    let same : count_by not new.found ≡ count_by not middle.found = ap (count_by not) found in
    let few = was.few in
    let one : suc c.loop-steps.levels ≡ c.loop-steps.levels + 1 = omega arith in
    let some : 0 < length last =
    some_there last (vec_len c.loop-steps.level) (omega (arith, c.loop-steps.level.ok.0))
    (sym c.is_empty.ensures ∙ c.loop-steps-test.true) in record {
      searched = subst (IsSearched Leads nodes starts new level) one
          (searched_still Leads nodes starts middle new level (suc c.loop-steps.levels) found before more);
      ascend = taken.ascend;
      none = taken.none;
      order = subst (IsByDistance Leads nodes starts) (sym order) (more_in_order Leads nodes starts
          c.args.numbered.ascend old middle last c.loop-steps.levels was.searched follows c.loop-steps.trail.ordered was.none
          was.order);
      few = omega arith;
      stays = λ node to. (
        λ leads. (was.stays node to).0 ((stays node to).0 leads),
        λ leads. (stays node to).1
            ((was.stays node to).1 leads),
      );
      stands = c.in_ok-lead_on.ensures.stands;
    }

pub returns : goal.returns
returns g c =
    let nodes = c.args.numbered.nodes.items in
    let Leads = g.S.Steps.leads c.args.steps.now nodes in
    let starts = c.args.starts.now in
    let finds = finds_of c.loop-steps.trail in
    let kept : Finds = record { found = finds.found; before = finds.before; order = finds.order; next = [] } in
    let level = c.loop-steps.level.items in
    let was = c.loop-steps.invariant.searched in
    let empty : level ≡ [] = none_there level
    (let none = eqb-true (vec_len c.loop-steps.level) 0 (sym c.is_empty.ensures ∙ c.loop-steps-test.false) in omega
    (arith, c.loop-steps.level.ok.0)) in
    let last = subst (λ (ns : List ℕ). IsSearched Leads nodes starts finds ns c.loop-steps.levels) empty was in
    let searched = searched_still Leads nodes starts finds kept [] c.loop-steps.levels refl refl last in
    searches_over Leads starts nodes _ c.into_nodes.ensures searched c.loop-steps.trail.once c.loop-steps.invariant.order
