use Rattle.std.proofs.Common.{◌≡◌, ◌∙◌, ◌∷◌, ◌++◌, [], ℕ, List, false, true, drop, get_or, nat_eq, slice_set}
use Rattle.std.proofs.Common.{refl, sym, ap, subst, arith}
use Rattle.std.specs.List.{IsDistinct, list_any}
use Rattle.std.proofs.Math.ListN.{length-set}
use Rattle.std.proofs.lemmas.List.{drop-append-le, get_or_read}
use Rattle.hprof_search.specs.Finds.{Finds, finds_of}
use Rattle.hprof_search.specs.Kept.{OrdersFound}
use Rattle.hprof_numbers.specs.Numbers.{items_in}
use Rattle.hprof_search.proofs.Arrived.{arrived}
use Rattle.hprof_search.proofs.Once.{distinct_more, leads_more, ordered_more}
use Rattle.hprof_search.proofs.trail.Trail.arrive.Goals as goal

-- the key is the number
pushed : (number key : ℕ) (old new : List ℕ) → key ≡ number → new ≡ old ++ key ∷ [] → new ≡ old ++ number ∷ []
pushed number key old new same is = is ∙ ap (λ (n : ℕ). old ++ n ∷ []) same

pub invariant_of-self-then-not-index-clause-ordered : goal.invariant_of-self-then-not-index-clause-ordered
invariant_of-self-then-not-index-clause-ordered c =
    let trail = c.args.self.now in
    subst (OrdersFound (slice_set trail.found.items c.args.number true)) (sym (pushed c.args.number c.in-Ok.key trail.order.items
    c.push.new.self.items c.in-Ok.ensures.1 c.in_ok-push.ensures.items))
    (ordered_more trail.found.items trail.order.items c.args.number c.requires.within trail.ordered)

pub invariant_of-self-then-not-index-clause-once : goal.invariant_of-self-then-not-index-clause-once
invariant_of-self-then-not-index-clause-once c =
    let trail = c.args.self.now in
    let is : c.index.result.now ≡ false = cc in
    let unfound : get_or trail.found.items c.args.number false ≡ false =
    sym (get_or_read trail.found.items c.args.number c.index.result.now c.requires.within c.index.ensures false) ∙ is in
    let absent : list_any (nat_eq c.args.number) trail.order.items ≡ false = trail.ordered c.args.number ∙ unfound in
    subst (IsDistinct nat_eq) (sym (pushed c.args.number c.in-Ok.key trail.order.items c.push.new.self.items c.in-Ok.ensures.1
    c.in_ok-push.ensures.items))
    (distinct_more trail.order.items c.args.number absent trail.once)

pub invariant_of-self-then-not-index-clause-back : goal.invariant_of-self-then-not-index-clause-back
invariant_of-self-then-not-index-clause-back c =
    let trail = c.args.self.now in
    let paired = trail.paired in
    leads_more (items_in trail.before) (items_in c.set.new.self) c.args.number c.args.from trail.back c.set.ensures.items
    (omega (arith, paired, c.requires.within)) (omega (arith, paired, c.requires.from_within))

pub invariant_of-self-then-not-index-clause-fits : goal.invariant_of-self-then-not-index-clause-fits
invariant_of-self-then-not-index-clause-fits c =
    let trail = c.args.self.now in
    let fits = trail.fits in
    let bound = c.set.ensures.bound in
    omega (arith, fits, bound, length-set trail.found.items c.args.number true)

pub returns-in_ok-push : goal.returns-in_ok-push
returns-in_ok-push c =
    let trail = c.args.self.now in
    let number = c.args.number in
    let items = trail.order.items in
    let paired = trail.paired in
    let is : c.index.result.now ≡ false = cc in
    let unfound : get_or trail.found.items number false ≡ false =
    sym (get_or_read trail.found.items number c.index.result.now c.requires.within c.index.ensures false) ∙ is in
    let grown : c.push.new.self.items ≡ items ++ number ∷ [] =
    pushed number c.in-Ok.key items c.push.new.self.items c.in-Ok.ensures.1 c.in_ok-push.ensures.items in
    let new : Finds = record {
      found = slice_set trail.found.items number true;
      before = items_in c.set.new.self;
      order = c.push.new.self.items;
      next = drop trail.next c.push.new.self.items;
    } in
    arrived (finds_of trail) new number c.args.from c.requires.within (omega arith) unfound refl c.set.ensures.items grown
    (ap (drop trail.next) grown ∙ drop-append-le trail.next items (number ∷ []) trail.begins)
