-- A pass into a sink that picks, as the sink under it sees it.
use Rattle.std.proofs.Common.{◌≡◌, ℕ, true, List, [], ◌∷◌, ◌++◌, Result, Ok, Err, refl, sym, ap, subst, ◌∙◌}
use Rattle.std.proofs.lemmas.List.Elements.{filter-append}
use Rattle.hprof_values.specs.declared.ids.IdSize.{IdSize}
use Rattle.hprof_items.specs.FactValue.{FactValue}
use Rattle.hprof_passes.specs.declared.pass_fault.PassFault.{PassFault}
use Rattle.hprof_passes.specs.declared.pass_fault.PassFault.TheVariants.{Sink, Lost}
use Rattle.hprof_passes.specs.declared.picking.Picking.{Picking}
use Rattle.hprof_passes.specs.Passing.{Passes, TakesObjects}
use Rattle.hprof_passes.specs.Picked.{is_wanted, picked}
use Rattle.hprof_passes.specs.Picking.{PickAlike, PicksObject, RefusesPicked, sink_under, wanted_by}
use Rattle.hprof_passes.proofs.GoingOver.{takes_both}

-- those of two lists, one behind the other
picked_both : (wanted : List ℕ) (objects others : List FactValue) → picked wanted (objects ++ others)
    ≡ picked wanted objects ++ picked wanted others
picked_both wanted objects others = filter-append (is_wanted wanted) objects others

-- an object that is wanted is the first
picked_first : (wanted : List ℕ) (object : FactValue) (objects : List FactValue) → is_wanted wanted object ≡ true
    → picked wanted (object ∷ objects) ≡ object ∷ picked wanted objects
picked_first wanted object objects is = rw is refl

module _ {T E : Type 0} (takes : T → IdSize → FactValue → T → Type 0) (refuses : T → IdSize → FactValue → E → T → Type 0) (ids : IdSize)
  where
    -- ---- it stays one over the same sink

    alike_then : (old mid new : Picking T) → PickAlike old mid → PickAlike mid new → PickAlike old new
    alike_then old mid new first second = (second.0 ∙ first.0, second.1 ∙ first.1)

    alike_taken : (objects : List FactValue) (old new : Picking T) → TakesObjects (PicksObject takes) ids old objects new
        → PickAlike old new
    alike_taken [] old new same = subst (PickAlike old) same (refl, refl)
    alike_taken (object ∷ objects) old new took =
        alike_then old took.0 new took.1.alike (alike_taken objects took.0 new took.2)

    pub alike_passed : {A F : Type 0} (objects : List FactValue) (result : Result A (PassFault E F)) (old new : Picking T)
        → Passes (PicksObject takes) (RefusesPicked refuses) ids objects result old new → PickAlike old new
    alike_passed objects (Ok done) old new took = alike_taken objects old new took
    alike_passed objects (Err (Sink fault)) old new is =
        alike_then old is.mid new (alike_taken is.front old is.mid is.took) is.refused.alike
    alike_passed objects (Err (Lost fault)) old new is = alike_taken is.front old new is.took

    -- ---- the sink under it

    given_taken : (wanted : List ℕ) (objects : List FactValue) (old new : Picking T) → wanted_by old ≡ wanted
        → TakesObjects (PicksObject takes) ids old objects new
        → TakesObjects takes ids (sink_under old) (picked wanted objects) (sink_under new)
    given_taken wanted [] old new same took = ap (λ (it : Picking T). sink_under it) took
    given_taken wanted (object ∷ objects) old new same took =
        let mid = took.0 in
        let rest = given_taken wanted objects mid new (took.1.alike.0 ∙ same) took.2 in
        let first = subst (λ (ns : List ℕ). TakesObjects takes ids (sink_under old) (picked ns (object ∷ [])) (sink_under mid)) same
        took.1.took in
        subst (λ (l : List FactValue). TakesObjects takes ids (sink_under old) l (sink_under new))
        (sym (picked_both wanted (object ∷ []) objects))
        (takes_both takes ids (sink_under old) (sink_under mid) (sink_under new) (picked wanted (object ∷ [])) (picked wanted objects)
        first rest)

    -- a pass of objects gives it those that are wanted
    given_passed : {A F : Type 0} (wanted : List ℕ) (objects : List FactValue) (result : Result A (PassFault E F)) (old new : Picking T)
        → wanted_by old ≡ wanted → Passes (PicksObject takes) (RefusesPicked refuses) ids objects result old new
        → Passes takes refuses ids (picked wanted objects) result (sink_under old) (sink_under new)
    given_passed wanted objects (Ok done) old new same took = given_taken wanted objects old new same took
    given_passed wanted objects (Err (Sink fault)) old new same is =
        let alike = alike_taken is.front old is.mid is.took in
        record {
          front = picked wanted is.front;
          object = is.object;
          behind = picked wanted is.behind;
          are =
              ap (picked wanted) is.are ∙ picked_both wanted is.front (is.object ∷ is.behind)
              ∙ ap (λ (l : List FactValue). picked wanted is.front ++ l)
              (picked_first wanted is.object is.behind
              (subst (λ (ns : List ℕ). is_wanted ns is.object ≡ true) (alike.0 ∙ same) is.refused.wanted));
          mid = sink_under is.mid;
          took = given_taken wanted is.front old is.mid same is.took;
          refused = is.refused.refused;
        }
    given_passed wanted objects (Err (Lost fault)) old new same is = record {
      front = picked wanted is.front;
      behind = picked wanted is.behind;
      are = ap (picked wanted) is.are ∙ picked_both wanted is.front is.behind;
      took = given_taken wanted is.front old new same is.took;
    }

    -- the same, from what that sink was before the pass to what it is behind it
    pub given_between : {A F : Type 0} (wanted : List ℕ) (objects : List FactValue) (result : Result A (PassFault E F))
        (old new : Picking T) → wanted_by old ≡ wanted → Passes (PicksObject takes) (RefusesPicked refuses) ids objects result old new
        → (was now : T) → sink_under old ≡ was → now ≡ sink_under new → Passes takes refuses ids (picked wanted objects) result was now
    given_between wanted objects result old new same passes was now begins ends =
        subst (λ (t : T). Passes takes refuses ids (picked wanted objects) result was t) (sym ends)
        (subst (λ (t : T). Passes takes refuses ids (picked wanted objects) result t (sink_under new)) begins
        (given_passed wanted objects result old new same passes))
