-- The classes that waited for a class, woken one by one.
use Rattle.std.proofs.lemmas.List.{append-nil, drop-append-le}
use Rattle.std.proofs.lemmas.List.Elements.{Contains-get_or}
use Rattle.std.proofs.Common.{◌≡◌, ℕ, ◌+◌, ◌<◌, ◌≤◌, List, [], ◌∷◌, ◌++◌, Contains, length, drop, get_or, Option, Some, refl, sym, ap}
use Rattle.std.proofs.Common.{subst, ◌∙◌, append_assoc, inr, arith}
use Rattle.hprof_values.specs.declared.ids.IdSize.{IdSize}
use Rattle.hprof_items.specs.FactValue.{FactValue}
use Rattle.hprof_rows.proofs.Tables.{drop_from}
use Rattle.hprof_layouts.specs.declared.slot.Slot.{Slot}
use Rattle.hprof_layouts.specs.Layout.{IsKnown}
use Rattle.hprof_layouts.specs.declared.known.KnownLayouts.{KnownLayouts}
use Rattle.hprof_layouts.specs.declared.known.Waiting.{Waiting}
use Rattle.hprof_layouts.specs.declared.plan.Plan.{Plan}
use Rattle.hprof_layouts.specs.Known.{plan_of, waiting_below}
use Rattle.hprof_layouts.specs.Plan.{IsPlanBelow}
use Rattle.hprof_layouts.specs.Waking.{CanWake, IsWaking, PlansStand, Wakes, Woke}
use Rattle.hprof_layouts.specs.WaitingLists.{put}
use Rattle.hprof_layouts.proofs.Wakings.{first_unplanned, put-put, put-same, stands_without, stands_woken, woke_more}

module _ (ids : IdSize) (facts : List FactValue) (before : ℕ → Option Plan) (class : ℕ) (pending old : List ℕ) where
  -- some of those that waited for the class were woken, and the rest is in hand
  pub record InHand (plans : ℕ → Option Plan) (waits : ℕ → List Waiting) (woken : List ℕ) (rest : List Waiting) : Type 0 where
    pub more : List ℕ
    pub woken_are : woken ≡ old ++ more
    pub standing : PlansStand ids facts plans (put waits class rest) (class ∷ (pending ++ more))
    pub woke : Woke before plans woken

  pub hand_begins : (plans : ℕ → Option Plan) (waits taken : ℕ → List Waiting) (rest : List Waiting) → taken ≡ put waits class []
      → waits class ≡ rest → PlansStand ids facts plans waits (class ∷ pending) → Woke before plans old → InHand plans taken old rest
  hand_begins plans waits taken rest e f stands woke =
      let same : put taken class rest ≡ waits =
      ap (λ (w : ℕ → List Waiting). put w class rest) e ∙ put-put waits class [] rest ∙ put-same waits class rest f in
      record {
        more = [];
        woken_are = sym (append-nil old);
        standing = subst (λ (w : ℕ → List Waiting). PlansStand ids facts plans w (class ∷ (pending ++ []))) (sym same)
            (subst (λ (l : List ℕ). PlansStand ids facts plans waits (class ∷ l)) (sym (append-nil pending)) stands);
        woke = woke;
      }

  pub hand_more : (plans after : ℕ → Option Plan) (waits : ℕ → List Waiting) (woken : List ℕ) (rest later : List Waiting) (first : Waiting)
      (slots : List Slot) (plan : Plan) → IsKnown facts class slots → IsPlanBelow ids facts slots first.own plan
      → InHand plans waits woken rest → rest ≡ first ∷ later → after ≡ put plans first.class (Some plan)
      → InHand after waits (woken ++ first.class ∷ []) later
  hand_more plans after waits woken rest later first slots plan known below hand e f =
      let stands : PlansStand ids facts plans (put waits class (first ∷ later)) (class ∷ (pending ++ hand.more)) =
      subst (λ (l : List Waiting). PlansStand ids facts plans (put waits class l) (class ∷ (pending ++ hand.more))) e hand.standing in
      let then = stands_woken ids facts plans waits class first later (pending ++ hand.more) stands slots known plan below in
      let none = first_unplanned ids facts plans waits class first later (pending ++ hand.more) stands slots known plan below in
      record {
        more = hand.more ++ first.class ∷ [];
        woken_are = ap (λ (l : List ℕ). l ++ first.class ∷ []) hand.woken_are ∙ append_assoc old hand.more (first.class ∷ []);
        standing = subst (λ (p : ℕ → Option Plan). PlansStand ids facts p (put waits class later)
            (class ∷ (pending ++ (hand.more ++ first.class ∷ [])))) (sym f)
            (subst (λ (l : List ℕ). PlansStand ids facts (put plans first.class (Some plan)) (put waits class later) (class ∷ l))
            (append_assoc pending hand.more (first.class ∷ [])) then);
        woke = subst (λ (p : ℕ → Option Plan). Woke before p (woken ++ first.class ∷ [])) (sym f)
            (woke_more before plans woken first.class plan hand.woke none);
      }

  -- when none is left in hand
  pub hand_ends : (known : KnownLayouts) (woken : List ℕ) → InHand (plan_of known) (waiting_below known) woken []
      → waiting_below known class ≡ [] → Wakes ids facts before known old woken pending
  hand_ends known woken hand none =
      let stands = subst (λ (w : ℕ → List Waiting). PlansStand ids facts (plan_of known) w (class ∷ (pending ++ hand.more)))
      (put-same (waiting_below known) class [] none) hand.standing in
      record {
        more = hand.more;
        woken_are = hand.woken_are;
        waking = record {
          standing = stands_without ids facts (plan_of known) (waiting_below known) (class ∷ (pending ++ hand.more)) stands class
              (pending ++ hand.more) refl none;
          woke = hand.woke;
        };
      }

  -- where none waited
  pub none_in_hand : (known other : KnownLayouts) → plan_of other ≡ plan_of known → waiting_below other ≡ waiting_below known
      → waiting_below known class ≡ [] → IsWaking ids facts before known old (class ∷ pending)
      → Wakes ids facts before other old old pending
  none_in_hand known other e f none waking =
      let stands = stands_without ids facts (plan_of known) (waiting_below known) (class ∷ pending) waking.standing class pending refl
      none in
      let stands_other : PlansStand ids facts (plan_of other) (waiting_below other) pending =
      subst (λ (w : ℕ → List Waiting). PlansStand ids facts (plan_of other) w pending) (sym f)
      (subst (λ (p : ℕ → Option Plan). PlansStand ids facts p (waiting_below known) pending) (sym e) stands) in
      record {
        more = [];
        woken_are = sym (append-nil old);
        waking = record {
          standing = subst (PlansStand ids facts (plan_of other) (waiting_below other)) (sym (append-nil pending)) stands_other;
          woke = subst (λ (p : ℕ → Option Plan). Woke before p old) (sym e) waking.woke;
        };
      }

-- ---- one after the other

-- the class at a place of the list is the next that is still to be woken below
pub wakes_next : (ids : IdSize) (facts : List FactValue) (before : ℕ → Option Plan) (known : KnownLayouts) (woken : List ℕ)
    (place class : ℕ) → place < length woken → class ≡ get_or woken place class → IsWaking ids facts before known woken (drop place woken)
    → CanWake (plan_of known) class × IsWaking ids facts before known woken (class ∷ drop (place + 1) woken)
wakes_next ids facts before known woken place class within is waking =
    let next : drop place woken ≡ class ∷ drop (place + 1) woken =
    drop_from woken place class within ∙ ap (λ (c : ℕ). c ∷ drop (place + 1) woken) (sym is) in
    let there : Contains woken class = subst (Contains woken) (sym is) (Contains-get_or woken place class within) in
    (inr (waking.woke.woke class there).0, subst (IsWaking ids facts before known woken) next waking)

-- and then those behind it are, with the classes that it woke
pub wakes_on : (ids : IdSize) (facts : List FactValue) (before : ℕ → Option Plan) (known : KnownLayouts) (old new : List ℕ) (place : ℕ)
    → place < length old → Wakes ids facts before known old new (drop (place + 1) old)
    → IsWaking ids facts before known new (drop (place + 1) new)
wakes_on ids facts before known old new place within wakes =
    let few : place + 1 ≤ length old = omega arith in
    let rest : drop (place + 1) new ≡ drop (place + 1) old ++ wakes.more =
    ap (drop (place + 1)) wakes.woken_are ∙ drop-append-le (place + 1) old wakes.more few in
    subst (IsWaking ids facts before known new) (sym rest) wakes.waking
