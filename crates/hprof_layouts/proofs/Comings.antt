-- What a class that comes changes.
use Rattle.std.specs.Prelude.{◌≢◌}
use Rattle.std.proofs.Common.{◌≡◌, ℕ, List, [], ◌∷◌, ◌++◌, Contains, Option, refl, sym, ap, subst, ◌∙◌, inl, inr}
use Rattle.hprof_values.specs.declared.ids.IdSize.{IdSize}
use Rattle.hprof_items.specs.FactValue.{FactValue}
use Rattle.hprof_heap.specs.Classes.{ClassValue, HasNoDump}
use Rattle.hprof_layouts.specs.Layout.{own_slots}
use Rattle.hprof_layouts.specs.declared.known.KnownLayouts.{KnownLayouts}
use Rattle.hprof_layouts.specs.declared.known.Waiting.{Waiting}
use Rattle.hprof_layouts.specs.declared.own_fields.OwnLayout.{OwnLayout}
use Rattle.hprof_layouts.specs.declared.plan.Plan.{Plan}
use Rattle.hprof_layouts.specs.Known.{AreWoken, HasDumpMore, HasLayout, Knows, plan_of, waiting_below}
use Rattle.hprof_layouts.specs.OwnFields.{IsOwn}
use Rattle.hprof_layouts.specs.Waking.{CanWake, IsWaking, PlansStand, Wakes, Woke}
use Rattle.hprof_layouts.specs.WaitingLists.{put}
use Rattle.hprof_layouts.proofs.KnownPlans.{known_ready, knows_standing, not_both, standing_knows}
use Rattle.hprof_layouts.proofs.Outlines.{known_zero}
use Rattle.hprof_layouts.proofs.Wakings.{stands_open, stands_waiting, stands_zero, woke_none}

-- the classes that got plans are those whose layouts became known
pub are_woken : (ids : IdSize) (facts more : List FactValue) (known other : KnownLayouts) (woken : List ℕ) → Knows ids facts known
    → Knows ids more other → Woke (plan_of known) (plan_of other) woken → AreWoken facts more woken
are_woken ids facts more known other woken knew knows woke = record { each = λ class. (there class, back class); once = woke.once } where
  there : (class : ℕ) → Contains woken class → HasLayout more class × ¬ HasLayout facts class
  there class here =
      let got = woke.woke class here in
      let only = knows.only class got.0.0 got.0.1 in
      (only.1, λ layout. let had = knew.planned class layout.0 only.0 layout.1 in not_both (plan_of known class) had.plan had.found got.1)

  back : (class : ℕ) → HasLayout more class × ¬ HasLayout facts class → Contains woken class
  back class is = elim (known_ready ids more other knows class is.0) [
    | inl zero_is ↦ absurd (is.1 (subst (HasLayout facts) (sym zero_is) ([], known_zero facts)))
    | inr planned ↦ elim (woke.gained class planned) [
      | inl had ↦ absurd (is.1 (knew.only class had.0 had.1).1)
      | inr here ↦ here
    ]
  ]

module _ (ids : IdSize) (facts more : List FactValue) (known : KnownLayouts) (knows : Knows ids facts known) (dump : ClassValue)
    (new : HasNoDump facts dump.id) (are : HasDumpMore facts dump more) where
  -- a dump of class 0
  pub zero_comes : dump.id ≡ 0 → Knows ids more known
  zero_comes is_zero =
      standing_knows ids more known
      (stands_zero ids facts more (plan_of known) (waiting_below known) (knows_standing ids facts known knows) dump new are is_zero)

  -- one of another class, which waits
  module _ (other : KnownLayouts) (own : OwnLayout) (own_are : IsOwn ids (own_slots dump) own) (not_zero : dump.id ≢ 0)
      (plans : plan_of other ≡ plan_of known)
      (waits : waiting_below other ≡ put (waiting_below known) dump.parent
      (waiting_below known dump.parent ++ record { class = dump.id; own = own } ∷ [])) where
    stands_then : PlansStand ids more (plan_of other) (waiting_below other) (dump.parent ∷ [])
    stands_then =
        subst (λ (w : ℕ → List Waiting). PlansStand ids more (plan_of other) w (dump.parent ∷ [])) (sym waits)
        (subst (λ (p : ℕ → Option Plan). PlansStand ids more p (put (waiting_below known) dump.parent
        (waiting_below known dump.parent ++ record { class = dump.id; own = own } ∷ [])) (dump.parent ∷ [])) (sym plans)
        (stands_waiting ids facts more (plan_of known) (waiting_below known) (knows_standing ids facts known knows) dump new are own own_are
        not_zero))

    -- the classes that wait for its superclass are to be woken
    pub wakes_then : IsWaking ids more (plan_of known) other [] (dump.parent ∷ [])
    wakes_then = record {
      standing = stands_then;
      woke = subst (λ (p : ℕ → Option Plan). Woke (plan_of known) p []) (sym plans) (woke_none (plan_of known));
    }

    -- but where that has no known layout
    pub waits_then : (CanWake (plan_of other) dump.parent → ⊥) → IsWaking ids more (plan_of known) other [] []
    waits_then unready = record {
      standing = stands_open ids more (plan_of other) (waiting_below other) (dump.parent ∷ []) stands_then dump.parent refl unready;
      woke = wakes_then.woke;
    }

-- classes that were woken, for which others may wait, after none was
pub wakes_first : (ids : IdSize) (facts : List FactValue) (before : ℕ → Option Plan) (known : KnownLayouts) (old new : List ℕ) → old ≡ []
    → Wakes ids facts before known old new [] → IsWaking ids facts before known new new
wakes_first ids facts before known old new none wakes =
    let same : new ≡ wakes.more = wakes.woken_are ∙ ap (λ (l : List ℕ). l ++ wakes.more) none in
    subst (IsWaking ids facts before known new) (sym same) wakes.waking

-- when no class is to be woken, it is known what there is to know
pub waking_ends : (ids : IdSize) (facts more : List FactValue) (known other : KnownLayouts) (woken : List ℕ) → Knows ids facts known
    → IsWaking ids more (plan_of known) other woken [] → Knows ids more other × AreWoken facts more woken
waking_ends ids facts more known other woken knew waking =
    let knows = standing_knows ids more other waking.standing in
    (knows, are_woken ids facts more known other woken knew knows waking.woke)
