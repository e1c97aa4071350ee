-- What stands while classes come, wait and are woken.
use Rattle.std.specs.Prelude.{◌≢◌}
use Rattle.std.specs.Cmp.{nat_eq_equiv}
use Rattle.std.specs.List.{IsDistinct, AllByRecursion, list_any}
use Rattle.std.proofs.Math.Path.{fun_ext}
use Rattle.std.proofs.lemmas.Bool.{cases_eq, eq-eqb, eqb-true, false_from_ne_true}
use Rattle.std.proofs.lemmas.List.{map-append}
use Rattle.std.proofs.lemmas.List.Elements.{Contains-append_left, Contains-append_right, Contains-append_cases, Contains-push}
use Rattle.std.proofs.lemmas.List.Elements.{Contains-push_cases}
use Rattle.std.proofs.lemmas.Map.Keys.{IsDistinct-push, IsDistinct-head, IsDistinct-tail}
use Rattle.std.proofs.lemmas.Map.Views.{Contains-from_any}
use Rattle.std.proofs.Common.{◌≡◌, ℕ, ◌==◌, Bool, true, false, cond, List, [], ◌∷◌, ◌++◌, map, Contains, Option, Some, None, nat_eq}
use Rattle.std.proofs.Common.{refl, sym, ap, subst, ◌∙◌, ◌⊎◌, inl, inr}
use Rattle.hprof_values.specs.declared.ids.IdSize.{IdSize}
use Rattle.hprof_items.specs.FactValue.{FactValue}
use Rattle.hprof_heap.specs.Classes.{ClassValue, HasDump, HasNoDump}
use Rattle.hprof_layouts.specs.declared.slot.Slot.{Slot}
use Rattle.hprof_layouts.specs.Layout.{IsKnown, own_slots}
use Rattle.hprof_layouts.specs.declared.own_fields.OwnLayout.{OwnLayout}
use Rattle.hprof_layouts.specs.declared.known.Waiting.{Waiting}
use Rattle.hprof_layouts.specs.declared.plan.Plan.{Plan}
use Rattle.hprof_layouts.specs.Known.{HasDumpMore, HasPlan, IsOnceEach, IsWaiting, Waits}
use Rattle.hprof_layouts.specs.OwnFields.{IsOwn}
use Rattle.hprof_layouts.specs.Plan.{IsOutline, IsPlan, IsPlanBelow, outline_at}
use Rattle.hprof_layouts.specs.Waking.{IsPlanned, CanWake, PlansStand, Woke}
use Rattle.hprof_layouts.specs.WaitingLists.{put}
use Rattle.hprof_layouts.proofs.KnownPlans.{There, Nowhere, look, not_both}
use Rattle.hprof_layouts.proofs.MoreDumps.{plan_stays, waiting_stays}
use Rattle.hprof_layouts.proofs.Outlines.{known_zero, outline_is}
use Rattle.hprof_layouts.proofs.ReferenceSets.{nothing_there, one_there}

-- ---- a function with another value at a place

module _ {X : Type 0} (f : ℕ → X) (place : ℕ) (value : X) where
  pub put-here : (at : ℕ) → at ≡ place → put f place value at ≡ value
  put-here at e = ap (λ (b : Bool). cond b value (f at)) (eq-eqb place at (sym e))

  pub put-other : (at : ℕ) → at ≢ place → put f place value at ≡ f at
  put-other at apart =
      ap (λ (b : Bool). cond b value (f at)) (false_from_ne_true (place == at) (λ e. apart (sym (eqb-true place at e))))

-- put twice
pub put-put : {X : Type 0} (f : ℕ → X) (place : ℕ) (one other : X) → put (put f place one) place other ≡ put f place other
put-put f place one other = fun_ext (λ at. elim (place == at) as (λ b. cond b other (cond b one (f at)) ≡ cond b other (f at)) [
  | true ↦ refl
  | false ↦ refl
])

-- what is there is put there
pub put-same : {X : Type 0} (f : ℕ → X) (place : ℕ) (value : X) → f place ≡ value → put f place value ≡ f
put-same f place value e = fun_ext (λ at. elim (cases_eq at place) [
  | inl same ↦ put-here f place value at same ∙ sym e ∙ sym (ap f same)
  | inr other ↦ put-other f place value at other
])

-- ---- lists of which no element comes twice

-- an element more
pub distinct_push : (xs : List ℕ) (x : ℕ) → IsDistinct nat_eq xs → (Contains xs x → ⊥) → IsDistinct nat_eq (xs ++ x ∷ [])
distinct_push xs x distinct new =
    IsDistinct-push nat_eq_equiv xs x distinct
    (false_from_ne_true (list_any (nat_eq x) xs) (λ e. new (Contains-from_any {eq = nat_eq} eqb-true x xs e)))

abbrev pub classes_of : List Waiting → List ℕ
classes_of list = map (λ waiting. waiting.class) list

-- a class of a list is that of one that waits
pub of_classes : (list : List Waiting) (class : ℕ) → Contains (classes_of list) class
    → (waiting : Waiting) × Contains list waiting × (waiting.class ≡ class)
of_classes [] class there = absurd (nothing_there class there)
of_classes (first ∷ list) class there =
    elim (Contains-append_cases (first.class ∷ []) (classes_of list) class there) [
      | inl here ↦ (first, Contains-append_left (first ∷ []) list first (Contains-push [] first), one_there first.class class here)
      | inr later ↦
          let found = of_classes list class later in
          (found.0, Contains-append_right (first ∷ []) list found.0 found.1, found.2)
    ]

-- each of the others has another class than the first
pub apart_from_first : (first : Waiting) (list : List Waiting) (waiting : Waiting) → IsOnceEach (first ∷ list) → Contains list waiting
    → waiting.class ≡ first.class → ⊥
apart_from_first first list waiting once there same =
    go list (IsDistinct-head nat_eq first.class (classes_of list) once) there where
      go : (others : List Waiting) → AllByRecursion (λ y. nat_eq first.class y ≡ false) (classes_of others) → Contains others waiting → ⊥
      go [] apart here = nothing_there waiting here
      go (other ∷ others) apart here = elim (Contains-append_cases (other ∷ []) others waiting here) [
        | inl one ↦
            let e : first.class ≡ other.class = sym same ∙ sym (ap (λ (w : Waiting). w.class) (one_there other waiting one)) in
            let clash : true ≡ false = sym (eq-eqb first.class other.class e) ∙ apart.0 in
            cc
        | inr later ↦ go others apart.1 later
      ]

-- ---- a class that is ready

module _ (ids : IdSize) (facts : List FactValue) (plans : ℕ → Option Plan) (waits : ℕ → List Waiting) (pending : List ℕ)
    (stands : PlansStand ids facts plans waits pending) where
  -- class 0 has no plan
  no_plan_of_zero : plans 0 ≡ None
  no_plan_of_zero = elim (look (plans 0)) [
    | There plan e ↦ absurd ((stands.plans_are 0 plan e).1.is.not_zero refl)
    | Nowhere e ↦ e
  ]

  -- its layout, and the outline of that
  pub record HasOutline (class : ℕ) : Type 0 where
    pub slots : List Slot
    pub known : IsKnown facts class slots
    pub outline_are : IsOutline ids facts slots (outline_at class (plans class))

  pub ready_outline : (class : ℕ) → CanWake plans class → HasOutline class
  ready_outline class (inl zero_is) =
      let none : plans class ≡ None = ap plans zero_is ∙ no_plan_of_zero in
      record {
        slots = [];
        known = subst (λ (c : ℕ). IsKnown facts c []) (sym zero_is) (known_zero facts);
        outline_are = subst (λ (p : Option Plan). IsOutline ids facts [] (outline_at class p)) (sym none)
            (record { width_is = refl; first_is = tt });
      }
  ready_outline class (inr planned) =
      let has = stands.plans_are class planned.0 planned.1 in
      record {
        slots = has.0;
        known = has.1.is.known;
        outline_are = subst (λ (p : Option Plan). IsOutline ids facts has.0 (outline_at class p)) (sym has.1.found)
            (outline_is ids facts class has.0 has.1.plan has.1.is);
      }

  -- a class for which none waits need not be woken below
  pub stands_without : (class : ℕ) (others : List ℕ) → pending ≡ class ∷ others → waits class ≡ [] → PlansStand ids facts plans waits others
  stands_without class others e none = record {
    each = stands.each;
    plans_are = stands.plans_are;
    waits_are = stands.waits_are;
    unplanned = stands.unplanned;
    all = stands.all;
    closed = λ superclass waiting there. elim (stands.closed superclass waiting there) [
      | inr off ↦ inr off
      | inl some ↦ elim (Contains-append_cases (class ∷ []) others superclass (subst (λ (l : List ℕ). Contains l superclass) e some)) [
        | inr other ↦ inl other
        | inl same ↦ absurd (nothing_there waiting (subst (λ (l : List Waiting). Contains l waiting)
            (ap waits (sym (one_there class superclass same)) ∙ none) there))
      ]
    ];
    once = stands.once;
  }

  -- nor a class that is not ready
  pub stands_open : (class : ℕ) → pending ≡ class ∷ [] → (CanWake plans class → ⊥) → PlansStand ids facts plans waits []
  stands_open class e unready = record {
    each = stands.each;
    plans_are = stands.plans_are;
    waits_are = stands.waits_are;
    unplanned = stands.unplanned;
    all = stands.all;
    closed = λ superclass waiting there. elim (stands.closed superclass waiting there) [
      | inr is ↦ inr is
      | inl some ↦
          let same : class ≡ superclass = one_there class superclass (subst (λ (l : List ℕ). Contains l superclass) e some) in
          let not_ready : CanWake plans superclass → ⊥ = subst (λ (s : ℕ). CanWake plans s → ⊥) same unready in
          inr (
            λ is_zero. not_ready (inl is_zero),
            elim (look (plans superclass)) [
              | There plan is ↦ absurd (not_ready (inr (plan, is)))
              | Nowhere is ↦ is
            ],
          )
    ];
    once = stands.once;
  }

-- ---- a class that comes

module _ (ids : IdSize) (facts more : List FactValue) (plans : ℕ → Option Plan) (waits : ℕ → List Waiting)
    (stands : PlansStand ids facts plans waits []) (dump : ClassValue) (new : HasNoDump facts dump.id)
    (are : HasDumpMore facts dump more) where
  stays : (other : ClassValue) → HasDump facts other → HasDump more other
  stays other has = (are other).1 (inl has)

  each_more : (one other : ClassValue) → HasDump more one → HasDump more other → one.id ≡ other.id → one ≡ other
  each_more one other has too same = elim ((are one).0 has) [
    | inl was ↦ elim ((are other).0 too) [
      | inl was_too ↦ stands.each one other was was_too same
      | inr is ↦ absurd (new one was (same ∙ ap (λ (d : ClassValue). d.id) is))
    ]
    | inr is ↦ elim ((are other).0 too) [
      | inl was_too ↦ absurd (new other was_too (sym same ∙ ap (λ (d : ClassValue). d.id) is))
      | inr is_too ↦ is ∙ sym is_too
    ]
  ]

  plans_more : (class : ℕ) (plan : Plan) → plans class ≡ Some plan → (slots : List Slot) × HasPlan ids more plans class slots
  plans_more class plan e =
      let has = stands.plans_are class plan e in
      (has.0, record { plan = has.1.plan; found = has.1.found; is = plan_stays facts more stays ids class has.0 has.1.plan has.1.is })

  -- a dump of class 0 changes nothing
  pub stands_zero : dump.id ≡ 0 → PlansStand ids more plans waits []
  stands_zero is_zero = record {
    each = each_more;
    plans_are = plans_more;
    waits_are = λ superclass waiting there.
        waiting_stays facts more stays ids superclass waiting (stands.waits_are superclass waiting there);
    unplanned = stands.unplanned;
    all = λ other has not_zero. elim ((are other).0 has) [
      | inl was ↦ stands.all other was not_zero
      | inr is ↦ absurd (not_zero (ap (λ (d : ClassValue). d.id) is ∙ is_zero))
    ];
    closed = stands.closed;
    once = stands.once;
  }

  -- another class waits for its superclass
  module _ (own : OwnLayout) (own_are : IsOwn ids (own_slots dump) own) (not_zero : dump.id ≢ 0) where
    abbrev comer : Waiting
    comer = record { class = dump.id; own = own }

    abbrev waits_more : ℕ → List Waiting
    waits_more = put waits dump.parent (waits dump.parent ++ comer ∷ [])

    there_more : (superclass : ℕ) (waiting : Waiting) → Contains (waits_more superclass) waiting
        → Contains (waits superclass) waiting ⊎ ((superclass ≡ dump.parent) × (comer ≡ waiting))
    there_more superclass waiting there = elim (cases_eq superclass dump.parent) [
      | inr other ↦ inl (subst (λ (l : List Waiting). Contains l waiting) (put-other waits dump.parent _ superclass other) there)
      | inl same ↦
          let here = subst (λ (l : List Waiting). Contains l waiting) (put-here waits dump.parent _ superclass same) there in
          elim (Contains-push_cases (waits dump.parent) comer waiting here) [
            | inl was ↦ inl (subst (λ (s : ℕ). Contains (waits s) waiting) (sym same) was)
            | inr is ↦ inr (same, is)
          ]
    ]

    still_there : (superclass : ℕ) (waiting : Waiting) → Contains (waits superclass) waiting → Contains (waits_more superclass) waiting
    still_there superclass waiting there = elim (cases_eq superclass dump.parent) [
      | inr other ↦ subst (λ (l : List Waiting). Contains l waiting) (sym (put-other waits dump.parent _ superclass other)) there
      | inl same ↦ subst (λ (l : List Waiting). Contains l waiting) (sym (put-here waits dump.parent _ superclass same))
          (Contains-append_left (waits dump.parent) (comer ∷ []) waiting (subst (λ (s : ℕ). Contains (waits s) waiting) same there))
    ]

    comer_there : Contains (waits_more dump.parent) comer
    comer_there =
        subst (λ (l : List Waiting). Contains l comer) (sym (put-here waits dump.parent _ dump.parent refl))
        (Contains-push (waits dump.parent) comer)

    -- none of its class waited
    not_waiting : (superclass : ℕ) (waiting : Waiting) → Contains (waits superclass) waiting → waiting.class ≡ dump.id → ⊥
    not_waiting superclass waiting there same =
        let is = stands.waits_are superclass waiting there in
        new is.dump is.has (is.id ∙ same)

    -- nor had a plan
    not_planned : plans dump.id ≡ None
    not_planned = elim (look (plans dump.id)) [
      | There plan e ↦ let has = stands.plans_are dump.id plan e in absurd (new has.1.is.dump has.1.is.has has.1.is.id)
      | Nowhere e ↦ e
    ]

    once_more : (superclass : ℕ) → IsOnceEach (waits_more superclass)
    once_more superclass = elim (cases_eq superclass dump.parent) [
      | inr other ↦ subst IsOnceEach (sym (put-other waits dump.parent _ superclass other)) (stands.once superclass)
      | inl same ↦ subst IsOnceEach (sym (put-here waits dump.parent _ superclass same))
          (subst (IsDistinct nat_eq) (sym (map-append (λ (w : Waiting). w.class) (waits dump.parent) (comer ∷ [])))
          (distinct_push (classes_of (waits dump.parent)) dump.id (stands.once dump.parent) (λ there.
          let found = of_classes (waits dump.parent) dump.id there in
          not_waiting dump.parent found.0 found.1 found.2)))
    ]

    pub stands_waiting : PlansStand ids more plans waits_more (dump.parent ∷ [])
    stands_waiting = record {
      each = each_more;
      plans_are = plans_more;
      waits_are = λ superclass waiting there. elim (there_more superclass waiting there) [
        | inl was ↦ waiting_stays facts more stays ids superclass waiting (stands.waits_are superclass waiting was)
        | inr is ↦ record {
          dump = dump;
          has = (are dump).1 (inr refl);
          id = ap (λ (w : Waiting). w.class) is.1;
          parent = sym is.0;
          own_are = subst (λ (w : Waiting). IsOwn ids (own_slots dump) w.own) is.1 own_are;
        }
      ];
      unplanned = λ superclass waiting there. elim (there_more superclass waiting there) [
        | inl was ↦ stands.unplanned superclass waiting was
        | inr is ↦ subst (λ (w : Waiting). (w.class ≢ 0) × (plans w.class ≡ None)) is.1 (not_zero, not_planned)
      ];
      all = λ other has other_not_zero. elim ((are other).0 has) [
        | inl was ↦ elim (stands.all other was other_not_zero) [
          | inl planned ↦ inl planned
          | inr waiting ↦ inr (record {
            waiting = waiting.waiting;
            there = still_there other.parent waiting.waiting waiting.there;
            id = waiting.id;
          })
        ]
        | inr is ↦ inr (subst (Waits waits_more) (sym is) (record { waiting = comer; there = comer_there; id = refl }))
      ];
      closed = λ superclass waiting there. elim (there_more superclass waiting there) [
        | inl was ↦ elim (stands.closed superclass waiting was) [ inl none ↦ absurd (nothing_there superclass none) | inr off ↦ inr off ]
        | inr is ↦ inl (subst (λ (s : ℕ). Contains (dump.parent ∷ []) s) (sym is.0) (Contains-push [] dump.parent))
      ];
      once = once_more;
    }

-- ---- a class that is woken

module _ (ids : IdSize) (facts : List FactValue) (plans : ℕ → Option Plan) (waits : ℕ → List Waiting) (class : ℕ) (first : Waiting)
    (rest : List Waiting) (pending : List ℕ) (stands : PlansStand ids facts plans (put waits class (first ∷ rest)) (class ∷ pending))
    (slots : List Slot) (known : IsKnown facts class slots) (plan_first : Plan)
    (below : IsPlanBelow ids facts slots first.own plan_first) where
  abbrev plans_after : ℕ → Option Plan
  plans_after = put plans first.class (Some plan_first)

  abbrev before : ℕ → List Waiting
  before = put waits class (first ∷ rest)

  abbrev after : ℕ → List Waiting
  after = put waits class rest

  was_there : (superclass : ℕ) (waiting : Waiting) → Contains (after superclass) waiting → Contains (before superclass) waiting
  was_there superclass waiting there = elim (cases_eq superclass class) [
    | inr other ↦ subst (λ (l : List Waiting). Contains l waiting)
        (put-other waits class rest superclass other ∙ sym (put-other waits class (first ∷ rest) superclass other)) there
    | inl same ↦ subst (λ (l : List Waiting). Contains l waiting) (sym (put-here waits class (first ∷ rest) superclass same))
        (Contains-append_right (first ∷ []) rest waiting
        (subst (λ (l : List Waiting). Contains l waiting) (put-here waits class rest superclass same) there))
  ]

  is_there : (superclass : ℕ) (waiting : Waiting) → Contains (before superclass) waiting
      → Contains (after superclass) waiting ⊎ (first ≡ waiting)
  is_there superclass waiting there = elim (cases_eq superclass class) [
    | inr other ↦ inl (subst (λ (l : List Waiting). Contains l waiting)
        (put-other waits class (first ∷ rest) superclass other ∙ sym (put-other waits class rest superclass other)) there)
    | inl same ↦ elim (Contains-append_cases (first ∷ []) rest waiting
        (subst (λ (l : List Waiting). Contains l waiting) (put-here waits class (first ∷ rest) superclass same) there)) [
          | inl here ↦ inr (one_there first waiting here)
          | inr later ↦ inl (subst (λ (l : List Waiting). Contains l waiting) (sym (put-here waits class rest superclass same)) later)
        ]
  ]

  first_there : Contains (before class) first
  first_there =
      subst (λ (l : List Waiting). Contains l first) (sym (put-here waits class (first ∷ rest) class refl))
      (Contains-append_left (first ∷ []) rest first (Contains-push [] first))

  first_is : IsWaiting ids facts class first
  first_is = stands.waits_are class first first_there

  pub first_unplanned : plans first.class ≡ None
  first_unplanned = (stands.unplanned class first first_there).1

  -- all that wait have other classes
  others_apart : (superclass : ℕ) (waiting : Waiting) → Contains (after superclass) waiting → waiting.class ≢ first.class
  others_apart superclass waiting there same =
      let is = stands.waits_are superclass waiting (was_there superclass waiting there) in
      let dumps : is.dump ≡ first_is.dump = stands.each is.dump first_is.dump is.has first_is.has (is.id ∙ same ∙ sym first_is.id) in
      let here : superclass ≡ class = sym is.parent ∙ ap (λ (d : ClassValue). d.parent) dumps ∙ first_is.parent in
      let in_rest = subst (λ (l : List Waiting). Contains l waiting) (put-here waits class rest superclass here) there in
      let once = subst IsOnceEach (put-here waits class (first ∷ rest) class refl) (stands.once class) in
      apart_from_first first rest waiting once in_rest same

  first_plan : IsPlan ids facts first.class (own_slots first_is.dump ++ slots) plan_first
  first_plan =
      let not_zero : first_is.dump.id ≢ 0 = λ e. (stands.unplanned class first first_there).0 (sym first_is.id ∙ e) in
      subst (λ (c : ℕ). IsPlan ids facts c (own_slots first_is.dump ++ slots) plan_first) first_is.id
      (below first_is.dump not_zero first_is.has first_is.own_are
      (subst (λ (c : ℕ). IsKnown facts c slots) (sym first_is.parent) known))

  plans_are_after : (at : ℕ) (plan : Plan) → plans_after at ≡ Some plan → (own : List Slot) × HasPlan ids facts plans_after at own
  plans_are_after at plan e = elim (cases_eq at first.class) [
    | inl same ↦ (
      own_slots first_is.dump ++ slots,
      record {
        plan = plan_first;
        found = put-here plans first.class (Some plan_first) at same;
        is = subst (λ (c : ℕ). IsPlan ids facts c (own_slots first_is.dump ++ slots) plan_first) (sym same) first_plan;
      },
    )
    | inr other ↦
        let stay = put-other plans first.class (Some plan_first) at other in
        let has = stands.plans_are at plan (sym stay ∙ e) in
        (has.0, record { plan = has.1.plan; found = stay ∙ has.1.found; is = has.1.is })
  ]

  planned_after : (at : ℕ) → IsPlanned plans at → IsPlanned plans_after at
  planned_after at planned = elim (cases_eq at first.class) [
    | inl same ↦ (plan_first, put-here plans first.class (Some plan_first) at same)
    | inr other ↦ (planned.0, put-other plans first.class (Some plan_first) at other ∙ planned.1)
  ]

  all_after : (dump : ClassValue) → HasDump facts dump → dump.id ≢ 0 → IsPlanned plans_after dump.id ⊎ Waits after dump
  all_after dump has not_zero = elim (stands.all dump has not_zero) [
    | inl planned ↦ inl (planned_after dump.id planned)
    | inr waiting ↦ elim (is_there dump.parent waiting.waiting waiting.there) [
      | inl there ↦ inr (record { waiting = waiting.waiting; there = there; id = waiting.id })
      | inr same ↦
          let id : dump.id ≡ first.class = sym waiting.id ∙ sym (ap (λ (w : Waiting). w.class) same) in
          inl (plan_first, put-here plans first.class (Some plan_first) dump.id id)
    ]
  ]

  closed_after : (superclass : ℕ) (waiting : Waiting) → Contains (after superclass) waiting
      → Contains (class ∷ (pending ++ first.class ∷ [])) superclass ⊎ ((superclass ≢ 0) × (plans_after superclass ≡ None))
  closed_after superclass waiting there = elim (stands.closed superclass waiting (was_there superclass waiting there)) [
    | inl some ↦ inl (Contains-append_left (class ∷ pending) (first.class ∷ []) superclass some)
    | inr off ↦ elim (cases_eq superclass first.class) [
      | inl same ↦ inl (subst (λ (s : ℕ). Contains (class ∷ (pending ++ first.class ∷ [])) s) (sym same)
          (Contains-push (class ∷ pending) first.class))
      | inr other ↦ inr (off.0, put-other plans first.class (Some plan_first) superclass other ∙ off.1)
    ]
  ]

  once_after : (superclass : ℕ) → IsOnceEach (after superclass)
  once_after superclass = elim (cases_eq superclass class) [
    | inr other ↦ subst IsOnceEach
        (put-other waits class (first ∷ rest) superclass other ∙ sym (put-other waits class rest superclass other)) (stands.once superclass)
    | inl same ↦ subst IsOnceEach (sym (put-here waits class rest superclass same))
        (IsDistinct-tail nat_eq first.class (classes_of rest)
        (subst IsOnceEach (put-here waits class (first ∷ rest) superclass same) (stands.once superclass)))
  ]

  pub stands_woken : PlansStand ids facts plans_after after (class ∷ (pending ++ first.class ∷ []))
  stands_woken = record {
    each = stands.each;
    plans_are = plans_are_after;
    waits_are = λ superclass waiting there. stands.waits_are superclass waiting (was_there superclass waiting there);
    unplanned = λ superclass waiting there.
        let was = stands.unplanned superclass waiting (was_there superclass waiting there) in
        (was.0, put-other plans first.class (Some plan_first) waiting.class (others_apart superclass waiting there) ∙ was.1);
    all = all_after;
    closed = closed_after;
    once = once_after;
  }

-- ---- the classes that got plans

pub woke_none : (plans : ℕ → Option Plan) → Woke plans plans []
unfolding IsDistinct
woke_none plans = record {
  stays = λ class planned. planned;
  gained = λ class planned. inl planned;
  woke = λ class there. absurd (nothing_there class there);
  once = tt;
}

pub woke_more : (before plans : ℕ → Option Plan) (woken : List ℕ) (class : ℕ) (plan : Plan) → Woke before plans woken
    → plans class ≡ None → Woke before (put plans class (Some plan)) (woken ++ class ∷ [])
woke_more before plans woken class plan was none = record {
  stays = λ other planned. planned_more other (was.stays other planned);
  gained = λ other planned. elim (cases_eq other class) [
    | inl same ↦ inr (subst (λ (c : ℕ). Contains (woken ++ class ∷ []) c) (sym same) (Contains-push woken class))
    | inr apart ↦ elim (was.gained other (planned.0, sym (put-other plans class (Some plan) other apart) ∙ planned.1)) [
      | inl had ↦ inl had
      | inr there ↦ inr (Contains-append_left woken (class ∷ []) other there)
    ]
  ];
  woke = λ other there. elim (Contains-push_cases woken class other there) [
    | inl was_there ↦ let woke = was.woke other was_there in (planned_more other woke.0, woke.1)
    | inr same ↦ subst (λ (c : ℕ). IsPlanned (put plans class (Some plan)) c × (before c ≡ None)) same
        ((plan, put-here plans class (Some plan) class refl), new)
  ];
  once = distinct_push woken class was.once (λ there.
      let woke = was.woke class there in
      not_both (plans class) woke.0.0 woke.0.1 none);
} where
  planned_more : (other : ℕ) → IsPlanned plans other → IsPlanned (put plans class (Some plan)) other
  planned_more other planned = elim (cases_eq other class) [
    | inl same ↦ (plan, put-here plans class (Some plan) other same)
    | inr apart ↦ (planned.0, put-other plans class (Some plan) other apart ∙ planned.1)
  ]

  new : before class ≡ None
  new = elim (look (before class)) [
    | There had e ↦
        let planned = was.stays class (had, e) in
        absurd (not_both (plans class) planned.0 planned.1 none)
    | Nowhere e ↦ e
  ]
