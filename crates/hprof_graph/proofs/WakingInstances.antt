-- Instances that waited, laid one by one.
use Rattle.std.specs.Prelude.{◌↔◌, ◌≢◌, nat_eq}
use Rattle.std.specs.List.{IsDistinct}
use Rattle.std.proofs.Common.{◌≡◌, ℕ, ◌⊎◌, List, [], ◌∷◌, ◌++◌, Contains, refl, sym, ap, subst, ◌∙◌, inl, inr}
use Rattle.std.proofs.lemmas.Bool.{cases_eq}
use Rattle.std.proofs.lemmas.List.Elements.{Contains-append_cases, Contains-append_left, Contains-append_right, Contains-push_cases}
use Rattle.hprof_values.specs.declared.ids.IdSize.{IdSize}
use Rattle.hprof_items.specs.FactValue.{FactValue}
use Rattle.hprof_layouts.specs.WaitingLists.{put, waiting_for}
use Rattle.hprof_layouts.proofs.Wakings.{put-here, put-other}
use Rattle.hprof_layouts.specs.declared.waiting_lists.WaitingLists.{WaitingLists}
use Rattle.hprof_edges.proofs.EdgeMembers.{one_there}
use Rattle.hprof_edges.proofs.PutTogether.{nothing_there}
use Rattle.hprof_graph.specs.declared.derived.Derived.{Derived}
use Rattle.hprof_graph.specs.Derived.{HasLaid, IsDeriving, IsInstanceOf}
use Rattle.hprof_graph.proofs.Deriving.{gone_so}
use Rattle.hprof_graph.proofs.Instances.{one_class}
use Rattle.hprof_graph.proofs.Members.{member_or_not, not_in_rest}

-- the instances of a class that waited, and are in hand: these are laid, those not yet
pub record LaysRest (ids : IdSize) (facts : List FactValue) (derived : Derived) (before : List ℕ) (class : ℕ) (list rest : List ℕ)
    : Type 0 where
  pub laid : List ℕ
  pub deriving_is : IsDeriving ids facts derived laid (before ++ list)
  pub all : (instance : ℕ) → Contains (before ++ list) instance ↔ (Contains laid instance ⊎ Contains rest instance)
  pub rest_are : (instance : ℕ) → Contains rest instance → IsInstanceOf facts instance class × (Contains laid instance → ⊥)
  pub rest_once : IsDistinct nat_eq rest

nothing_twice : IsDistinct nat_eq []
unfolding IsDistinct
nothing_twice = tt

rest_once : (x : ℕ) (xs : List ℕ) → IsDistinct nat_eq (x ∷ xs) → IsDistinct nat_eq xs
unfolding IsDistinct
rest_once x xs once = once.1

module _ (ids : IdSize) (facts : List FactValue) (derived : Derived) (before : List ℕ) (class : ℕ) where
  -- they are taken in hand
  module _ (is : IsDeriving ids facts derived before before) (waiting : WaitingLists ℕ)
      (taken : waiting_for waiting ≡ put (waiting_for derived.waiting) class []) (list : List ℕ)
      (given : list ≡ waiting_for derived.waiting class) where
    here : (instance : ℕ) → Contains list instance ↔ (IsInstanceOf facts instance class × (Contains before instance → ⊥))
    here instance =
        subst (λ (l : List ℕ). Contains l instance ↔ (IsInstanceOf facts instance class × (Contains before instance → ⊥))) (sym given)
        (is.waits class instance)

    none_waits : (instance : ℕ) → Contains (waiting_for waiting class) instance → ⊥
    none_waits instance there =
        nothing_there instance
        (subst (λ (l : List ℕ). Contains l instance)
        (ap (λ (w : ℕ → List ℕ). w class) taken ∙ put-here (waiting_for derived.waiting) class [] class refl) there)

    others_wait : (other : ℕ) → other ≢ class → waiting_for waiting other ≡ waiting_for derived.waiting other
    others_wait other apart = ap (λ (w : ℕ → List ℕ). w other) taken ∙ put-other (waiting_for derived.waiting) class [] other apart

    still_waits : (other instance : ℕ) → Contains (waiting_for waiting other) instance
        ↔ (IsInstanceOf facts instance other × (Contains (before ++ list) instance → ⊥))
    still_waits other instance = elim (cases_eq other class) [
      | inl same ↦ (
        λ there. absurd (none_waits instance (subst (λ (c : ℕ). Contains (waiting_for waiting c) instance) same there)),
        λ both. absurd (both.1 (Contains-append_right before list instance ((here instance).1 (
          subst (IsInstanceOf facts instance) same both.0,
          λ was. both.1 (Contains-append_left before list instance was),
        )))),
      )
      | inr apart ↦ (
        λ there.
            let was = (is.waits other instance).0 (subst (λ (l : List ℕ). Contains l instance) (others_wait other apart) there) in (
              was.0,
              λ out. elim (Contains-append_cases before list instance out) [
                | inl in_before ↦ was.1 in_before
                | inr in_list ↦ apart (one_class facts is.agree instance other class was.0 ((here instance).0 in_list).0)
              ],
            ),
        λ both. subst (λ (l : List ℕ). Contains l instance) (sym (others_wait other apart))
            ((is.waits other instance).1 (both.0, λ was. both.1 (Contains-append_left before list instance was))),
      )
    ]

    waits_once : (other : ℕ) → IsDistinct nat_eq (waiting_for waiting other)
    waits_once other = elim (cases_eq other class) [
      | inl same ↦ subst (IsDistinct nat_eq)
          (sym (ap (λ (w : ℕ → List ℕ). w other) taken ∙ put-here (waiting_for derived.waiting) class [] other same)) nothing_twice
      | inr apart ↦ subst (IsDistinct nat_eq) (sym (others_wait other apart)) (is.waits_once other)
    ]

    pub taken_out : LaysRest ids facts (record derived { waiting = waiting }) before class list list
    taken_out = record {
      laid = before;
      deriving_is = record {
        agree = is.agree;
        knows = is.knows;
        given = is.given;
        set_of = is.set_of;
        given_are = is.given_are;
        waits = still_waits;
        waits_once = waits_once;
        laid_are = is.laid_are;
        laid_once = is.laid_once;
        cuts_are = is.cuts_are;
        all = is.all;
        all_are = is.all_are;
        all_once = is.all_once;
        instances_are = is.instances_are;
      };
      all = λ instance. (
        λ there. Contains-append_cases before list instance there,
        λ either. elim either [
          | inl first ↦ Contains-append_left before list instance first
          | inr second ↦ Contains-append_right before list instance second
        ],
      );
      rest_are = λ instance there. (here instance).0 there;
      rest_once = subst (IsDistinct nat_eq) (sym given) (is.waits_once class);
    }

  -- one of them is laid
  pub laid_next : (new : Derived) (list : List ℕ) (instance : ℕ) (rest : List ℕ)
      → (is : LaysRest ids facts derived before class list (instance ∷ rest))
      → IsDeriving ids facts new (is.laid ++ instance ∷ []) (before ++ list)
      → LaysRest ids facts new before class list rest
  laid_next new list instance rest is being = record {
    laid = is.laid ++ instance ∷ [];
    deriving_is = being;
    all = λ other. (there other, back other);
    rest_are = λ other in_rest.
        let was = is.rest_are other (later other in_rest) in (
          was.0,
          λ out. elim (Contains-push_cases is.laid instance other out) [
            | inl in_laid ↦ was.1 in_laid
            | inr same ↦ not_in_rest instance rest is.rest_once (subst (Contains rest) (sym same) in_rest)
          ],
        );
    rest_once = rest_once instance rest is.rest_once;
  } where
    later : (other : ℕ) → Contains rest other → Contains (instance ∷ rest) other
    later other in_rest = Contains-append_right (instance ∷ []) rest other in_rest

    there : (other : ℕ) → Contains (before ++ list) other → Contains (is.laid ++ instance ∷ []) other ⊎ Contains rest other
    there other has = elim ((is.all other).0 has) [
      | inl in_laid ↦ inl (Contains-append_left is.laid (instance ∷ []) other in_laid)
      | inr in_rest ↦ elim (Contains-append_cases (instance ∷ []) rest other in_rest) [
        | inl here ↦ inl (Contains-append_right is.laid (instance ∷ []) other here)
        | inr more ↦ inr more
      ]
    ]

    back : (other : ℕ) → Contains (is.laid ++ instance ∷ []) other ⊎ Contains rest other → Contains (before ++ list) other
    back other (inl first) = elim (Contains-append_cases is.laid (instance ∷ []) other first) [
      | inl in_laid ↦ (is.all other).1 (inl in_laid)
      | inr here ↦ (is.all other).1 (inr (Contains-append_left (instance ∷ []) rest other here))
    ]
    back other (inr in_rest) = (is.all other).1 (inr (later other in_rest))

  -- all of them are
  pub laid_all : (list : List ℕ) → LaysRest ids facts derived before class list []
      → ((instance : ℕ) → IsInstanceOf facts instance class → Contains (before ++ list) instance)
      → HasLaid ids facts derived before (class ∷ [])
  laid_all list is whole = record {
    laid = is.laid;
    deriving_is = gone_so ids facts derived is.laid (before ++ list) is.deriving_is is.laid (λ instance. (
      λ in_laid. (is.all instance).1 (inl in_laid),
      λ in_all. all_laid instance in_all,
    ));
    stays = λ instance was. all_laid instance (Contains-append_left before list instance was);
    woken = λ other instance in_classes is_of.
        all_laid instance (whole instance (subst (IsInstanceOf facts instance) (sym (one_there class other in_classes)) is_of));
  } where
    all_laid : (instance : ℕ) → Contains (before ++ list) instance → Contains is.laid instance
    all_laid instance in_all = elim ((is.all instance).0 in_all) [
      | inl in_laid ↦ in_laid
      | inr none ↦ absurd (nothing_there instance none)
    ]

-- an instance of the class was laid, or waited
pub laid_or_waited : (ids : IdSize) (facts : List FactValue) (derived : Derived) (before : List ℕ) (class : ℕ)
    → IsDeriving ids facts derived before before → (list : List ℕ) → list ≡ waiting_for derived.waiting class → (instance : ℕ)
    → IsInstanceOf facts instance class → Contains (before ++ list) instance
laid_or_waited ids facts derived before class is list given instance is_of = elim (member_or_not before instance) [
  | inl was ↦ Contains-append_left before list instance was
  | inr new ↦ Contains-append_right before list instance
      (subst (λ (l : List ℕ). Contains l instance) (sym given) ((is.waits class instance).1 (is_of, new)))
]

-- ---- class after class

pub none_woken : (ids : IdSize) (facts : List FactValue) (derived : Derived) (before : List ℕ) → IsDeriving ids facts derived before before
    → HasLaid ids facts derived before []
none_woken ids facts derived before is = record {
  laid = before;
  deriving_is = is;
  stays = λ instance was. was;
  woken = λ class instance there is_of. absurd (nothing_there class there);
}

pub one_woken : (ids : IdSize) (facts : List FactValue) (derived new : Derived) (before classes : List ℕ) (class : ℕ)
    → (has : HasLaid ids facts derived before classes) → HasLaid ids facts new has.laid (class ∷ [])
    → HasLaid ids facts new before (classes ++ class ∷ [])
one_woken ids facts derived new before classes class has more = record {
  laid = more.laid;
  deriving_is = more.deriving_is;
  stays = λ instance was. more.stays instance (has.stays instance was);
  woken = λ other instance there is_of. elim (Contains-append_cases classes (class ∷ []) other there) [
    | inl earlier ↦ more.stays instance (has.woken other instance earlier is_of)
    | inr here ↦ more.woken other instance here is_of
  ];
}
