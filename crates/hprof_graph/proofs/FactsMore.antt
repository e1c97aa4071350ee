-- What is derived when a fact is added.
use Rattle.std.specs.Prelude.{◌↔◌, ◌≢◌, nat_eq, ⊤}
use Rattle.std.specs.List.{IsDistinct}
use Rattle.std.proofs.Common.{◌≡◌, ℕ, ◌+◌, ◌-◌, ◌^◌, ◌⊎◌, min, List, [], ◌∷◌, ◌++◌, Bor, Contains, Some, Vec, Global, refl, sym, ap, subst}
use Rattle.std.proofs.Common.{◌∙◌}
use Rattle.std.proofs.Common.{inl, inr}
use Rattle.std.proofs.lemmas.Bool.{cases_eq}
use Rattle.std.proofs.lemmas.List.Elements.{Contains-append_left, Contains-push, Contains-push_cases}
use Rattle.hprof_values.specs.declared.ids.IdSize.{IdSize}
use Rattle.hprof_values.specs.declared.lists.ids.IdList.{IdList}
use Rattle.hprof_items.specs.declared.fact.Fact.{Fact}
use Rattle.hprof_items.specs.declared.fact.Fact.TheVariants as facts
use Rattle.hprof_items.specs.FactValue.{FactValue, Class, Instance, ObjArray, value_of}
use Rattle.hprof_rows.specs.declared.key.Key.TheVariants as keys
use Rattle.hprof_heap.specs.Classes.{ClassValue, HasDump, HasNoDump, fact_of_class}
use Rattle.hprof_layouts.specs.declared.known.KnownLayouts.{KnownLayouts}
use Rattle.hprof_layouts.specs.declared.reference.Reference.{Reference}
use Rattle.hprof_layouts.specs.Known.{AreWoken, HasDumpMore, HasLayout, Knows}
use Rattle.hprof_layouts.specs.WaitingLists.{put, waiting_for}
use Rattle.hprof_layouts.proofs.KnownPlans.{knows_same}
use Rattle.hprof_layouts.proofs.MoreDumps.{known_stays}
use Rattle.hprof_layouts.proofs.Wakings.{distinct_push, put-here, put-other}
use Rattle.hprof_layouts.specs.declared.waiting_lists.WaitingLists.{WaitingLists}
use Rattle.hprof_edges.specs.declared.edge.Edge.{Edge}
use Rattle.hprof_edges.specs.Collecting.{PutBehind}
use Rattle.hprof_edges.specs.DumpEdges.{IsClassEdge, IsEdgeToClass, IsElementEdge}
use Rattle.hprof_edges.proofs.PutTogether.{put_nothing}
use Rattle.hprof_edges.proofs.TableEdges.{GivesByClass}
use Rattle.hprof_edges.specs.declared.edge_set.EdgeSet.{EdgeSet}
use Rattle.hprof_edges.specs.EdgeSet.{SetOf}
use Rattle.hprof_heap.proofs.ClassFacts.{dump_in}
use Rattle.hprof_graph.specs.declared.derived.Derived.{Derived}
use Rattle.hprof_graph.specs.Derived.{IsOther, AddsFact, GivesSoFar, HasLaid, IsDerived, IsDeriving, IsEdgeSoFar, IsInstance, IsInstanceOf}
use Rattle.hprof_graph.proofs.Deriving.{appended, stopped_more}
use Rattle.hprof_graph.proofs.EdgesSoFar.{with_fact}
use Rattle.hprof_graph.proofs.Instances.{instance_stays, instance_was, laid_stays, layout_or_not, one_class, agreed, stays, was_or_is}
use Rattle.hprof_graph.proofs.Instances.{is_there}

module _ (ids : IdSize) (before : List FactValue) (fact : FactValue) (facts : List FactValue) (adds : AddsFact before fact facts)
    (derived : Derived) where
  -- ---- any fact but an instance

  module _ (is : IsDerived ids before derived)
      (no_instance : (instance trace class : ℕ) (bytes : List ℕ) → Instance instance trace class bytes ≡ fact → ⊥) where
    was_instance : (instance class : ℕ) → IsInstanceOf facts instance class → IsInstanceOf before instance class
    was_instance instance class is_of = elim (instance_was before fact facts adds instance class is_of) [
      | inl same ↦ absurd (no_instance instance is_of.1.trace class is_of.0 same)
      | inr had ↦ had
    ]

    -- its edges were put
    pub derives_more : (set : EdgeSet) (P : Edge → Type 0) → ((edges : List Edge) → SetOf derived.set edges → PutBehind (SetOf set) edges P)
        → ((edge : Edge) → P edge ↔ (GivesByClass fact edge ⊎ GivesSoFar ids facts is.laid fact edge)) → (known : KnownLayouts)
        → Knows ids facts known → IsDeriving ids facts (record derived { set = set; known = known }) is.laid is.laid
    derives_more set P puts gives known knows =
        let was = is.deriving_is in
        let edges = puts was.given was.set_of in
        record {
          agree = adds.agree;
          knows = knows;
          given = was.given ++ edges.more;
          set_of = edges.holds_more;
          given_are = appended was.given edges.more (IsEdgeSoFar ids before is.laid)
              (λ edge. GivesByClass fact edge ⊎ GivesSoFar ids facts is.laid fact edge) (IsEdgeSoFar ids facts is.laid) was.given_are
              (λ edge. (λ there. (gives edge).0 ((edges.exact edge).0 there), λ holds. (edges.exact edge).1 ((gives edge).1 holds)))
              (with_fact ids before fact facts adds is.laid was.laid_are);
          waits = λ class instance. (
            λ there. (let both =
                (was.waits class instance).0 there in (instance_stays before fact facts adds instance class both.0, both.1)),
            λ both. (was.waits class instance).1 (was_instance instance class both.0, both.1),
          );
          waits_once = was.waits_once;
          laid_are = λ instance there. laid_stays before fact facts adds instance (was.laid_are instance there);
          laid_once = was.laid_once;
          cuts_are = was.cuts_are;
          all = was.all;
          all_are = λ instance. (
            λ there. (let one = (was.all_are instance).0 there in (one.0, instance_stays before fact facts adds instance one.0 one.1)),
            λ one. (was.all_are instance).1 (one.0, was_instance instance one.0 one.1),
          );
          all_once = was.all_once;
          instances_are = was.instances_are;
        }

  -- ---- any fact but a class dump

  module _ (no_dump : (dump : ClassValue) → fact_of_class dump ≡ fact → ⊥) where
    dump_was : (dump : ClassValue) → HasDump facts dump → HasDump before dump
    dump_was dump has = elim (was_or_is before fact facts adds (fact_of_class dump) has) [
      | inl same ↦ absurd (no_dump dump same)
      | inr had ↦ had
    ]

    pub same_dumps : (dump : ClassValue) → HasDump facts dump ↔ HasDump before dump
    same_dumps dump = (dump_was dump, stays before fact facts adds (fact_of_class dump))

    -- nothing more is known
    pub layout_was : (class : ℕ) → HasLayout facts class → HasLayout before class
    layout_was class has = (has.0, known_stays facts before dump_was class has.0 has.1)

    pub knows_still : (known : KnownLayouts) → Knows ids before known → Knows ids facts known
    knows_still known knows = knows_same ids before facts known same_dumps knows

    no_class_edge : (edge : Edge) → GivesByClass fact edge → ⊥
    no_class_edge edge gives = no_dump gives.dump gives.is

    -- neither
    pub derives_other : (is : IsDerived ids before derived)
        → ((instance trace class : ℕ) (bytes : List ℕ) → Instance instance trace class bytes ≡ fact → ⊥) → (set : EdgeSet)
        → ((edges : List Edge) → SetOf derived.set edges → PutBehind (SetOf set) edges (GivesSoFar ids facts is.laid fact))
        → IsDerived ids facts (record derived { set = set })
    derives_other is no_instance set puts = record {
      laid = is.laid;
      deriving_is = derives_more is no_instance set (GivesSoFar ids facts is.laid fact) puts
          (λ edge. (
            λ gives. inr gives,
            λ either. elim either [
              | inl by_class ↦ absurd (no_class_edge edge by_class)
              | inr gives ↦ gives
            ],
          )) derived.known (knows_still derived.known is.deriving_is.knows);
      whole = λ instance can. is.whole instance (record {
        class = can.class;
        is_of = was_instance is no_instance instance can.class can.is_of;
        layout = layout_was can.class can.layout;
      });
    }

-- ---- a fact from which nothing is derived

-- it is no class dump, no instance and no array of objects
abbrev pub NothingToDerive : FactValue → Type 0
NothingToDerive (Class id trace parent loader signers domain reserved1 reserved2 size constants statics fields) = ⊥
NothingToDerive (Instance id trace class bytes) = ⊥
NothingToDerive (ObjArray id trace class elements) = ⊥
NothingToDerive fact = ⊤

gives_none : (ids : IdSize) (facts : List FactValue) (laid : List ℕ) (fact : FactValue) (edge : Edge) → NothingToDerive fact
    → GivesSoFar ids facts laid fact edge → ⊥
gives_none ids facts laid (Instance id trace class bytes) edge nothing gives = nothing
gives_none ids facts laid (ObjArray id trace class elements) edge nothing gives = nothing
gives_none ids facts laid fact edge nothing gives = gives

pub nothing_added : (ids : IdSize) (before : List FactValue) (fact : FactValue) (facts : List FactValue) → AddsFact before fact facts
    → (derived : Derived) → NothingToDerive fact → IsDerived ids before derived → IsDerived ids facts derived
nothing_added ids before fact facts adds derived nothing is =
    derives_other ids before fact facts adds derived (λ dump e. subst NothingToDerive (sym e) nothing) is
    (λ instance trace class bytes e. subst NothingToDerive (sym e) nothing) derived.set
    (λ edges of. put_nothing edges (SetOf derived.set) (GivesSoFar ids facts is.laid fact) of
    (λ edge gives. gives_none ids facts is.laid fact edge nothing gives))

-- a fact that is none of these two
pub is_other : (fact : Fact) → ((id trace class : ℕ) (bytes : Bor (List ℕ)) → fact ≡ facts.Instance id trace class bytes → ⊥)
    → ((id trace class : ℕ) (elements : IdList) → fact ≡ facts.ObjArray id trace class elements → ⊥) → IsOther fact
is_other (facts.Instance id trace class bytes) no_instance no_array = no_instance id trace class bytes refl
is_other (facts.ObjArray id trace class elements) no_instance no_array = no_array id trace class elements refl
is_other fact no_instance no_array = tt

-- a fact that is no class dump, no instance and no array of objects
pub neither : (fact : Fact) → ((dump : ClassValue) → fact_of_class dump ≡ value_of fact → ⊥) → IsOther fact
    → NothingToDerive (value_of fact)
neither (facts.Class id trace parent loader signers domain reserved1 reserved2 size constants statics fields) no_dump other =
    no_dump (dump_in (value_of (facts.Class id trace parent loader signers domain reserved1 reserved2 size constants statics fields))) refl
neither (facts.Instance id trace class bytes) no_dump other = other
neither (facts.ObjArray id trace class elements) no_dump other = other
neither fact no_dump other = tt

-- ---- an array of objects

pub array_added : (ids : IdSize) (before facts : List FactValue) (id trace class : ℕ) (elements : List ℕ)
    → AddsFact before (ObjArray id trace class elements) facts → (derived : Derived) → IsDerived ids before derived → (set : EdgeSet)
    → ((edges : List Edge) → SetOf derived.set edges
    → PutBehind (SetOf set) edges (λ edge. IsEdgeToClass id class edge ⊎ IsElementEdge id elements edge))
    → IsDerived ids facts (record derived { set = set })
array_added ids before facts id trace class elements adds derived is set puts =
    derives_other ids before (ObjArray id trace class elements) facts adds derived (λ dump same. no_dump dump same) is
    (λ instance other of bytes same. no_instance instance other of bytes same) set puts where
      no_dump : (dump : ClassValue) → fact_of_class dump ≡ ObjArray id trace class elements → ⊥
      no_dump dump same = cc

      no_instance : (instance other of : ℕ) (bytes : List ℕ) → Instance instance other of bytes ≡ ObjArray id trace class elements → ⊥
      no_instance instance other of bytes same = cc

-- ---- a class dump

module _ (ids : IdSize) (before facts : List FactValue) (dump : ClassValue) (adds : AddsFact before (fact_of_class dump) facts) where
  no_instance_class : (instance trace class : ℕ) (bytes : List ℕ) → Instance instance trace class bytes ≡ fact_of_class dump → ⊥
  no_instance_class instance trace class bytes same = cc

  pub class_new : HasNoDump before dump.id
  class_new other has same =
      adds.new.is_new (fact_of_class other) has
      (record { key = keys.Class dump.id; key_of_one = ap (λ (n : ℕ). Some (keys.Class n)) same; key_of_other = refl })

  pub dumps_more : HasDumpMore before dump facts
  dumps_more other = (
    λ has. elim (was_or_is before (fact_of_class dump) facts adds (fact_of_class other) has) [
      | inl same ↦ inr (ap dump_in same)
      | inr had ↦ inl had
    ],
    λ either. elim either [
      | inl had ↦ stays before (fact_of_class dump) facts adds (fact_of_class other) had
      | inr same ↦ subst (λ (d : ClassValue). HasDump facts d) (sym same) (is_there before (fact_of_class dump) facts adds)
    ],
  )

  module _ (derived : Derived) (is : IsDerived ids before derived) where
    pub class_came : (set : EdgeSet)
        → ((edges : List Edge) → SetOf derived.set edges → PutBehind (SetOf set) edges (IsClassEdge dump)) → (known : KnownLayouts)
        → Knows ids facts known → IsDeriving ids facts (record derived { set = set; known = known }) is.laid is.laid
    class_came set puts known knows =
        derives_more ids before (fact_of_class dump) facts adds derived is no_instance_class set (IsClassEdge dump) puts
        (λ edge. (
          λ of_class. inl (record { dump = dump; is = refl; edge_is = of_class }),
          λ either. elim either [
            | inl by_class ↦ subst (λ (d : ClassValue). IsClassEdge d edge) (ap dump_in by_class.is) by_class.edge_is
            | inr none ↦ absurd none
          ],
        )) known knows

    -- when the instances of the classes that became known are laid, all are
    pub class_added : (new : Derived) (woken : List ℕ) → AreWoken before facts woken → HasLaid ids facts new is.laid woken
        → IsDerived ids facts new
    class_added new woken are has = record {
      laid = has.laid;
      deriving_is = has.deriving_is;
      whole = λ instance can. elim (layout_or_not before (agreed before (fact_of_class dump) facts adds) can.class) [
        | inl had ↦ has.stays instance (is.whole instance (record {
          class = can.class;
          is_of = was_instance ids before (fact_of_class dump) facts adds derived is no_instance_class instance can.class can.is_of;
          layout = had;
        }))
        | inr had_none ↦ has.woken can.class instance ((are.each can.class).1 (can.layout, had_none)) can.is_of
      ];
    }

-- ---- an instance

module _ (ids : IdSize) (before facts : List FactValue) (instance trace class : ℕ) (bytes : List ℕ)
    (adds : AddsFact before (Instance instance trace class bytes) facts) (derived : Derived) (is : IsDerived ids before derived) where
  abbrev comer : FactValue
  comer = Instance instance trace class bytes

  no_dump_instance : (dump : ClassValue) → fact_of_class dump ≡ comer → ⊥
  no_dump_instance dump same = cc

  -- it was none before
  pub was_none : (other : ℕ) → IsInstanceOf before instance other → ⊥
  was_none other is_of =
      adds.new.is_new (Instance instance is_of.1.trace other is_of.0) is_of.1.has
      (record { key = keys.Object instance; key_of_one = refl; key_of_other = refl })

  pub was_not_laid : Contains is.laid instance → ⊥
  was_not_laid there = let can = is.deriving_is.laid_are instance there in was_none can.class can.is_of

  is_one : IsInstanceOf facts instance class
  is_one = (bytes, record { trace = trace; has = is_there before comer facts adds })

  -- an instance is this one, or was one before
  this_or_earlier : (other of : ℕ) → IsInstanceOf facts other of → (other ≡ instance) ⊎ IsInstanceOf before other of
  this_or_earlier other of is_of = elim (instance_was before comer facts adds other of is_of) [
    | inl same ↦ inl (let e : Instance other is_of.1.trace of is_of.0 ≡ Instance instance trace class bytes = same in cc)
    | inr had ↦ inr had
  ]

  module _ (set : EdgeSet)
      (puts : (edges : List Edge) → SetOf derived.set edges → PutBehind (SetOf set) edges (IsEdgeToClass instance class)) (instances : ℕ)
      (counted : instances ≡ min (derived.instances + 1) (2 ^ 64 - 1)) where
    abbrev counted_in : Derived
    counted_in = record derived { set = set; instances = instances }

    gives_edge : (edge : Edge) → IsEdgeToClass instance class edge ↔ (GivesByClass comer edge ⊎ GivesSoFar ids facts is.laid comer edge)
    gives_edge edge = (
      λ to_class. inr (inl to_class),
      λ either. elim either [
        | inl by_class ↦ absurd (no_dump_instance by_class.dump by_class.is)
        | inr gives ↦ elim gives [ inl to_class ↦ to_class | inr both ↦ absurd (was_not_laid both.0) ]
      ],
    )

    waits_still : (of other : ℕ) → Contains (waiting_for derived.waiting of) other
        ↔ (IsInstanceOf facts other of × (Contains (is.laid ++ instance ∷ []) other → ⊥))
    waits_still of other = (
      λ there.
          let was = (is.deriving_is.waits of other).0 there in (
            instance_stays before comer facts adds other of was.0,
            λ out. elim (Contains-push_cases is.laid instance other out) [
              | inl in_laid ↦ was.1 in_laid
              | inr same ↦ was_none of (subst (λ (n : ℕ). IsInstanceOf before n of) (sym same) was.0)
            ],
          ),
      λ both. elim (this_or_earlier other of both.0) [
        | inl same ↦ absurd (both.1 (subst (Contains (is.laid ++ instance ∷ [])) (sym same) (Contains-push is.laid instance)))
        | inr had ↦ (is.deriving_is.waits of other).1 (had, λ in_laid. both.1 (Contains-append_left is.laid (instance ∷ []) other in_laid))
      ],
    )

    -- its edge to its class was put, and it was counted
    pub instance_came : IsDeriving ids facts counted_in is.laid (is.laid ++ instance ∷ [])
    instance_came =
        let was = is.deriving_is in
        let edges = puts was.given was.set_of in
        record {
          agree = adds.agree;
          knows = knows_still ids before comer facts adds derived no_dump_instance derived.known was.knows;
          given = was.given ++ edges.more;
          set_of = edges.holds_more;
          given_are = appended was.given edges.more (IsEdgeSoFar ids before is.laid)
              (λ edge. GivesByClass comer edge ⊎ GivesSoFar ids facts is.laid comer edge) (IsEdgeSoFar ids facts is.laid) was.given_are
              (λ edge. (
                λ there. (gives_edge edge).0 ((edges.exact edge).0 there),
                λ holds. (edges.exact edge).1 ((gives_edge edge).1 holds),
              ))
              (with_fact ids before comer facts adds is.laid was.laid_are);
          waits = waits_still;
          waits_once = was.waits_once;
          laid_are = λ other there. laid_stays before comer facts adds other (was.laid_are other there);
          laid_once = was.laid_once;
          cuts_are = was.cuts_are;
          all = was.all ++ instance ∷ [];
          all_are = λ other. (
            λ there. elim (Contains-push_cases was.all instance other there) [
              | inl earlier ↦
                  let one = (was.all_are other).0 earlier in
                  (one.0, instance_stays before comer facts adds other one.0 one.1)
              | inr same ↦ subst (IsInstance facts) same (class, is_one)
            ],
            λ one. elim (this_or_earlier other one.0 one.1) [
              | inl same ↦ subst (Contains (was.all ++ instance ∷ [])) (sym same) (Contains-push was.all instance)
              | inr had ↦ Contains-append_left was.all (instance ∷ []) other ((was.all_are other).1 (one.0, had))
            ],
          );
          all_once = distinct_push was.all instance was.all_once
              (λ there. (let one = (was.all_are instance).0 there in was_none one.0 one.1));
          instances_are = stopped_more derived.instances instances was.all instance was.instances_are counted;
        }

    -- it was laid
    pub instance_laid : (new : Derived) → IsDeriving ids facts new (is.laid ++ instance ∷ []) (is.laid ++ instance ∷ [])
        → IsDerived ids facts new
    instance_laid new being = record {
      laid = is.laid ++ instance ∷ [];
      deriving_is = being;
      whole = λ other can. elim (this_or_earlier other can.class can.is_of) [
        | inl same ↦ subst (Contains (is.laid ++ instance ∷ [])) (sym same) (Contains-push is.laid instance)
        | inr had ↦ Contains-append_left is.laid (instance ∷ []) other (is.whole other (record {
          class = can.class;
          is_of = had;
          layout = layout_was ids before comer facts adds derived no_dump_instance can.class can.layout;
        }))
      ];
    }

    -- or it waits
    module _ (unknown : HasLayout facts class → ⊥) (references : Vec Reference Global) (waiting : WaitingLists ℕ)
        (waits : waiting_for waiting ≡ put (waiting_for derived.waiting) class (waiting_for derived.waiting class ++ instance ∷ [])) where
      here : (of : ℕ) → of ≡ class → waiting_for waiting of ≡ waiting_for derived.waiting class ++ instance ∷ []
      here of same =
          ap (λ (w : ℕ → List ℕ). w of) waits
          ∙ put-here (waiting_for derived.waiting) class (waiting_for derived.waiting class ++ instance ∷ []) of same

      elsewhere : (of : ℕ) → of ≢ class → waiting_for waiting of ≡ waiting_for derived.waiting of
      elsewhere of apart =
          ap (λ (w : ℕ → List ℕ). w of) waits
          ∙ put-other (waiting_for derived.waiting) class (waiting_for derived.waiting class ++ instance ∷ []) of apart

      is_class : (other : ℕ) → IsInstanceOf facts instance other → other ≡ class
      is_class other is_of = one_class facts adds.agree instance other class is_of is_one

      abbrev Waits : ℕ → ℕ → Type 0
      Waits of other = IsInstanceOf facts other of × (Contains is.laid other → ⊥)

      waits_here : (other : ℕ) → Contains (waiting_for derived.waiting class ++ instance ∷ []) other ↔ Waits class other
      waits_here other = (
        λ there. elim (Contains-push_cases (waiting_for derived.waiting class) instance other there) [
          | inl earlier ↦
              let was = (is.deriving_is.waits class other).0 earlier in
              (instance_stays before comer facts adds other class was.0, was.1)
          | inr same ↦ (
            subst (λ (n : ℕ). IsInstanceOf facts n class) same is_one,
            λ in_laid. was_not_laid (subst (Contains is.laid) (sym same) in_laid),
          )
        ],
        λ both. elim (this_or_earlier other class both.0) [
          | inl same ↦ subst (Contains (waiting_for derived.waiting class ++ instance ∷ [])) (sym same)
              (Contains-push (waiting_for derived.waiting class) instance)
          | inr had ↦ Contains-append_left (waiting_for derived.waiting class) (instance ∷ []) other
              ((is.deriving_is.waits class other).1 (had, both.1))
        ],
      )

      waits_elsewhere : (of other : ℕ) → of ≢ class → Contains (waiting_for derived.waiting of) other ↔ Waits of other
      waits_elsewhere of other apart = (
        λ there.
            let was = (is.deriving_is.waits of other).0 there in
            (instance_stays before comer facts adds other of was.0, was.1),
        λ both. elim (this_or_earlier other of both.0) [
          | inl same ↦ absurd (apart (is_class of (subst (λ (n : ℕ). IsInstanceOf facts n of) same both.0)))
          | inr had ↦ (is.deriving_is.waits of other).1 (had, both.1)
        ],
      )

      wait_now : (of other : ℕ) → Contains (waiting_for waiting of) other ↔ Waits of other
      wait_now of other = elim (cases_eq of class) [
        | inl same ↦ subst (λ (l : List ℕ). Contains l other ↔ Waits of other) (sym (here of same))
            (subst (λ (c : ℕ). Contains (waiting_for derived.waiting class ++ instance ∷ []) other ↔ Waits c other) (sym same)
            (waits_here other))
        | inr apart ↦ subst (λ (l : List ℕ). Contains l other ↔ Waits of other) (sym (elsewhere of apart)) (waits_elsewhere of other apart)
      ]

      wait_once : (of : ℕ) → IsDistinct nat_eq (waiting_for waiting of)
      wait_once of = elim (cases_eq of class) [
        | inl same ↦ subst (IsDistinct nat_eq) (sym (here of same))
            (distinct_push (waiting_for derived.waiting class) instance (is.deriving_is.waits_once class)
            (λ there. was_none class ((is.deriving_is.waits class instance).0 there).0))
        | inr apart ↦ subst (IsDistinct nat_eq) (sym (elsewhere of apart)) (is.deriving_is.waits_once of)
      ]

      pub instance_waits : IsDerived ids facts
          (record derived { set = set; references = references; instances = instances; waiting = waiting })
      instance_waits =
          let now = instance_came in
          record {
            laid = is.laid;
            deriving_is = record {
              agree = now.agree;
              knows = now.knows;
              given = now.given;
              set_of = now.set_of;
              given_are = now.given_are;
              waits = wait_now;
              waits_once = wait_once;
              laid_are = now.laid_are;
              laid_once = now.laid_once;
              cuts_are = now.cuts_are;
              all = now.all;
              all_are = now.all_are;
              all_once = now.all_once;
              instances_are = now.instances_are;
            };
            whole = λ other can. elim (this_or_earlier other can.class can.is_of) [
              | inl same ↦ absurd (unknown (subst (HasLayout facts)
                  (is_class can.class (subst (λ (n : ℕ). IsInstanceOf facts n can.class) same can.is_of)) can.layout))
              | inr had ↦ is.whole other (record {
                class = can.class;
                is_of = had;
                layout = layout_was ids before comer facts adds derived no_dump_instance can.class can.layout;
              })
            ];
          }
