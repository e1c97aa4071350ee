-- What is derived, while instances are laid.
use Rattle.std.specs.Prelude.{◌↔◌, nat_eq}
use Rattle.std.specs.List.{IsDistinct}
use Rattle.std.proofs.Common.{◌≡◌, ℕ, ◌+◌, ◌-◌, ◌^◌, ◌⊎◌, min, List, [], ◌∷◌, ◌++◌, length, Vec, Global, Contains, sym, subst}
use Rattle.std.proofs.Common.{inl, inr, arith, length-append}
use Rattle.std.proofs.lemmas.List.Elements.{Contains-append_cases, Contains-append_left, Contains-append_right, Contains-push_cases}
use Rattle.hprof_values.specs.declared.ids.IdSize.{IdSize}
use Rattle.hprof_items.specs.FactValue.{FactValue, Instance}
use Rattle.hprof_rows.specs.Facts.{Has}
use Rattle.hprof_layouts.specs.declared.reference.Reference.{Reference}
use Rattle.hprof_layouts.specs.Known.{HasLayout, Knows}
use Rattle.hprof_layouts.proofs.Wakings.{distinct_push}
use Rattle.hprof_layouts.specs.WaitingLists.{waiting_for}
use Rattle.hprof_edges.specs.declared.edge.Edge.{Edge}
use Rattle.hprof_edges.specs.Collecting.{PutBehind}
use Rattle.hprof_edges.specs.DumpEdges.{IsFieldEdge}
use Rattle.hprof_edges.proofs.PutTogether.{nothing_there}
use Rattle.hprof_edges.specs.declared.edge_set.EdgeSet.{EdgeSet}
use Rattle.hprof_edges.specs.EdgeSet.{SetOf}
use Rattle.hprof_graph.specs.declared.derived.Derived.{Derived}
use Rattle.hprof_graph.specs.Derived.{CanBeLaid, IsDerived, IsDeriving, IsEdgeSoFar, stopped}
use Rattle.hprof_graph.proofs.EdgesSoFar.{with_fields}

-- edges behind others
pub appended : (given more : List Edge) (A B C : Edge → Type 0) → ((edge : Edge) → Contains given edge ↔ A edge)
    → ((edge : Edge) → Contains more edge ↔ B edge) → ((edge : Edge) → C edge ↔ (A edge ⊎ B edge))
    → (edge : Edge) → Contains (given ++ more) edge ↔ C edge
appended given more A B C are too both edge = (there, back) where
  there : Contains (given ++ more) edge → C edge
  there has = elim (Contains-append_cases given more edge has) [
    | inl first ↦ (both edge).1 (inl ((are edge).0 first))
    | inr second ↦ (both edge).1 (inr ((too edge).0 second))
  ]

  back : C edge → Contains (given ++ more) edge
  back holds = elim ((both edge).0 holds) [
    | inl first ↦ Contains-append_left given more edge ((are edge).1 first)
    | inr second ↦ Contains-append_right given more edge ((too edge).1 second)
  ]

-- a count that stops, of a list that is longer by one
pub stopped_more : (number new : ℕ) (xs : List ℕ) (x : ℕ) → number ≡ stopped (length xs) → new ≡ min (number + 1) (2 ^ 64 - 1)
    → new ≡ stopped (length (xs ++ x ∷ []))
stopped_more number new xs x is more = let counted = length-append xs (x ∷ []) in omega (arith, is, more, counted)

-- ---- an instance is laid

module _ (ids : IdSize) (facts : List FactValue) (derived : Derived) (laid gone : List ℕ) (is : IsDeriving ids facts derived laid gone)
  where
    module _ (instance trace class : ℕ) (bytes : List ℕ) (has : Has facts (Instance instance trace class bytes))
        (layout : HasLayout facts class) (fresh : Contains laid instance → ⊥) (set : EdgeSet)
        (put : (edges : List Edge) → SetOf derived.set edges
        → PutBehind (SetOf set) edges (IsFieldEdge ids facts instance class bytes)) (references : Vec Reference Global) (cuts : ℕ)
        (counted : cuts ≡ min (derived.cuts + 1) (2 ^ 64 - 1)) where
      pub laid_one : IsDeriving ids facts (record derived { set = set; references = references; cuts = cuts }) (laid ++ instance ∷ []) gone
      laid_one =
          let fields = put is.given is.set_of in
          record {
            agree = is.agree;
            knows = is.knows;
            given = is.given ++ fields.more;
            set_of = fields.holds_more;
            given_are = appended is.given fields.more (IsEdgeSoFar ids facts laid) (IsFieldEdge ids facts instance class bytes)
                (IsEdgeSoFar ids facts (laid ++ instance ∷ [])) is.given_are fields.exact
                (with_fields ids facts is.agree laid instance trace class bytes has);
            waits = is.waits;
            waits_once = is.waits_once;
            laid_are = λ other there. elim (Contains-push_cases laid instance other there) [
              | inl was ↦ is.laid_are other was
              | inr same ↦ subst (CanBeLaid facts) same (record {
                class = class;
                is_of = (bytes, record { trace = trace; has = has });
                layout = layout;
              })
            ];
            laid_once = distinct_push laid instance is.laid_once fresh;
            cuts_are = stopped_more derived.cuts cuts laid instance is.cuts_are counted;
            all = is.all;
            all_are = is.all_are;
            all_once = is.all_once;
            instances_are = is.instances_are;
          }

    -- it matters which no longer wait, not how they are listed
    pub gone_so : (other : List ℕ) → ((instance : ℕ) → Contains other instance ↔ Contains gone instance)
        → IsDeriving ids facts derived laid other
    gone_so other same = record {
      agree = is.agree;
      knows = is.knows;
      given = is.given;
      set_of = is.set_of;
      given_are = is.given_are;
      waits = λ class instance. (
        λ there. (let was = (is.waits class instance).0 there in (was.0, λ out. was.1 ((same instance).0 out))),
        λ both. (is.waits class instance).1 (both.0, λ out. both.1 ((same instance).1 out)),
      );
      waits_once = is.waits_once;
      laid_are = is.laid_are;
      laid_once = is.laid_once;
      cuts_are = is.cuts_are;
      all = is.all;
      all_are = is.all_are;
      all_once = is.all_once;
      instances_are = is.instances_are;
    }

-- ---- a set with the same edges

pub same_set : (ids : IdSize) (facts : List FactValue) (derived : Derived) (set : EdgeSet)
    → ((edges : List Edge) → SetOf derived.set edges → SetOf set edges) → IsDerived ids facts derived
    → IsDerived ids facts (record derived { set = set })
same_set ids facts derived set same is =
    let was = is.deriving_is in
    record {
      laid = is.laid;
      deriving_is = record {
        agree = was.agree;
        knows = was.knows;
        given = was.given;
        set_of = same was.given was.set_of;
        given_are = was.given_are;
        waits = was.waits;
        waits_once = was.waits_once;
        laid_are = was.laid_are;
        laid_once = was.laid_once;
        cuts_are = was.cuts_are;
        all = was.all;
        all_are = was.all_are;
        all_once = was.all_once;
        instances_are = was.instances_are;
      };
      whole = is.whole;
    }

-- ---- no facts

pub derives_nothing : (ids : IdSize) (derived : Derived) → Knows ids [] derived.known → SetOf derived.set []
    → ((class : ℕ) → waiting_for derived.waiting class ≡ []) → derived.cuts ≡ 0 → derived.instances ≡ 0 → IsDerived ids [] derived
unfolding IsDistinct
derives_nothing ids derived knows set_of none cuts instances = record {
  laid = [];
  deriving_is = record {
    agree = λ key one other has. absurd has;
    knows = knows;
    given = [];
    set_of = set_of;
    given_are = λ edge. (
      λ there. absurd (nothing_there edge there),
      λ either. elim either [ inl by_class ↦ absurd by_class.has | inr given ↦ absurd given.has ],
    );
    waits = λ class instance. (
      λ there. absurd (nothing_there instance (subst (λ (l : List ℕ). Contains l instance) (none class) there)),
      λ both. absurd both.0.1.has,
    );
    waits_once = λ class. subst (IsDistinct nat_eq) (sym (none class)) tt;
    laid_are = λ instance there. absurd (nothing_there instance there);
    laid_once = tt;
    cuts_are = cuts;
    all = [];
    all_are = λ instance. (λ there. absurd (nothing_there instance there), λ is. absurd is.1.1.has);
    all_once = tt;
    instances_are = instances;
  };
  whole = λ instance can. absurd can.is_of.1.has;
}
