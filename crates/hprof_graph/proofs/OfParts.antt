-- What a live heap answers, by the parts that it was given.
use Rattle.std.specs.List.{AllByRecursion}
use Rattle.std.proofs.Common.{◌≡◌, ℕ, Bool, true, false, ◌||◌, List, [], ◌∷◌, map, Result, Ok, Err, refl, sym, ap, subst, ◌∙◌, inl, inr}
use Rattle.hprof_values.specs.declared.ids.IdSize.{IdSize}
use Rattle.hprof_values.specs.declared.ids.IdSize.TheVariants.{Four}
use Rattle.hprof_items.specs.FactValue.{FactValue, Instance}
use Rattle.hprof_rows.specs.Facts.{Has, SameFacts}
use Rattle.hprof_rows.specs.HeapValue.{HeapValue}
use Rattle.hprof_heap.specs.declared.standing.Refusal.{Refusal}
use Rattle.hprof_heap.specs.declared.standing.Refusal.TheVariants as refusals
use Rattle.hprof_heap.specs.Gathering.{Gathered, Given, Gathers, Tells, all_given, gathered, nothing_gathered}
use Rattle.hprof_heap.specs.State.{IsLeastOf}
use Rattle.hprof_heap.proofs.Gathering.{gathered_stands}
use Rattle.hprof_heap.proofs.Least.{no_least}
use Rattle.hprof_heap.proofs.Told.{told}
use Rattle.hprof_heap.specs.Classes.{fact_of_class}
use Rattle.hprof_layouts.specs.Layout.{LayoutValue, IsLayout, Known, Missing, Cyclic}
use Rattle.hprof_layouts.proofs.MoreFacts.{chain_stays, cyclic_stays, known_stays}
use Rattle.hprof_layouts.specs.Known.{HasLayout}
use Rattle.hprof_edges.specs.declared.edge.Edge.{Edge}
use Rattle.hprof_edges.specs.Edges.{AreEdges}
use Rattle.hprof_edges.proofs.MoreFacts.{edge_stays}
use Rattle.hprof_graph.specs.declared.live.Live.{Live}
use Rattle.hprof_graph.specs.declared.live.Live.TheVariants as lives
use Rattle.hprof_graph.specs.declared.live_heap.LiveHeap.{LiveHeap}
use Rattle.hprof_graph.specs.Derived.{CanBeLaid, CannotBeLaid, IsInstanceOf}
use Rattle.hprof_graph.specs.LiveHeap.{IsAnswer, outcome_of, seen_by}
use Rattle.hprof_graph.specs.Number.{IsNumberOf}
use Rattle.hprof_graph.specs.OfParts.{Disagree, HoldsOf, IsAnswerOf}
use Rattle.hprof_graph.proofs.Outcomes.{sound_outcome, sound_seen}

-- ---- what holds of the same facts

module _ (facts more : List FactValue) (all : (fact : FactValue) → Has facts fact → Has more fact) where
  instance_more : (instance class : ℕ) → IsInstanceOf facts instance class → IsInstanceOf more instance class
  instance_more instance class is =
      (is.0, record { trace = is.1.trace; has = all (Instance instance is.1.trace class is.0) is.1.has })

  layout_more : (class : ℕ) → HasLayout facts class → HasLayout more class
  layout_more class has = (has.0, known_stays facts more all class has.0 has.1)

  can_more : (instance : ℕ) → CanBeLaid facts instance → CanBeLaid more instance
  can_more instance is = record {
    class = is.class;
    is_of = instance_more instance is.class is.is_of;
    layout = layout_more is.class is.layout;
  }

  cannot_more : ((fact : FactValue) → Has more fact → Has facts fact) → (instance : ℕ) → CannotBeLaid facts instance
      → CannotBeLaid more instance
  cannot_more back instance is = record {
    class = is.class;
    is_of = instance_more instance is.class is.is_of;
    no_layout = λ layout. is.no_layout (layout.0, known_stays more facts back is.class layout.0 layout.1);
  }

number_same : (P Q : ℕ → Type 0) (number : ℕ) → ((id : ℕ) → P id → Q id) → ((id : ℕ) → Q id → P id) → IsNumberOf P number
    → IsNumberOf Q number
number_same P Q number there back is = record {
  all = is.all;
  once = is.once;
  exact = λ id. (λ has. there id ((is.exact id).0 has), λ holds. (is.exact id).1 (back id holds));
  number_is = is.number_is;
}

module _ (facts others : List FactValue) (same : SameFacts facts others) where
  there : (fact : FactValue) → Has facts fact → Has others fact
  there fact has = (same fact).0 has

  back : (fact : FactValue) → Has others fact → Has facts fact
  back fact has = (same fact).1 has

  pub layout_same : (class : ℕ) (layout : LayoutValue) → IsLayout facts class layout → IsLayout others class layout
  layout_same class (Known slots) is = known_stays facts others there class slots is
  layout_same class (Missing missing) is = record {
    dumps = is.dumps;
    chain = chain_stays facts others there class missing is.dumps is.chain;
    not_zero = is.not_zero;
    no_dump = λ dump has. is.no_dump dump (back (fact_of_class dump) has);
  }
  layout_same class Cyclic is = cyclic_stays facts others there class is

  pub laid_same : (number : ℕ) → IsNumberOf (CanBeLaid facts) number → IsNumberOf (CanBeLaid others) number
  laid_same number is =
      number_same (CanBeLaid facts) (CanBeLaid others) number (can_more facts others there) (can_more others facts back) is

  pub unlaid_same : (number : ℕ) → IsNumberOf (CannotBeLaid facts) number → IsNumberOf (CannotBeLaid others) number
  unlaid_same number is =
      number_same (CannotBeLaid facts) (CannotBeLaid others) number (cannot_more facts others there back)
      (cannot_more others facts back there) is

  pub edges_same : (ids : IdSize) (P : Edge → Type 0) (edges : List Edge) → AreEdges ids facts P edges → AreEdges ids others P edges
  edges_same ids P edges are = record {
    ascend = are.ascend;
    exact = λ edge. (
      λ has. (let both = (are.exact edge).0 has in (edge_stays facts others there ids edge both.0, both.1)),
      λ both. (are.exact edge).1 (edge_stays others facts back ids edge both.0, both.1),
    );
  }

-- ---- parts

-- the outcome tells of the parts
pub outcome_tells : (live : LiveHeap) (parts : List Given) → Gathers nothing_gathered parts (seen_by live) → Tells parts (outcome_of live)
outcome_tells live parts gathers = go live.failed refl where
  go : (t : Bool) → live.failed ≡ t → Tells parts (outcome_of live)
  go true e =
      let sound = (gathered_stands parts (seen_by live) gathers).sound in
      let failed : (seen_by live).failed ≡ true = ap (λ (t : Bool). t || (gathered live.gatherer).failed) e in
      let clash : true ≡ false = sym failed ∙ sound in
      absurd cc
  go false e =
      subst (Tells parts) (sym (sound_outcome live e))
      (told live.gatherer parts (subst (λ (g : Gathered). Gathers nothing_gathered parts g) (sound_seen live e) gathers))

-- parts of which one has the least time have one size at most
one_size : (parts : List Given) (least : ℕ) (ids other : IdSize) → IsLeastOf (map (λ part. part.header.millis) parts) least
    → AllByRecursion (λ part. part.header.ids ≡ ids) parts → AllByRecursion (λ part. part.header.ids ≡ other) parts → ids ≡ other
one_size [] least ids other is all more = absurd (no_least least is)
one_size (part ∷ parts) least ids other is all more = sym all.0 ∙ more.0

-- parts in conflict
disagree : (parts : List Given) (outcome : Result HeapValue Refusal) {X : Type 0} (P : IdSize → List FactValue → X → Type 0)
    → Tells parts outcome → IsAnswer P outcome lives.InConflict → Disagree parts
disagree parts (Ok heap) P tells holds = absurd holds
disagree parts (Err refusals.NoParts) P tells holds = absurd holds
disagree parts (Err refusals.IdSizes) P tells holds = inl (λ one. tells one.0 one.1)
disagree parts (Err (refusals.Conflict key)) P tells holds = inr (key, tells.2.conflict)
disagree parts (Err refusals.Failed) P tells holds = absurd holds

never_failed : (parts : List Given) (outcome : Result HeapValue Refusal) {X : Type 0} (P : IdSize → List FactValue → X → Type 0)
    → Tells parts outcome → IsAnswer P outcome lives.Failed → ⊥
never_failed parts (Ok heap) P tells holds = holds
never_failed parts (Err refusals.NoParts) P tells holds = holds
never_failed parts (Err refusals.IdSizes) P tells holds = holds
never_failed parts (Err (refusals.Conflict key)) P tells holds = holds
never_failed parts (Err refusals.Failed) P tells holds = tells

-- parts of which something is answered do not disagree
do_agree : {X : Type 0} (P : IdSize → List FactValue → X → Type 0) (parts : List Given) (x : X) → HoldsOf P parts x → Disagree parts → ⊥
do_agree P parts x holds (inl sizes) = sizes holds.one_size
do_agree P parts x holds (inr conflict) =
    let two = conflict.1 in
    two.differ (holds.agree conflict.0 two.one two.other two.has_one two.has_other two.key_of_one two.key_of_other)

module _ {X : Type 0} (P : IdSize → List FactValue → X → Type 0)
    (same : (ids : IdSize) (facts others : List FactValue) (x : X) → SameFacts facts others → P ids facts x → P ids others x) where
  holds_of : (parts : List Given) (outcome : Result HeapValue Refusal) (x : X) → Tells parts outcome → IsAnswer P outcome (lives.Is x)
      → HoldsOf P parts x
  holds_of parts (Ok heap) x tells holds = record {
    one_size = (heap.ids, tells.0);
    agree = tells.2;
    holds = λ ids all. subst (λ (i : IdSize). P i (all_given parts) x) (one_size parts heap.millis heap.ids ids tells.1 tells.0 all)
        (same heap.ids heap.facts (all_given parts) x tells.3 holds);
  }
  holds_of parts (Err refusals.NoParts) x tells holds =
      subst (λ (given : List Given). HoldsOf P given x) (sym tells) (record {
        one_size = (Four, tt);
        agree = λ key one other has has_other key_of key_of_other. absurd has;
        holds = λ ids all. holds ids;
      })
  holds_of parts (Err refusals.IdSizes) x tells holds = absurd holds
  holds_of parts (Err (refusals.Conflict key)) x tells holds = absurd holds
  holds_of parts (Err refusals.Failed) x tells holds = absurd holds

  answer_of_parts : (parts : List Given) (outcome : Result HeapValue Refusal) (answer : Live X) → Tells parts outcome
      → IsAnswer P outcome answer → IsAnswerOf P parts answer
  answer_of_parts parts outcome (lives.Is x) tells holds =
      let all = holds_of parts outcome x tells holds in
      record {
        no_fault = λ e. absurd cc;
        in_conflict = (λ e. absurd cc, λ two. absurd (do_agree P parts x all two));
        holds = λ this e. (let one : x ≡ this = cc in subst (HoldsOf P parts) one all);
      }
  answer_of_parts parts outcome lives.InConflict tells holds = record {
    no_fault = λ e. absurd cc;
    in_conflict = (λ e. disagree parts outcome P tells holds, λ two. refl);
    holds = λ this e. absurd cc;
  }
  answer_of_parts parts outcome lives.Failed tells holds = absurd (never_failed parts outcome P tells holds)

  -- what a live heap answers of the facts so far is of the parts
  pub of_parts : (live : LiveHeap) (parts : List Given) (answer : Live X) → Gathers nothing_gathered parts (seen_by live)
      → IsAnswer P (outcome_of live) answer → IsAnswerOf P parts answer
  of_parts live parts answer gathers holds = answer_of_parts parts (outcome_of live) answer (outcome_tells live parts gathers) holds
