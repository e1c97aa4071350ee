-- The nodes of which something holds, the largest first.
use Rattle.std.proofs.Common.{ℕ, List, [], ◌∷◌, inl, inr}
use Rattle.hprof_values.specs.declared.ids.IdSize.{IdSize}
use Rattle.hprof_items.specs.FactValue.{FactValue}
use Rattle.hprof_rows.specs.Conflict.{IsConsistent}
use Rattle.hprof_dominators.specs.Walks.{IsOn}
use Rattle.hprof_histogram.proofs.Members.{IsIn, Contains-from_in, in_from_Contains}
use Rattle.hprof_reach.specs.Reaching.{IsDumped}
use Rattle.hprof_retained.specs.Retained.{Sum}
use Rattle.hprof_retained.proofs.Deciding.{Decided}
use Rattle.hprof_retained.proofs.NodeLists.{nodes_exist}
use Rattle.hprof_retained.proofs.SomeSums.{retained_exists}
use Rattle.hprof_keeps.specs.Order.{AreLargestFirst, AreRetained}
use Rattle.hprof_keeps.proofs.NodeOrder.{in_order}

-- ---- lists of nodes

pub in_on : (x : ℕ) (nodes : List ℕ) → IsOn x nodes → IsIn x nodes
in_on x [] on = absurd on
in_on x (node ∷ nodes) on = elim on [ inl same ↦ inl same | inr later ↦ inr (in_on x nodes later) ]

pub on_in : (x : ℕ) (nodes : List ℕ) → IsIn x nodes → IsOn x nodes
on_in x [] on = absurd on
on_in x (node ∷ nodes) on = elim on [ inl same ↦ inl same | inr later ↦ inr (on_in x nodes later) ]

-- ---- of facts that agree

module _ (ids : IdSize) (facts : List FactValue) (agree : IsConsistent facts) where
  -- what each node retains
  abbrev pub sums : ℕ → Sum
  sums node = (retained_exists ids facts agree node).0

  pub are_sums : AreRetained ids facts sums
  are_sums node held = (retained_exists ids facts agree node).1

  -- there is a list of them
  pub largest_exist : (Holds : ℕ → Type 0) → ((node : ℕ) → Decided (Holds node)) → ((node : ℕ) → Holds node → IsDumped facts node)
      → (nodes : List ℕ) × AreLargestFirst sums Holds nodes
  largest_exist Holds decide dumped =
      let all = nodes_exist ids facts agree Holds decide dumped in
      let ordered = in_order sums all.0 in (
        ordered.all,
        record {
          ordered = ordered.sorted;
          exact = λ node. (
            λ has. (all.1.exact node).0 (on_in node all.0 (ordered.only node (in_from_Contains ordered.all node has))),
            λ holds. Contains-from_in ordered.all node (ordered.keeps node (in_on node all.0 ((all.1.exact node).1 holds))),
          );
        },
      )
