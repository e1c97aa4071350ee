-- Sums over the nodes at places, place by place.
use Rattle.std.specs.Prelude.{◌↔◌}
use Rattle.std.proofs.Common.{◌≡◌, ◌≢◌, ◌<◌, ◌+◌, ◌∙◌, ℕ, List, [], ◌∷◌, refl, sym, ap, subst, inl, inr, arith}
use Rattle.std.proofs.lemmas.Bool.{cases_eq}
use Rattle.std.proofs.lemmas.List.Sums.{sum_by-cons}
use Rattle.hprof_values.specs.declared.ids.IdSize.{IdSize}
use Rattle.hprof_items.specs.FactValue.{FactValue}
use Rattle.hprof_retained.specs.Retained.{Sum}
use Rattle.hprof_retained.specs.Tree.{IsTreeOf, count_of, node_at, sum_at, total_of}
use Rattle.hprof_retained.specs.declared.retained.Retained.{Retained}
use Rattle.hprof_keeps.specs.Order.{retained_in}
use Rattle.hprof_keeps.proofs.Held.{sum_there}
use Rattle.hprof_keeps.proofs.Places as places
use Rattle.hprof_suspects.specs.Parts.{AddUp}

-- the node is that at a place before a bound which is taken
pub record IsTakenTo (retained : Retained) (Takes : ℕ → Type 0) (done node : ℕ) : Type 0 where
  pub place : ℕ
  pub some : 0 < place
  pub within : place < count_of retained
  pub before : place < done
  pub takes : Takes place
  pub node_is : node_at retained place ≡ node

module _ (ids : IdSize) (facts : List FactValue) (retained : Retained) where
  abbrev pub Adds : (ℕ → Type 0) → ℕ → ℕ → Type 0
  Adds Holds bytes count = AddUp ids facts (retained_in retained) (total_of retained) Holds bytes count

  pub sum_alike : (One Other : ℕ → Type 0) (bytes count : ℕ) → ((node : ℕ) → One node ↔ Other node) → Adds One bytes count
      → Adds Other bytes count
  sum_alike One Other bytes count alike is = record {
    nodes = is.nodes;
    once = is.once;
    exact = λ node. (λ on. (alike node).0 ((is.exact node).0 on), λ holds. (is.exact node).1 ((alike node).1 holds));
    bytes_are = is.bytes_are;
    count_is = is.count_is;
  }

  pub sum_of_none : (Holds : ℕ → Type 0) → ((node : ℕ) → ¬ (Holds node)) → Adds Holds 0 0
  sum_of_none Holds none = record {
    nodes = [];
    once = tt;
    exact = λ node. (λ on. absurd on, λ holds. absurd (none node holds));
    bytes_are = refl;
    count_is = refl;
  }

  module _ (Takes : ℕ → Type 0) where
    pub sum_begin : Adds (IsTakenTo retained Takes 1) 0 0
    sum_begin = sum_of_none (IsTakenTo retained Takes 1) (λ node taken. let some = taken.some in let before = taken.before in omega arith)

    later : (done node : ℕ) → IsTakenTo retained Takes done node → IsTakenTo retained Takes (done + 1) node
    later done node taken = record {
      place = taken.place;
      some = taken.some;
      within = taken.within;
      before = let before = taken.before in omega arith;
      takes = taken.takes;
      node_is = taken.node_is;
    }

    earlier : (done node : ℕ) (taken : IsTakenTo retained Takes (done + 1) node) → taken.place ≢ done → IsTakenTo retained Takes done node
    earlier done node taken apart = record {
      place = taken.place;
      some = taken.some;
      within = taken.within;
      before = let before = taken.before in omega arith;
      takes = taken.takes;
      node_is = taken.node_is;
    }

    -- a place that is not taken
    pub sum_same : (done bytes count : ℕ) → ¬ (Takes done) → Adds (IsTakenTo retained Takes done) bytes count
        → Adds (IsTakenTo retained Takes (done + 1)) bytes count
    sum_same done bytes count none =
        sum_alike (IsTakenTo retained Takes done) (IsTakenTo retained Takes (done + 1)) bytes count
        (λ node. (later done node, λ taken. earlier done node taken (λ same. none (subst Takes same taken.takes))))

    -- and one that is
    pub sum_more : IsTreeOf ids facts retained → (done bytes count : ℕ) → 0 < done → done < count_of retained → Takes done
        → Adds (IsTakenTo retained Takes done) bytes count
        → Adds (IsTakenTo retained Takes (done + 1)) (bytes + (sum_at retained done).bytes) (count + 1)
    sum_more tree done bytes count some low takes is = record {
      nodes = node_at retained done ∷ is.nodes;
      once = (λ on. new_node ((is.exact (node_at retained done)).0 on), is.once);
      exact = λ node. (
        λ on. elim on [ inl same ↦ here node same | inr old ↦ later done node ((is.exact node).0 old) ],
        λ taken. elim (cases_eq taken.place done) [
          | inl same ↦ inl (sym taken.node_is ∙ ap (node_at retained) same)
          | inr apart ↦ inr ((is.exact node).1 (earlier done node taken apart))
        ],
      );
      bytes_are = (
          let front = sum_by-cons (λ node. (retained_in retained node).bytes) (node_at retained done) is.nodes in
          let old = is.bytes_are in
          let own = ap (λ (s : Sum). s.bytes) (sum_there ids facts retained tree done some low) in
          omega arith
          );
      count_is = let old = is.count_is in omega arith;
    } where
      new_node : IsTakenTo retained Takes done (node_at retained done) → ⊥
      new_node taken =
          let same = places.one_place ids facts retained tree taken.place done (taken.some, taken.within) (some, low) taken.node_is in
          let before = taken.before in
          absurd (omega arith)

      here : (node : ℕ) → node ≡ node_at retained done → IsTakenTo retained Takes (done + 1) node
      here node same = record {
        place = done;
        some = some;
        within = low;
        before = omega arith;
        takes = takes;
        node_is = sym same;
      }
