-- Lists of targets that are made node by node.
use Rattle.std.specs.Prelude.{◌↔◌, ◌≢◌, Contains, slice_index}
use Rattle.std.proofs.Common.{◌≡◌, ◌⊎◌, ◌<◌, ◌≤◌, ◌+◌, ℕ, List, [], length, inl, inr, refl, sym, subst, arith}
use Rattle.std.specs.List.Sorted.{IsStrictlyIncreasing}
use Rattle.hprof_numbers.specs.Lists.{IsListed, count_in}
use Rattle.hprof_numbers.specs.declared.lists.Lists.{Lists}
use Rattle.hprof_numbers.proofs.Arriving.{last}
use Rattle.hprof_numbers.proofs.Ascending.{less_far}
use Rattle.hprof_reach.specs.EdgesSoFar.{AreMade}

none_in : (to : ℕ) → Contains [] to → ⊥
none_in to has = omega (arith, has.1)

module _ (nodes : List ℕ) (ByClass : ℕ → ℕ → Type 0) where
  abbrev node : ℕ → ℕ
  node number = slice_index nodes number

  -- no object has come
  pub none_made : (ByObjects : ℕ → ℕ → Type 0) (lists : Lists) (targets : List ℕ) → ((from to : ℕ) → ByObjects from to → ⊥)
      → count_in lists ≡ 0 → targets ≡ [] → AreMade nodes ByClass ByObjects lists targets
  none_made ByObjects lists targets nowhere zero none = record {
    ended = λ from to low. absurd (omega (arith, low, zero));
    next = λ more to. (
      λ has. absurd (none_in to (subst (λ (l : List ℕ). Contains l to) none has)),
      λ leads. absurd (nowhere _ to leads),
    );
    later = λ number to high low leads. nowhere _ to leads;
  }

  -- other objects lead there from the same nodes
  pub same_made : (One Other : ℕ → ℕ → Type 0) (lists : Lists) (targets : List ℕ) → count_in lists ≤ length nodes
      → AreMade nodes ByClass One lists targets
      → ((number to : ℕ) → number < length nodes → Other (node number) to ↔ One (node number) to)
      → AreMade nodes ByClass Other lists targets
  same_made One Other lists targets few made same = record {
    ended = λ from to low.
        let is = made.ended from to low in
        let alike = same from (node to) (omega (arith, low, few)) in (
          λ listed. let leads = is.0 listed in (leads.0, elim leads.1 [ inl class ↦ inl class | inr one ↦ inr (alike.1 one) ]),
          λ leads. is.1 (leads.0, elim leads.1 [ inl class ↦ inl class | inr other ↦ inr (alike.0 other) ]),
        );
    next = λ more to.
        let is = made.next more to in
        let alike = same (count_in lists) to more in (λ has. alike.1 (is.0 has), λ leads. is.1 (alike.0 leads));
    later = λ number to high low leads. made.later number to high low ((same number to low).0 leads);
  }

  -- the next node has its list
  module _ (ByObjects : ℕ → ℕ → Type 0) (old new : Lists) (targets all left : List ℕ) (made : AreMade nodes ByClass ByObjects old targets)
      (within : count_in old < length nodes)
      (put : (to : ℕ) → Contains all to ↔ (Contains targets to ⊎ ByClass (node (count_in old)) to))
      (as_many : count_in new ≡ count_in old + 1)
      (before : (number one : ℕ) → number < count_in old → IsListed new number one ↔ IsListed old number one)
      (now : (one : ℕ) → IsListed new (count_in old) one ↔ ((one < length nodes) × Contains all (node one)))
      (none : left ≡ []) where
    ended_now : (to : ℕ) → IsListed new (count_in old) to
        ↔ ((to < length nodes) × (ByClass (node (count_in old)) (node to) ⊎ ByObjects (node (count_in old)) (node to)))
    ended_now to =
        let is = now to in
        let all_are = put (node to) in
        let next = made.next within (node to) in (
          λ listed.
              let has = is.0 listed in
              (has.0, elim (all_are.0 has.1) [ inl by_object ↦ inr (next.0 by_object) | inr by_class ↦ inl by_class ]),
          λ leads.
              is.1
              (leads.0, all_are.1 (elim leads.1 [ inl by_class ↦ inr by_class | inr by_object ↦ inl (next.1 by_object) ])),
        )

    pub list_made : AreMade nodes ByClass ByObjects new left
    list_made = record {
      ended = λ from to low. elim (last from (count_in old) (omega (arith, low, as_many))) [
        | inl early ↦
            let same = before from to early in
            let is = made.ended from to early in (λ listed. is.0 (same.0 listed), λ leads. same.1 (is.1 leads))
        | inr is ↦ subst (λ (n : ℕ). IsListed new n to
            ↔ ((to < length nodes) × (ByClass (node n) (node to) ⊎ ByObjects (node n) (node to))))
            (sym is) (ended_now to)
      ];
      next = λ more to. (
        λ has. absurd (none_in to (subst (λ (l : List ℕ). Contains l to) none has)),
        λ leads. absurd (made.later (count_in new) to (omega (arith, as_many)) more leads),
      );
      later = λ number to high low leads. made.later number to (omega (arith, high, as_many)) low leads;
    }

  -- an object of the next node has come
  module _ (ascend : IsStrictlyIncreasing nodes) (One Other : ℕ → ℕ → Type 0) (Gives : ℕ → Type 0) (lists : Lists) (targets all : List ℕ)
      (made : AreMade nodes ByClass One lists targets) (within : count_in lists < length nodes)
      (put : (to : ℕ) → Contains all to ↔ (Contains targets to ⊎ Gives to))
      (more : (from to : ℕ) → Other from to ↔ (One from to ⊎ ((node (count_in lists) ≡ from) × Gives to))) where
    -- it leads on from no other node
    from_other : (number to : ℕ) → (node (count_in lists) ≡ node number → ⊥) → Other (node number) to ↔ One (node number) to
    from_other number to apart = (
      λ other. elim ((more (node number) to).0 other) [ inl one ↦ one | inr here ↦ absurd (apart here.0) ],
      λ one. (more (node number) to).1 (inl one),
    )

    pub object_made : AreMade nodes ByClass Other lists all
    object_made = record {
      ended = λ from to low.
          let is = made.ended from to low in
          let less = less_far nodes ascend from (count_in lists) low within in
          let alike = from_other from (node to) (λ e. omega (arith, less, e)) in (
            λ listed. let leads = is.0 listed in (leads.0, elim leads.1 [ inl class ↦ inl class | inr one ↦ inr (alike.1 one) ]),
            λ leads. is.1 (leads.0, elim leads.1 [ inl class ↦ inl class | inr other ↦ inr (alike.0 other) ]),
          );
      next = λ low to.
          let is = made.next low to in
          let all_are = put to in
          let both = more (node (count_in lists)) to in (
            λ has. both.1 (elim (all_are.0 has) [ inl old ↦ inl (is.0 old) | inr gives ↦ inr (refl, gives) ]),
            λ leads. all_are.1 (elim (both.0 leads) [ inl one ↦ inl (is.1 one) | inr here ↦ inr here.1 ]),
          );
      later = λ number to high low leads.
          let less = less_far nodes ascend (count_in lists) number high low in
          made.later number to high low ((from_other number to (λ e. omega (arith, less, e))).0 leads);
    }
