-- Lists put in order.
use Rattle.std.proofs.Common.{◌≡◌, ◌<◌, ℕ, List, [], ◌∷◌, refl, sym, subst, inl, inr}
use Rattle.std.specs.Cmp.{IsTotalOrder}
use Rattle.std.specs.List.{AllByRecursion}
use Rattle.std.specs.List.Sorted.{IsStrictlySortedBy}
use Rattle.std.specs.Ordering.{MatchOrdering, nat_cmp, ordering_then}
use Rattle.std.specs.declared.cmp.Ordering.{Ordering}
use Rattle.std.specs.declared.cmp.Ordering.TheVariants.{Less, Equal, Greater}
use Rattle.std.proofs.lemmas.Bool.{eqb-true}
use Rattle.std.proofs.lemmas.Cmp.{ranked}
use Rattle.hprof_histogram.proofs.Joining.{join_one}
use Rattle.hprof_histogram.proofs.Members.{IsIn}
use Rattle.hprof_histogram.proofs.RowOrder.{tied_numbers}

pub less_numbers : (n m : ℕ) → nat_cmp n m ≡ Less → n < m
less_numbers n m e = go (nat_cmp n m) (ranked n m _ refl) e where
  go : (o : Ordering) → MatchOrdering o (n < m) (n ≡ m) (m < n) → o ≡ Less → n < m
  go Less at e = at
  go Equal at e = absurd cc
  go Greater at e = absurd cc

pub equal_numbers : (n m : ℕ) → nat_cmp n m ≡ Equal → n ≡ m
equal_numbers n m e = eqb-true n m (tied_numbers n m e)

pub first_tied : (first second : Ordering) → ordering_then first second ≡ Equal → first ≡ Equal
first_tied Less second e = cc
first_tied Equal second e = refl
first_tied Greater second e = cc

module _ {A : Type 0} (R : A → A → Ordering) (total : IsTotalOrder R) (tied : (one other : A) → R one other ≡ Equal → one ≡ other) where
  -- the same, each once, in order
  pub record Ordered (xs : List A) : Type 0 where
    pub all : List A
    pub sorted : IsStrictlySortedBy R all
    pub only : (x : A) → IsIn x all → IsIn x xs
    pub keeps : (x : A) → IsIn x xs → IsIn x all

  pub in_order : (xs : List A) → Ordered xs
  unfolding IsStrictlySortedBy
  in_order [] = record { all = []; sorted = tt; only = λ x has. has; keeps = λ x has. has }
  in_order (one ∷ xs) =
      let rest = in_order xs in
      let more = join_one R total tied one rest.all rest.sorted in
      record {
        all = more.all;
        sorted = more.sorted;
        only = λ x has. elim (more.only x has) [ inl is ↦ inl is | inr later ↦ inr (rest.only x later) ];
        keeps = λ x has. elim has [
          | inl is ↦ subst (λ (y : A). IsIn y more.all) (sym is) more.has
          | inr later ↦ more.keeps x (rest.keeps x later)
        ];
      }

module _ {A : Type 0} (R S : A → A → Ordering) where
  after_too : (one : A) (xs : List A) → ((x : A) → IsIn x xs → R one x ≡ Less → S one x ≡ Less) → AllByRecursion (λ x. R one x ≡ Less) xs
      → AllByRecursion (λ x. S one x ≡ Less) xs
  after_too one [] weaker after = tt
  after_too one (x ∷ xs) weaker after = (weaker x (inl refl) after.0, after_too one xs (λ y on. weaker y (inr on)) after.1)

  -- what rises in one order rises in another one
  pub rises_too : (xs : List A) → ((one x : A) → IsIn one xs → IsIn x xs → R one x ≡ Less → S one x ≡ Less) → IsStrictlySortedBy R xs
      → IsStrictlySortedBy S xs
  unfolding IsStrictlySortedBy
  rises_too [] weaker sorted = tt
  rises_too (x ∷ xs) weaker sorted = (
    after_too x xs (λ y on. weaker x y (inl refl) (inr on)) sorted.0,
    rises_too xs (λ one y on on_too. weaker one y (inr on) (inr on_too)) sorted.1,
  )
