-- Of whichever texts there are sums, and these alone.
use Rattle.std.proofs.Common.{◌≡◌, ℕ, List, [], ◌∷◌, map, sym, ap, subst, ◌∙◌, inl, inr}
use Rattle.hprof_histogram.proofs.Members.{IsIn, Contains-from_in, in_from_Contains, in_map, one_sorted}
use Rattle.hprof_holders.specs.Sums.{AreSums, SumValue, sum_cmp, times_in}
use Rattle.hprof_holders.proofs.Gathered.{in_order}
use Rattle.hprof_holders.proofs.SumOrder.{sum_cmp_total, tied_sums}

module _ (texts : List (List ℕ)) where
  abbrev sum_of : List ℕ → SumValue
  sum_of text = record { text = text; count = times_in text texts }

  -- a sum of some texts is that of one of them
  is_of : (some : List (List ℕ)) (sum : SumValue) → IsIn sum (map sum_of some) → IsIn sum.text some × (sum.count ≡ times_in sum.text texts)
  is_of [] sum has = absurd has
  is_of (text ∷ some) sum has = elim has [
    | inl is ↦
        let texts_are = ap (λ (s : SumValue). s.text) is in
        (inl texts_are, ap (λ (s : SumValue). s.count) is ∙ ap (λ (t : List ℕ). times_in t texts) (sym texts_are))
    | inr later ↦ let it = is_of some sum later in (inr it.0, it.1)
  ]

  pub all_sums : (sums : List SumValue) × AreSums texts sums
  all_sums =
      let sorted = in_order sum_cmp sum_cmp_total tied_sums (map sum_of texts) in (
        sorted.all,
        record {
          ordered = sorted.sorted;
          exact = λ sum. (
            λ has. (let it = is_of texts sum (sorted.only sum (in_from_Contains sorted.all sum has)) in
                (Contains-from_in texts sum.text it.0, it.1)),
            λ is. Contains-from_in sorted.all sum (sorted.keeps sum (subst (λ (s : SumValue). IsIn s (map sum_of texts))
                (λ i. record { text = sum.text; count = sym is.1 i })
                (in_map sum_of texts sum.text (in_from_Contains texts sum.text is.0)))),
          );
        },
      )

  pub one_sums : (one other : List SumValue) → AreSums texts one → AreSums texts other → one ≡ other
  one_sums one other are too =
      one_sorted sum_cmp_total one other are.ordered too.ordered
      (λ sum has. in_from_Contains other sum ((too.exact sum).1 ((are.exact sum).0 (Contains-from_in one sum has))))
      (λ sum has. in_from_Contains one sum ((are.exact sum).1 ((too.exact sum).0 (Contains-from_in other sum has))))
