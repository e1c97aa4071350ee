-- Texts that are counted one by one.
use Rattle.std.specs.Prelude.{cond, bytes_eq, if◌then◌else◌}
use Rattle.std.proofs.Common.{◌≡◌, ◌==◌, ℕ, ◌+◌, ◌<◌, ◌≤◌, Bool, true, false, List, [], ◌∷◌, ◌++◌, length, Option, Some, None}
use Rattle.std.proofs.Common.{refl, sym, ap, subst, ◌∙◌, append_assoc, append-nil, arith, unwrap_or, inl, inr}
use Rattle.std.specs.BTreeMap.{get_by_text}
use Rattle.std.specs.List.{filter}
use Rattle.std.proofs.lemmas.Bool.{both_ways, cases_lt, eqb-false, eqb-true}
use Rattle.std.proofs.lemmas.Slice.Eq.{bytes_eq-Decides}
use Rattle.hprof_holders.specs.declared.sums.Sums.{Sums}
use Rattle.hprof_holders.specs.SumCounts.{AreCounted, CountsOneMore, count_in, some_times}
use Rattle.hprof_holders.specs.Sums.{times_in}

-- ---- numbers

pub number_of : (times : ℕ) → unwrap_or (some_times times) 0 ≡ times
number_of times = by (times == 0) refl where
  by : (b : Bool) → (times == 0) ≡ b → unwrap_or (if b then None else Some times) 0 ≡ times
  by true e = sym (eqb-true times 0 e)
  by false e = refl

pub some_are : (times : ℕ) → 0 < times → some_times times ≡ Some times
some_are times some = by (times == 0) refl where
  by : (b : Bool) → (times == 0) ≡ b → (if b then None else Some times) ≡ Some times
  by true e = let zero = eqb-true times 0 e in absurd (omega (arith, some, zero))
  by false e = refl

-- a number that is kept is that of some times
pub times_are : (times count : ℕ) → some_times times ≡ Some count → (count ≡ times) × (0 < times)
times_are times count is = by (times == 0) refl is where
  by : (b : Bool) → (times == 0) ≡ b → (if b then None else Some times) ≡ Some count → (count ≡ times) × (0 < times)
  by true e found = absurd cc
  by false e found =
      let same : times ≡ count = cc in (
        sym same,
        elim (cases_lt 0 times) [ inl some ↦ some | inr none ↦ absurd (eqb-false times 0 e (omega (arith, none))) ],
      )

-- ---- one text more

module _ (text own : List ℕ) where
  times_more : (texts : List (List ℕ)) → bytes_eq text own ≡ true → times_in text (texts ++ own ∷ []) ≡ times_in text texts + 1
  times_more [] e = ap (λ (b : Bool). length (cond b (own ∷ []) [])) e
  times_more (first ∷ texts) e = by (bytes_eq text first) (times_more texts e) where
    by : (b : Bool) → times_in text (texts ++ own ∷ []) ≡ times_in text texts + 1
        → length (cond b (first ∷ filter (bytes_eq text) (texts ++ own ∷ [])) (filter (bytes_eq text) (texts ++ own ∷ [])))
        ≡ length (cond b (first ∷ filter (bytes_eq text) texts) (filter (bytes_eq text) texts)) + 1
    by true rest = omega (arith, rest)
    by false rest = rest

  times_as_before : (texts : List (List ℕ)) → bytes_eq text own ≡ false → times_in text (texts ++ own ∷ []) ≡ times_in text texts
  times_as_before [] e = ap (λ (b : Bool). length (cond b (own ∷ []) [])) e
  times_as_before (first ∷ texts) e = by (bytes_eq text first) (times_as_before texts e) where
    by : (b : Bool) → times_in text (texts ++ own ∷ []) ≡ times_in text texts
        → length (cond b (first ∷ filter (bytes_eq text) (texts ++ own ∷ [])) (filter (bytes_eq text) (texts ++ own ∷ [])))
        ≡ length (cond b (first ∷ filter (bytes_eq text) texts) (filter (bytes_eq text) texts))
    by true rest = omega (arith, rest)
    by false rest = rest

flipped : (one other : List ℕ) → bytes_eq one other ≡ false → bytes_eq other one ≡ false
flipped one other e = by (bytes_eq other one) refl where
  by : (b : Bool) → bytes_eq other one ≡ b → b ≡ false
  by true f = absurd (both_ways _ e ((bytes_eq-Decides one other).1 (sym ((bytes_eq-Decides other one).0 f))))
  by false f = refl

one_above : (number times more : ℕ) → number ≡ times → more ≡ times + 1 → number + 1 ≡ more
one_above number times more e f = omega (arith, e, f)

above_none : (times more : ℕ) → more ≡ times + 1 → 0 < more
above_none times more e = omega (arith, e)

at_most_one : (now before : ℕ) → now ≡ before + 1 → now ≤ before + 1
at_most_one now before e = omega (arith, e)

as_before : (now before : ℕ) → now ≡ before → now ≤ before + 1
as_before now before e = omega (arith, e)

module _ (old new : Sums) (own : List ℕ) (more : CountsOneMore old new own) where
  pub counted_more : (texts : List (List ℕ)) → AreCounted texts old → AreCounted (texts ++ own ∷ []) new
  counted_more texts counted text = more text ∙ by (bytes_eq own text) refl where
    number : count_in old own ≡ times_in own texts
    number = ap (λ (o : Option ℕ). unwrap_or o 0) (counted own) ∙ number_of (times_in own texts)

    by : (b : Bool) → bytes_eq own text ≡ b
        → cond b (Some (count_in old own + 1)) (get_by_text old.counts text) ≡ some_times (times_in text (texts ++ own ∷ []))
    by true e =
        let same = (bytes_eq-Decides own text).0 e in
        let times = times_more text own texts ((bytes_eq-Decides text own).1 (sym same)) in
        let number_too = number ∙ ap (λ (t : List ℕ). times_in t texts) same in
        ap Some (one_above (count_in old own) (times_in text texts) (times_in text (texts ++ own ∷ [])) number_too times)
        ∙ sym (some_are (times_in text (texts ++ own ∷ []))
        (above_none (times_in text texts) (times_in text (texts ++ own ∷ [])) times))
    by false e = counted text ∙ sym (ap some_times (times_as_before text own texts (flipped own text e)))

  -- no number grows by more than one
  pub grows : (text : List ℕ) → count_in new text ≤ count_in old text + 1
  grows text = by (bytes_eq own text) refl where
    now : (b : Bool) → bytes_eq own text ≡ b
        → count_in new text ≡ unwrap_or (cond b (Some (count_in old own + 1)) (get_by_text old.counts text)) 0
    now b e =
        ap (λ (o : Option ℕ). unwrap_or o 0)
        (more text ∙ ap (λ (t : Bool). cond t (Some (count_in old own + 1)) (get_by_text old.counts text)) e)

    by : (b : Bool) → bytes_eq own text ≡ b → count_in new text ≤ count_in old text + 1
    by true e =
        at_most_one (count_in new text) (count_in old text)
        (now true e ∙ ap (λ (t : List ℕ). count_in old t + 1) ((bytes_eq-Decides own text).0 e))
    by false e = as_before (count_in new text) (count_in old text) (now false e)

-- ---- what is counted, and what is left

pub record CountedTo (all left : List (List ℕ)) (sums : Sums) : Type 0 where
  pub done : List (List ℕ)
  pub parts : all ≡ done ++ left
  pub counted : AreCounted done sums

pub counted_none : (all : List (List ℕ)) (sums : Sums) → AreCounted [] sums → CountedTo all all sums
counted_none all sums none = record { done = []; parts = refl; counted = none }

pub counted_next : (all left rest : List (List ℕ)) (own : List ℕ) (old new : Sums) → CountedTo all left old → left ≡ own ∷ rest
    → CountsOneMore old new own → CountedTo all rest new
counted_next all left rest own old new counted split more = record {
  done = counted.done ++ own ∷ [];
  parts = counted.parts ∙ ap (λ (l : List (List ℕ)). counted.done ++ l) split ∙ sym (append_assoc counted.done (own ∷ []) rest);
  counted = counted_more old new own more counted.done counted.counted;
}

pub counted_all : (all left : List (List ℕ)) (sums : Sums) → CountedTo all left sums → left ≡ [] → AreCounted all sums
counted_all all left sums counted none =
    subst (λ (texts : List (List ℕ)). AreCounted texts sums)
    (sym (counted.parts ∙ ap (λ (l : List (List ℕ)). counted.done ++ l) none ∙ append-nil counted.done)) counted.counted

-- at first no number is above 0
pub none_counted : (sums : Sums) → AreCounted [] sums → (text : List ℕ) → count_in sums text ≡ 0
none_counted sums none text = ap (λ (o : Option ℕ). unwrap_or o 0) (none text)
