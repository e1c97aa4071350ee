-- Reading all parts, one after the other.
use Rattle.std.proofs.Common.{◌≡◌, ℕ, zero, suc, ◌+◌, List, [], ◌∷◌, ◌++◌, length, take, map, set, Option, Some, None, get_or, ◌<◌, inl}
use Rattle.std.proofs.Common.{inr, refl, sym, ap, subst, ◌∙◌, add-one, append-nil, arith}
use Rattle.std.proofs.lemmas.Bool.{cases_lt}
use Rattle.std.proofs.lemmas.Option.{slice_get_cases, get_or_from_slice_get}
use Rattle.std.specs.Io.KnownBytes.{Consumes, IsAtEnd}
use Rattle.std.specs.Prelude.{slice_get}
use Rattle.hprof_items.specs.declared.header.Header.{Header}
use Rattle.hprof_devices.specs.declared.health.Health.{Health}
use Rattle.hprof_items.specs.FactValue.{FactValue}
use Rattle.hprof_stream.specs.declared.limits.Limits.{Limits}
use Rattle.hprof_stream.specs.declared.summary.PartSummary.{PartSummary}
use Rattle.hprof_stream.specs.Part.{IsPart, IsSummary}
use Rattle.hprof_stream.specs.Run.{Run}
use Rattle.hprof_heap.specs.Gathering.{Gathered, Given, Begins, Takes}
use Rattle.hprof_engine.specs.Joining.{IsAccepted, IsGiven, AreGiven, GathersFirst, IsReadOut, AreReadOut}
use Rattle.hprof_engine.specs.Summaries.{IsSummarised, AreSummarised, HoldsFirst}
use Rattle.hprof_engine.proofs.Gathered.{Gathers-more}

-- the front with one more
take_one : {R : Type 0} (xs : List R) (i : ℕ) (x : R) → slice_get xs i ≡ Some x → take (suc i) xs ≡ take i xs ++ x ∷ []
take_one [] i x e = absurd cc
take_one (y ∷ xs) zero x e = let same : y ≡ x = cc in ap (λ z. z ∷ []) same
take_one (y ∷ xs) (suc i) x e = ap (λ zs. y ∷ zs) (take_one xs i x e)

-- a function of the front with one more
map_one : {R A : Type 0} (f : R → A) (xs : List R) (x : R) → map f (xs ++ x ∷ []) ≡ map f xs ++ f x ∷ []
map_one f [] x = refl
map_one f (y ∷ xs) x = ap (λ ys. f y ∷ ys) (map_one f xs x)

-- one more reader, and what it gave
AreGiven-more : (limits : Limits) (lefts : List (Option (List ℕ))) (left : Option (List ℕ)) (given : List Given) (part : Given)
    → AreGiven limits lefts given → IsGiven limits left part
    → AreGiven limits (lefts ++ left ∷ []) (given ++ part ∷ [])
AreGiven-more limits [] left [] part are is = (is, tt)
AreGiven-more limits (first ∷ lefts) left (one ∷ given) part are is = (are.0, AreGiven-more limits lefts left given part are.1 is)
AreGiven-more limits [] left (one ∷ given) part are is = absurd are
AreGiven-more limits (first ∷ lefts) left [] part are is = absurd are

-- one more reader, and the summary of what it told
AreSummarised-more : (lefts : List (Option (List ℕ))) (left : Option (List ℕ)) (summaries : List PartSummary) (summary : PartSummary)
    → AreSummarised lefts summaries → IsSummarised left summary
    → AreSummarised (lefts ++ left ∷ []) (summaries ++ summary ∷ [])
AreSummarised-more [] left [] summary are is = (is, tt)
AreSummarised-more (first ∷ lefts) left (one ∷ summaries) summary are is = (are.0, AreSummarised-more lefts left summaries summary are.1 is)
AreSummarised-more [] left (one ∷ summaries) summary are is = absurd are
AreSummarised-more (first ∷ lefts) left [] summary are is = absurd are

-- the element at a place, found by what stands there
pub element_at : {R : Type 0} (old cur : List R) (index : ℕ) (was : R) → index < length old
    → get_or cur index was ≡ get_or old index was → was ≡ get_or cur index was → slice_get old index ≡ Some was
element_at old cur index was lt same is =
    elim (slice_get_cases old index).1 [
      | inl found ↦ let e : was ≡ found.0 = is ∙ same ∙ get_or_from_slice_get old index found.0 was found.2 in found.2 ∙ ap Some (sym e)
      | inr past ↦ absurd (omega (arith, past.0))
    ]

-- what was written to a place stands there
pub element_set : {R : Type 0} (xs : List R) (i : ℕ) (x : R) → i < length xs → slice_get (set xs i x) i ≡ Some x
element_set [] i x lt = absurd (omega arith)
element_set (y ∷ xs) zero x lt = refl
element_set (y ∷ xs) (suc i) x lt = element_set xs i x (omega arith)

-- two lists that agree at a place have the same there, or nothing
pub same_at : {R : Type 0} (xs ys : List R) (k : ℕ) → length xs ≡ length ys → ((d : R) → k < length ys → get_or xs k d ≡ get_or ys k d)
    → slice_get xs k ≡ slice_get ys k
same_at [] [] k e same = refl
same_at [] (y ∷ ys) k e same = absurd cc
same_at (x ∷ xs) [] k e same = absurd cc
same_at (x ∷ xs) (y ∷ ys) zero e same = ap Some (same x (omega arith))
same_at (x ∷ xs) (y ∷ ys) (suc k) e same =
    (let behind : length xs ≡ length ys = cc in same_at xs ys k behind (λ d below. same d (omega (arith, below))))

-- what a reader told that was read to its end is given
pub given_if_told : (limits : Limits) (left rest : Option (List ℕ)) (came : List ℕ) (part : Given) → Consumes left rest came
    → IsAtEnd rest → IsAccepted limits came
    → IsPart came part.header.ids part.header.millis part.facts → IsGiven limits left part
given_if_told limits None rest came part consumes ends sound is = tt
given_if_told limits (Some bytes) None came part consumes ends sound is = absurd consumes
given_if_told limits (Some bytes) (Some rest) came part consumes ends sound is =
    let whole : came ≡ bytes = sym (append-nil came) ∙ ap (λ (r : List ℕ). came ++ r) (sym ends) ∙ sym consumes in (
      subst (λ (b : List ℕ). IsAccepted limits b) whole sound,
      subst (λ (b : List ℕ).
          IsPart b part.header.ids part.header.millis part.facts) whole is,
    )

-- what a reader told that was read to its end has the summary of what came
pub summarised_if_told : (left rest : Option (List ℕ)) (came : List ℕ) (summary : PartSummary) → Consumes left rest came → IsAtEnd rest
    → IsSummary came summary → IsSummarised left summary
summarised_if_told None rest came summary consumes ends is = tt
summarised_if_told (Some bytes) None came summary consumes ends is = absurd consumes
summarised_if_told (Some bytes) (Some rest) came summary consumes ends is =
    let whole : came ≡ bytes = sym (append-nil came) ∙ ap (λ (r : List ℕ). came ++ r) (sym ends) ∙ sym consumes in
    subst (λ (b : List ℕ). IsSummary b summary) whole is

module _ {R : Type 0} (left : R → Option (List ℕ)) where
  -- what the readers told, with one more
  lefts_more : (old : List R) (i : ℕ) (was : R) → slice_get old i ≡ Some was → map left (take (i + 1) old) ≡ map left (take i old)
      ++ left was ∷ []
  lefts_more old i was there = ap (λ (n : ℕ). map left (take n old)) (add-one i) ∙ ap (map left) (take_one old i was there)
      ∙ map_one left (take i old) was

  -- no reader was read
  pub GathersFirst-none : (limits : Limits) (old : List R) (from : Gathered) → GathersFirst left limits old 0 from from
  GathersFirst-none limits old from = record { given = []; of_readers = tt; gathers = refl }

  -- one more was
  pub GathersFirst-more : (limits : Limits) (old : List R) (i : ℕ) (was : R) (from mid new : Gathered) (header : Header)
      (facts : List FactValue) → slice_get old i ≡ Some was
      → GathersFirst left limits old i from mid → Run Begins Takes mid (Some header) facts new
      → IsGiven limits (left was) (record { header = header; facts = facts })
      → GathersFirst left limits old (i + 1) from new
  GathersFirst-more limits old i was from mid new header facts there first run is =
      let part : Given = record { header = header; facts = facts } in
      record {
        given = first.given ++ part ∷ [];
        of_readers = subst (λ (l : List (Option (List ℕ))). AreGiven limits l (first.given ++ part ∷ []))
            (sym (lefts_more old i was there)) (AreGiven-more limits (map left (take i old)) (left was) first.given part
            first.of_readers is);
        gathers = Gathers-more from mid new first.given header facts first.gathers run;
      }

  module _ {S : Type 0} (holds : S → List PartSummary → Type 0) where
    -- nothing was told
    pub HoldsFirst-none : (old : List R) (kept : S) → holds kept [] → HoldsFirst left holds old 0 kept
    HoldsFirst-none old kept none = record { summaries = []; of_readers = tt; held = none }

    -- one more summary was
    pub HoldsFirst-more : (old : List R) (i : ℕ) (was : R) (mid new : S) (summary : PartSummary) → slice_get old i ≡ Some was
        → HoldsFirst left holds old i mid
        → ((before : List PartSummary) → holds mid before → holds new (before ++ summary ∷ [])) → IsSummarised (left was) summary
        → HoldsFirst left holds old (i + 1) new
    HoldsFirst-more old i was mid new summary there first held is = record {
      summaries = first.summaries ++ summary ∷ [];
      of_readers = subst (λ (l : List (Option (List ℕ))). AreSummarised l (first.summaries ++ summary ∷ []))
          (sym (lefts_more old i was there)) (AreSummarised-more (map left (take i old)) (left was) first.summaries summary
          first.of_readers is);
      held = held first.summaries first.held;
    }

-- what was written to another place changes nothing here
get_set_other : {R : Type 0} (xs : List R) (i k : ℕ) (x : R) → k < i → slice_get (set xs i x) k ≡ slice_get xs k
get_set_other [] i k x other = refl
get_set_other (y ∷ xs) zero k x other = absurd (omega arith)
get_set_other (y ∷ xs) (suc i) zero x other = refl
get_set_other (y ∷ xs) (suc i) (suc k) x other = get_set_other xs i k x (omega arith)

module _ {R : Type 0} (left : R → Option (List ℕ)) (health : R → Health) (pulls : R → ℕ) where
  -- what was written to a place behind them changes nothing for readers that were read to their ends
  pub AreReadOut-kept : (limits : Limits) (old cur : List R) (i : ℕ) (is : R) → AreReadOut left health pulls limits old cur i
      → AreReadOut left health pulls limits old (set cur i is) i
  AreReadOut-kept limits old cur i is out k before =
      let one = out k before in
      (one.0, one.1, one.2, get_set_other cur i k is before ∙ one.3, one.4)

  -- one more reader was read to its end
  pub AreReadOut-more : (limits : Limits) (old cur : List R) (i : ℕ) (was is : R) → slice_get old i ≡ Some was → i < length cur
      → AreReadOut left health pulls limits old cur i
      → IsReadOut left health pulls limits was is → AreReadOut left health pulls limits old (set cur i is) (i + 1)
  AreReadOut-more limits old cur i was is there within out read k below =
      elim (cases_lt k i) [
        | inl before ↦ AreReadOut-kept limits old cur i is out k before
        | inr here ↦ let same : i ≡ k = omega arith in
            subst (λ (n : ℕ). (from : R) × (to : R) × (slice_get old n ≡ Some from) × (slice_get (set cur i is) n ≡ Some to)
            × IsReadOut left health pulls limits from to) same (was, is, there, element_set cur i is within, read)
      ]
