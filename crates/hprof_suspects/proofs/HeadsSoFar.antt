-- Heads of groups, place by place.
use Rattle.std.proofs.Common.{◌≡◌, ◌≢◌, ◌<◌, ◌+◌, ◌∙◌, ℕ, List, length, sym, ap, subst, inl, inr, arith, replicate, slice_index, slice_set}
use Rattle.std.proofs.Common.{get_or-set_other, get_or-set_same}
use Rattle.std.proofs.lemmas.Bool.{cases_eq}
use Rattle.std.proofs.lemmas.List.{get_or-replicate, length-replicate}
use Rattle.std.proofs.Math.ListN.{length-set}
use Rattle.hprof_values.specs.declared.ids.IdSize.{IdSize}
use Rattle.hprof_items.specs.FactValue.{FactValue}
use Rattle.hprof_retained.specs.Tree.{count_of}
use Rattle.hprof_retained.specs.declared.retained.Retained.{Retained}
use Rattle.hprof_suspects.specs.Heads.{AreHeads, HeadsFit, IsHeadOf, head_in, up}

-- ---- whatever the heads are

pub fit_begin : (retained : Retained) (heads : List ℕ) → heads ≡ replicate (count_of retained) 0 → 0 < count_of retained
    → HeadsFit retained heads
fit_begin retained heads are some = record {
  as_many = ap length are ∙ length-replicate (count_of retained) 0;
  low = λ place low.
      let none = ap (λ l. slice_index l place) are ∙ get_or-replicate (count_of retained) place 0 0 low in omega arith;
}

pub fit_more : (retained : Retained) (heads : List ℕ) (done head : ℕ) → done < count_of retained → head < count_of retained
    → HeadsFit retained heads → HeadsFit retained (slice_set heads done head)
fit_more retained heads done head done_low head_low so = record {
  as_many = length-set heads done head ∙ so.as_many;
  low = λ place low. elim (cases_eq place done) [
    | inl same ↦
        let put = ap (head_in (slice_set heads done head)) same
        ∙ get_or-set_same heads done head 0 (let many = so.as_many in omega arith) in
        omega arith
    | inr apart ↦ let kept = get_or-set_other heads done place head 0 apart in let below = so.low place low in omega arith
  ];
}

-- ---- heads of facts

module _ (ids : IdSize) (facts : List FactValue) (retained : Retained) where
  -- the places before a bound have their heads
  pub record AreHeadsTo (heads : List ℕ) (done : ℕ) : Type 0 where
    pub as_many : length heads ≡ count_of retained
    pub top : head_in heads 0 ≡ 0
    pub low : (place : ℕ) → place < count_of retained → head_in heads place < count_of retained
    pub each : (place : ℕ) → 0 < place → place < done → IsHeadOf ids facts retained heads place (head_in heads place)

  pub heads_begin : (heads : List ℕ) → heads ≡ replicate (count_of retained) 0 → 0 < count_of retained → AreHeadsTo heads 1
  heads_begin heads are some = record {
    as_many = ap length are ∙ length-replicate (count_of retained) 0;
    top = zero_at 0 some;
    low = λ place low. let none = zero_at place low in omega arith;
    each = λ place some low. absurd (omega arith);
  } where
    zero_at : (place : ℕ) → place < count_of retained → head_in heads place ≡ 0
    zero_at place low = ap (λ l. slice_index l place) are ∙ get_or-replicate (count_of retained) place 0 0 low

  head_low : (heads : List ℕ) (place head : ℕ) → place < count_of retained → ((place : ℕ) → place < count_of retained
      → head_in heads place < count_of retained)
      → up retained place < place → IsHeadOf ids facts retained heads place head → head < count_of retained
  head_low heads place head place_low low less is = elim is [
    | inl joins ↦ let below = low (up retained place) (omega arith) in let same = joins.1 in omega arith
    | inr apart ↦ let same = apart.1 in omega arith
  ]

  pub heads_more : (heads : List ℕ) (done head : ℕ) → 0 < done → done < count_of retained
      → ((place : ℕ) → 0 < place → up retained place < place) → IsHeadOf ids facts retained heads done head → AreHeadsTo heads done
      → AreHeadsTo (slice_set heads done head) (done + 1)
  heads_more heads done head some done_low falls is so = record {
    as_many = length-set heads done head ∙ so.as_many;
    top = keeps 0 (λ same. absurd (omega arith)) ∙ so.top;
    low = λ place low. elim (cases_eq place done) [
      | inl same ↦
          let put = ap (head_in (slice_set heads done head)) same ∙ here in
          let below = head_low heads done head done_low so.low (falls done some) is in
          omega arith
      | inr apart ↦ let kept = keeps place apart in let below = so.low place low in omega arith
    ];
    each = λ place place_some low. elim (cases_eq place done) [
      | inl same ↦
          subst (λ (p : ℕ). IsHeadOf ids facts retained (slice_set heads done head) p (head_in (slice_set heads done head) p)) (sym same)
          (subst (IsHeadOf ids facts retained (slice_set heads done head) done) (sym here) (moved done head (falls done some) is))
      | inr apart ↦
          subst (IsHeadOf ids facts retained (slice_set heads done head) place) (sym (keeps place apart))
          (moved place (head_in heads place) (let less = falls place place_some in omega arith) (so.each place place_some (omega arith)))
    ];
  } where
    here : head_in (slice_set heads done head) done ≡ head
    here = get_or-set_same heads done head 0 (let many = so.as_many in omega arith)

    keeps : (place : ℕ) → place ≢ done → head_in (slice_set heads done head) place ≡ head_in heads place
    keeps place apart = get_or-set_other heads done place head 0 apart

    moved : (place own : ℕ) → up retained place < done → IsHeadOf ids facts retained heads place own
        → IsHeadOf ids facts retained (slice_set heads done head) place own
    moved place own less is = elim is [
      | inl joins ↦ inl (joins.0, joins.1 ∙ sym (keeps (up retained place) (λ same. absurd (omega arith))))
      | inr apart ↦ inr apart
    ]

  pub heads_end : (heads : List ℕ) (done : ℕ) → done ≡ count_of retained → AreHeadsTo heads done → AreHeads ids facts retained heads
  heads_end heads done all so = record {
    as_many = so.as_many;
    top = so.top;
    each = λ place some low. so.each place some (omega arith);
  }
