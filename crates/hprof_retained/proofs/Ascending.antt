-- Numbers that ascend, those before a place among them, and the sums over them.
use Rattle.std.specs.Prelude.{◌↔◌, Contains, sum}
use Rattle.std.proofs.Common.{◌≡◌, ◌⊎◌, ◌<◌, ◌+◌, ◌++◌, ◌∙◌, ℕ, suc, List, [], ◌∷◌, length, slice_index, refl, sym, ap, subst, inl, inr}
use Rattle.std.proofs.Common.{arith}
use Rattle.std.specs.List.Sorted.{IsStrictlyIncreasing}
use Rattle.std.proofs.lemmas.Bool.{cases_eq}
use Rattle.std.proofs.lemmas.Grind.{get_or_default_zero}
use Rattle.std.proofs.lemmas.List.{get_or_append_left, length_push}
use Rattle.std.proofs.lemmas.List.Elements.{Contains-append_left, Contains-push, Contains-push_cases}
use Rattle.std.proofs.lemmas.List.Kept.{AllPairs-from_increasing}
use Rattle.std.proofs.lemmas.List.Sums.{sum_by-append}
use Rattle.std.proofs.Math.Seq.{get_or-append_seam}
use Rattle.hprof_values.specs.declared.ids.IdSize.{IdSize}
use Rattle.hprof_items.specs.FactValue.{FactValue}
use Rattle.hprof_histogram.proofs.Members.{Contains-from_in, IsIn, in_from_Contains}
use Rattle.hprof_numbers.proofs.Ascending.{has_number}
use Rattle.hprof_dominators.specs.Retained.{IsOnce}
use Rattle.hprof_dominators.specs.Walks.{IsOn}
use Rattle.hprof_retained.specs.Retained.{AreSizesOf, IsSizeOf}

-- one more, greater than all
pub push_ascends : (xs : List ℕ) (y : ℕ) → IsStrictlyIncreasing xs → ((x : ℕ) → Contains xs x → x < y) → IsStrictlyIncreasing (xs ++ y ∷ [])
push_ascends xs y ascend less k low =
    let long = length_push xs y in
    let first = get_or_append_left xs (y ∷ []) 0 k (omega arith) in
    elim (cases_eq (k + 1) (length xs)) [
      | inl last ↦
          let here = ap (slice_index (xs ++ y ∷ [])) last ∙ get_or-append_seam xs y [] 0 in
          let before = less (slice_index xs k) (has_number xs (slice_index xs k) k (omega arith) refl) in
          omega arith
      | inr apart ↦
          let next = get_or_append_left xs (y ∷ []) 0 (k + 1) (omega arith) in
          let was = ascend k (omega arith) in
          omega arith
    ]

-- ---- each once

on_from_in : (xs : List ℕ) (x : ℕ) → IsIn x xs → IsOn x xs
on_from_in [] x is = is
on_from_in (y ∷ ys) x is = elim is [ inl same ↦ inl same | inr later ↦ inr (on_from_in ys x later) ]

in_from_on : (xs : List ℕ) (x : ℕ) → IsOn x xs → IsIn x xs
in_from_on [] x is = is
in_from_on (y ∷ ys) x is = elim is [ inl same ↦ inl same | inr later ↦ inr (in_from_on ys x later) ]

pub on_is : (xs : List ℕ) (x : ℕ) → IsOn x xs ↔ Contains xs x
on_is xs x = (λ on. Contains-from_in xs x (in_from_on xs x on), λ has. on_from_in xs x (in_from_Contains xs x has))

pub once_ascending : (xs : List ℕ) → IsStrictlyIncreasing xs → IsOnce xs
once_ascending [] ascend = tt
once_ascending (x ∷ ys) ascend =
    let all = AllPairs-from_increasing (x ∷ ys) ascend in (
      λ on.
          let has = (on_is ys x).0 on in
          let low = has.1 in
          let less = all 0 (suc has.0) x (omega arith) (omega arith) in
          let same = has.2 in
          omega arith,
      once_ascending ys (λ k low. all (suc k) (suc (k + 1)) 0 (omega arith) (omega arith)),
    )

-- ---- those before a place in a list

abbrev pub Taken : List ℕ → ℕ → ℕ → Type 0
Taken nodes index node = (place : ℕ) × (place < index) × (slice_index nodes place ≡ node)

pub one_further : (nodes : List ℕ) (index : ℕ) (node : ℕ)
    → Taken nodes (index + 1) node ↔ (Taken nodes index node ⊎ (node ≡ slice_index nodes index))
one_further nodes index node = (
  λ taken. elim (cases_eq taken.0 index) [
    | inl here ↦ inr (sym taken.2 ∙ ap (slice_index nodes) here)
    | inr other ↦ inl (taken.0, (let low = taken.1 in omega arith), taken.2)
  ],
  λ cases. elim cases [
    | inl taken ↦ (taken.0, (let low = taken.1 in omega arith), taken.2)
    | inr is ↦ (index, omega arith, sym is)
  ],
)

-- they are less than the one at the place
pub less_before : (nodes : List ℕ) (index node : ℕ) → IsStrictlyIncreasing nodes → index < length nodes → Taken nodes index node
    → node < slice_index nodes index
less_before nodes index node ascend low taken =
    let less = AllPairs-from_increasing nodes ascend taken.0 index 0 taken.1 low in
    let same = taken.2 in
    omega arith

pub all_before : (nodes : List ℕ) (index node : ℕ) → index ≡ length nodes → Taken nodes index node ↔ Contains nodes node
all_before nodes index node all = (
  λ taken. (let low = taken.1 in has_number nodes node taken.0 (omega arith) taken.2),
  λ has. (
    has.0,
    (let low = has.1 in omega arith),
    sym (get_or_default_zero nodes has.0 node has.1) ∙ has.2,
  ),
)

-- ---- those that pass

-- of the nodes before a place those that pass, as they were taken
abbrev pub ArePassed : (ℕ → Type 0) → List ℕ → ℕ → List ℕ → Type 0
ArePassed Passes nodes index passed = (node : ℕ) → Contains passed node ↔ (Taken nodes index node × Passes node)

module _ (Passes : ℕ → Type 0) (nodes : List ℕ) (index : ℕ) (passed : List ℕ) (before : ArePassed Passes nodes index passed) where
  pub one_passes : (after : List ℕ) (node : ℕ) → node ≡ slice_index nodes index → after ≡ passed ++ node ∷ [] → Passes node
      → ArePassed Passes nodes (index + 1) after
  one_passes after node here pushed passes x = (
    λ has. elim (Contains-push_cases passed node x (subst (λ (l : List ℕ). Contains l x) pushed has)) [
      | inl old ↦ let was = (before x).0 old in ((one_further nodes index x).1 (inl was.0), was.1)
      | inr same ↦ ((one_further nodes index x).1 (inr (sym same ∙ here)), subst Passes same passes)
    ],
    λ both. subst (λ (l : List ℕ). Contains l x) (sym pushed) (elim ((one_further nodes index x).0 both.0) [
      | inl taken ↦ Contains-append_left passed (node ∷ []) x ((before x).1 (taken, both.1))
      | inr is ↦ subst (Contains (passed ++ node ∷ [])) (here ∙ sym is) (Contains-push passed node)
    ]),
  )

  pub one_fails : (node : ℕ) → node ≡ slice_index nodes index → (Passes node → ⊥) → ArePassed Passes nodes (index + 1) passed
  one_fails node here fails x = (
    λ has. (let was = (before x).0 has in ((one_further nodes index x).1 (inl was.0), was.1)),
    λ both. elim ((one_further nodes index x).0 both.0) [
      | inl taken ↦ (before x).1 (taken, both.1)
      | inr is ↦ absurd (fails (subst Passes (is ∙ sym here) both.1))
    ],
  )

-- ---- sizes

module _ (ids : IdSize) (facts : List FactValue) where
  -- the sizes of nodes, with their sum
  pub record AreSummed (nodes : List ℕ) (bytes : ℕ) : Type 0 where
    pub sizes : List ℕ
    pub are : AreSizesOf ids facts nodes sizes
    pub is : bytes ≡ sum sizes

  sizes_push : (nodes sizes : List ℕ) (node size : ℕ) → AreSizesOf ids facts nodes sizes → IsSizeOf ids facts node size
      → AreSizesOf ids facts (nodes ++ node ∷ []) (sizes ++ size ∷ [])
  sizes_push [] sizes node size are is =
      subst (λ (l : List ℕ). AreSizesOf ids facts (node ∷ []) (l ++ size ∷ [])) (sym are) (is, refl)
  sizes_push (first ∷ nodes) [] node size are is = absurd are
  sizes_push (first ∷ nodes) (one ∷ sizes) node size are is = (are.0, sizes_push nodes sizes node size are.1 is)

  pub summed_more : (nodes after : List ℕ) (node bytes size : ℕ) → after ≡ nodes ++ node ∷ [] → AreSummed nodes bytes
      → IsSizeOf ids facts node size → AreSummed after (bytes + size)
  summed_more nodes after node bytes size pushed was is = record {
    sizes = was.sizes ++ size ∷ [];
    are = subst (λ (l : List ℕ). AreSizesOf ids facts l (was.sizes ++ size ∷ [])) (sym pushed)
        (sizes_push nodes was.sizes node size was.are is);
    is = (let same = was.is in let all = sum_by-append (λ (n : ℕ). n) was.sizes (size ∷ []) in omega arith);
  }
