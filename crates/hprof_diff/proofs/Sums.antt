-- Sums of what has a label, and of all.
use Rattle.std.proofs.Common.{◌≡◌, ℕ, ◌+◌, Bool, true, false, cond, List, [], ◌∷◌, ◌++◌, refl, sym, ap, ◌∙◌, arith}
use Rattle.std.specs.Prelude.{bytes_eq}
use Rattle.std.specs.List.{filter, sum_by}
use Rattle.std.specs.List.Sorted.{IsPermutation}
use Rattle.std.proofs.lemmas.List.Sorted.{sum_by-IsPermutation}
use Rattle.std.proofs.lemmas.List.Sums.{sum_by-cons, sum_by_push}
use Rattle.hprof_diff.specs.declared.counted.Counted.{Counted}
use Rattle.hprof_diff.specs.Sources.{both, nothing, sum_under}

-- ---- two numbers

pub both_nothing : (counted : Counted) → both counted nothing ≡ counted
both_nothing counted =
    let count : counted.count + 0 ≡ counted.count = omega arith in
    let bytes : counted.bytes + 0 ≡ counted.bytes = omega arith in
    λ i. record { count = count i; bytes = bytes i }

pub nothing_both : (counted : Counted) → both nothing counted ≡ counted
nothing_both counted =
    let count : 0 + counted.count ≡ counted.count = omega arith in
    let bytes : 0 + counted.bytes ≡ counted.bytes = omega arith in
    λ i. record { count = count i; bytes = bytes i }

pub both_assoc : (these those more : Counted) → both (both these those) more ≡ both these (both those more)
both_assoc these those more =
    let count : these.count + those.count + more.count ≡ these.count + (those.count + more.count) = omega arith in
    let bytes : these.bytes + those.bytes + more.bytes ≡ these.bytes + (those.bytes + more.bytes) = omega arith in
    λ i. record { count = count i; bytes = bytes i }

-- these, or none
pub if_has : Bool → Counted → Counted
if_has b counted = cond b counted nothing

pub has_it : (counted : Counted) → if_has true counted ≡ counted
unfolding if_has
has_it counted = refl

pub has_not : (counted : Counted) → if_has false counted ≡ nothing
unfolding if_has
has_not counted = refl

count_if : (b : Bool) (counted : Counted) → cond b counted.count 0 ≡ (if_has b counted).count
unfolding if_has
count_if true counted = refl
count_if false counted = refl

bytes_if : (b : Bool) (counted : Counted) → cond b counted.bytes 0 ≡ (if_has b counted).bytes
unfolding if_has
bytes_if true counted = refl
bytes_if false counted = refl

-- ---- one more

module _ {X : Type 0} (label : X → List ℕ) (counted : X → Counted) (text : List ℕ) where
  -- the number, and the bytes, of one that has the label
  abbrev count_of_one : X → ℕ
  count_of_one x = cond (bytes_eq (label x) text) (counted x).count 0

  abbrev bytes_of_one : X → ℕ
  bytes_of_one x = cond (bytes_eq (label x) text) (counted x).bytes 0

  pub under_cons : (x : X) (xs : List X)
      → sum_under label counted text (x ∷ xs) ≡ both (if_has (bytes_eq (label x) text) (counted x)) (sum_under label counted text xs)
  under_cons x xs =
      let b = bytes_eq (label x) text in
      let count = sum_by-cons count_of_one x xs ∙ ap (λ (n : ℕ). n + sum_by count_of_one xs) (count_if b (counted x)) in
      let bytes = sum_by-cons bytes_of_one x xs ∙ ap (λ (n : ℕ). n + sum_by bytes_of_one xs) (bytes_if b (counted x)) in
      λ i. record { count = count i; bytes = bytes i }

  pub under_push : (xs : List X) (x : X)
      → sum_under label counted text (xs ++ x ∷ []) ≡ both (sum_under label counted text xs) (if_has (bytes_eq (label x) text) (counted x))
  under_push xs x =
      let b = bytes_eq (label x) text in
      let count = sum_by_push count_of_one xs x ∙ ap (λ (n : ℕ). sum_by count_of_one xs + n) (count_if b (counted x)) in
      let bytes = sum_by_push bytes_of_one xs x ∙ ap (λ (n : ℕ). sum_by bytes_of_one xs + n) (bytes_if b (counted x)) in
      λ i. record { count = count i; bytes = bytes i }

  pub under_moved : (xs ys : List X) → IsPermutation xs ys → sum_under label counted text ys ≡ sum_under label counted text xs
  under_moved xs ys moved =
      let count = sum_by-IsPermutation count_of_one xs ys moved in
      let bytes = sum_by-IsPermutation bytes_of_one xs ys moved in
      λ i. record { count = count i; bytes = bytes i }

-- one goes from the front of what is left to the end of what is done
pub moved_more : {X Y : Type 0} (label : X → List ℕ) (counted : X → Counted) (label_too : Y → List ℕ) (counted_too : Y → Counted)
    (text : List ℕ) (xs : List X) (x : X) (y : Y) (ys : List Y) → label x ≡ label_too y → counted x ≡ counted_too y
    → both (sum_under label counted text (xs ++ x ∷ [])) (sum_under label_too counted_too text ys)
    ≡ both (sum_under label counted text xs) (sum_under label_too counted_too text (y ∷ ys))
moved_more label counted label_too counted_too text xs x y ys same same_too =
    let done = sum_under label counted text xs in
    let left = sum_under label_too counted_too text ys in
    ap (λ (c : Counted). both c left) (under_push label counted text xs x)
    ∙ both_assoc done (if_has (bytes_eq (label x) text) (counted x)) left
    ∙ ap (λ (t : List ℕ). both done (both (if_has (bytes_eq t text) (counted x)) left)) same
    ∙ ap (λ (c : Counted). both done (both (if_has (bytes_eq (label_too y) text) c) left)) same_too
    ∙ ap (both done) (sym (under_cons label_too counted_too text y ys))

-- ---- a filter

pub sum_of_filter : {X : Type 0} (f : X → ℕ) (test : X → Bool) (xs : List X) → sum_by f (filter test xs)
    ≡ sum_by (λ x. cond (test x) (f x) 0) xs
sum_of_filter f test [] = refl
sum_of_filter f test (x ∷ xs) =
    by_test (test x) (sum_of_filter f test xs) ∙ sym (sum_by-cons (λ y. cond (test y) (f y) 0) x xs) where
      by_test : (b : Bool) → sum_by f (filter test xs) ≡ sum_by (λ y. cond (test y) (f y) 0) xs
          → sum_by f (cond b (x ∷ filter test xs) (filter test xs)) ≡ cond b (f x) 0 + sum_by (λ y. cond (test y) (f y) 0) xs
      by_test true same = sum_by-cons f x (filter test xs) ∙ ap (λ (n : ℕ). f x + n) same
      by_test false same = same ∙ omega arith
