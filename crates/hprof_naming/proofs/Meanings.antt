-- What words of each form mean.
use Rattle.std.proofs.Common.{◌&&◌, inl, inr, ◌≡◌, ◌≢◌, ◌↔◌, ℕ, ◌-◌, Bool, true, false, cond, ◌==◌, List, [], ◌∷◌, ◌++◌, Some, length}
use Rattle.std.proofs.Common.{get_or, take, refl, sym, ap, ◌∙◌, append_assoc, arith, nat_eq, nat_lt, codes}
use Rattle.std.specs.Prelude.{bytes_eq, find}
use Rattle.std.specs.List.{ends_with, list_all}
use Rattle.std.proofs.Math.Seq.{get_or-append_seam, take-append_seam}
use Rattle.std.proofs.lemmas.List.{append-nil, length-append}
use Rattle.std.proofs.lemmas.Bool.{and_parts, both_ways, cond-false, cond-true, eq-eqb, lt-ltb, or_cases}
use Rattle.std.proofs.lemmas.Bool.Decides.{Decides-eqb}
use Rattle.std.proofs.lemmas.Slice.Eq.{bytes_eq-Decides, ends_is}
use Rattle.hprof_values.specs.declared.basic.Basic.{Basic}
use Rattle.hprof_naming.specs.TypeWord.{type_word}
use Rattle.hprof_naming.specs.TypeNames.{arrays_named, is_array_word, primitive_types, type_letter}
use Rattle.hprof_naming.specs.MeantLabel.{Means, bare_name, before_pairs, count_of_pairs, is_class_descriptor, meant_label, slashed}
use Rattle.hprof_naming.proofs.Pairs.{EndsInNoPair, all_dropped}

-- ---- words without pairs

meant_without_pairs : (word : List ℕ) → EndsInNoPair word → meant_label word ≡ bare_name word
meant_without_pairs word none =
    let it = all_dropped word word 0 (sym (append-nil word)) none in
    let before : before_pairs word ≡ word = sym it.0 in
    let count : count_of_pairs word ≡ 0 = sym it.1 in
    rw count (ap bare_name before)

pub plain_word : (word label : List ℕ) → ends_with nat_eq word (codes "[]") ≡ false → is_class_descriptor word ≡ false
    → Means word label ↔ (slashed label ≡ slashed word)
plain_word word label no_pair no_descriptor =
    let ends = ends_is Decides-eqb word (91 ∷ 93 ∷ []) (ends_with nat_eq word (codes "[]")) refl in
    let meant : meant_label word ≡ word =
    meant_without_pairs word (λ front same. both_ways _ no_pair (ends.1 front same)) ∙ cond-false _ _ _ no_descriptor in
    (λ means. means ∙ ap slashed meant, λ same. same ∙ ap slashed (sym meant))

-- ---- descriptors of classes

last_byte : (one other : List ℕ) (x y : ℕ) → one ++ x ∷ [] ≡ other ++ y ∷ [] → x ≡ y
last_byte one other x y same =
    let long : length one ≡ length other =
    omega (arith, ap length same, length-append one (x ∷ []), length-append other (y ∷ [])) in
    sym (get_or-append_seam one x [] 0) ∙ ap (λ (l : List ℕ). get_or l (length one) 0) same
    ∙ ap (λ (n : ℕ). get_or (other ++ y ∷ []) n 0) long ∙ get_or-append_seam other y [] 0

no_pair_behind : (name : List ℕ) → EndsInNoPair (76 ∷ name ++ 59 ∷ [])
no_pair_behind name front same =
    both_ways (59 == 93) refl
    (eq-eqb 59 93 (last_byte (76 ∷ name) (front ++ 91 ∷ []) 59 93 (same ∙ sym (append_assoc front (91 ∷ []) (93 ∷ [])))))

is_descriptor : (name : List ℕ) → name ≢ [] → is_class_descriptor (76 ∷ name ++ 59 ∷ []) ≡ true
is_descriptor [] some = absurd (some refl)
is_descriptor (byte ∷ name) some =
    let text = 76 ∷ byte ∷ name ++ 59 ∷ [] in
    let ends = ends_is Decides-eqb text (59 ∷ []) (ends_with nat_eq text (codes ";")) refl in
    let long : nat_lt 2 (length text) ≡ true = lt-ltb _ _ (omega (arith, length-append name (59 ∷ []))) in
    let last = ends.1 (76 ∷ byte ∷ name) refl in
    rw (long, last) refl

pub class_descriptor : (name label : List ℕ) → name ≢ [] → Means (codes "L" ++ name ++ codes ";") label ↔ (slashed label ≡ slashed name)
class_descriptor name label some =
    let word = 76 ∷ name ++ 59 ∷ [] in
    let within : take (length word - 2) (name ++ 59 ∷ []) ≡ name =
    let long : length word - 2 ≡ length name = omega (arith, length-append name (59 ∷ [])) in
    ap (λ (n : ℕ). take n (name ++ 59 ∷ [])) long ∙ take-append_seam name (59 ∷ []) in
    let meant : meant_label word ≡ name =
    meant_without_pairs word (no_pair_behind name) ∙ cond-true _ _ _ (is_descriptor name some) ∙ within in
    (λ means. means ∙ ap slashed meant, λ same. same ∙ ap slashed (sym meant))

-- ---- words for arrays of primitive types

-- both words for arrays of the type mean their class
abbrev mean_arrays : Basic → Bool
mean_arrays elem =
    bytes_eq (meant_label (type_word elem ++ codes "[]")) (codes "[" ++ type_letter elem)
    && bytes_eq (meant_label (codes "[" ++ type_letter elem)) (codes "[" ++ type_letter elem)

module _ (word : List ℕ) where
  of_one : (elem : Basic) → mean_arrays elem ≡ true → is_array_word elem word ≡ true → meant_label word ≡ codes "[" ++ type_letter elem
  of_one elem mean is_it =
      let parts = and_parts _ _ mean in
      elim (or_cases _ _ is_it) [
        | inl is ↦
            ap meant_label ((bytes_eq-Decides word (type_word elem ++ codes "[]")).0 is) ∙ (bytes_eq-Decides _ _).0 parts.0
        | inr is ↦
            ap meant_label ((bytes_eq-Decides word (codes "[" ++ type_letter elem)).0 is) ∙ (bytes_eq-Decides _ _).0 parts.1
      ]

  of_found : (elems : List Basic) (elem : Basic) → list_all mean_arrays elems ≡ true
      → find (λ one. is_array_word one word) elems ≡ Some elem → meant_label word ≡ codes "[" ++ type_letter elem
  of_found [] elem mean found = cc
  of_found (one ∷ elems) elem mean found =
      let parts = and_parts (mean_arrays one) (list_all mean_arrays elems) mean in
      by_test (is_array_word one word) refl parts.0 found (of_found elems elem parts.1) where
        by_test : (b : Bool) → is_array_word one word ≡ b → mean_arrays one ≡ true
            → cond b (Some one) (find (λ other. is_array_word other word) elems) ≡ Some elem
            → (find (λ other. is_array_word other word) elems ≡ Some elem → meant_label word ≡ codes "[" ++ type_letter elem)
            → meant_label word ≡ codes "[" ++ type_letter elem
        by_test true e mean_one is later =
            let same : one ≡ elem = cc in
            of_one one mean_one e ∙ ap (λ (b : Basic). codes "[" ++ type_letter b) same
        by_test false e mean_one is later = later is

  pub array_word : (elem : Basic) → arrays_named word ≡ Some elem → meant_label word ≡ codes "[" ++ type_letter elem
  array_word elem found = of_found primitive_types elem refl found
