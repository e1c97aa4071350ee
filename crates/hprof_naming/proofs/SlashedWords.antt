-- What a word means does not depend on its dots and slashes.
use Rattle.std.proofs.Common.{◌≡◌, ℕ, zero, suc, ◌-◌, Bool, true, false, cond, ◌==◌, ◌&&◌, not, List, [], ◌∷◌, ◌++◌, Option, Some, None}
use Rattle.std.proofs.Common.{length, take, drop, replicate, refl, sym, ap, ◌∙◌, arith, nat_eq, nat_lt, codes}
use Rattle.std.specs.Prelude.{bytes_eq, find}
use Rattle.std.specs.List.{ends_with, list_all, starts_with}
use Rattle.std.specs.Cmp.Lexicographic.{pointwise}
use Rattle.std.proofs.lemmas.List.{drop-map, length-map, map-append, take-map}
use Rattle.std.proofs.lemmas.Bool.{and_parts, cond-false, cond-true, not-true}
use Rattle.std.proofs.lemmas.Bool.Decides.{nat_tests}
use Rattle.hprof_values.specs.declared.basic.Basic.{Basic}
use Rattle.hprof_values.specs.declared.basic.Basic.TheVariants as basics
use Rattle.hprof_naming.specs.TypeWord.{type_word}
use Rattle.hprof_naming.specs.TypeNames.{primitive_types, type_letter, type_named}
use Rattle.hprof_naming.specs.MeantLabel.{Means, are_pairs, bare_name, before_pairs, count_of_pairs, descriptor_of, is_class_descriptor}
use Rattle.hprof_naming.specs.MeantLabel.{label_with, meant_label, slashed, slashed_byte}

-- ---- tests of bytes

-- whether a byte is no dot and no slash
abbrev is_other : ℕ → Bool
is_other byte = not (byte == 46) && not (byte == 47)

test_of_slashed : (byte other : ℕ) → is_other byte ≡ true → (slashed_byte other == byte) ≡ (other == byte)
test_of_slashed byte other is =
    let parts = and_parts _ _ is in
    let no_dot : (byte == 46) ≡ false = not-true _ parts.0 in
    let no_slash : (byte == 47) ≡ false = not-true _ parts.1 in
    grind (arith, nat_tests)

test_with_slashed : (byte other : ℕ) → is_other byte ≡ true → (byte == slashed_byte other) ≡ (byte == other)
test_with_slashed byte other is =
    let parts = and_parts _ _ is in
    let no_dot : (byte == 46) ≡ false = not-true _ parts.0 in
    let no_slash : (byte == 47) ≡ false = not-true _ parts.1 in
    grind (arith, nat_tests)

-- comparing with bytes that are none
compared : (text other : List ℕ) → list_all is_other text ≡ true → pointwise nat_eq text (slashed other) ≡ pointwise nat_eq text other
compared [] [] are = refl
compared [] (x ∷ other) are = refl
compared (byte ∷ text) [] are = refl
compared (byte ∷ text) (x ∷ other) are =
    let parts = and_parts (is_other byte) (list_all is_other text) are in
    let head = test_with_slashed byte x parts.0 in
    let tail = compared text other parts.1 in
    ap (λ (b : Bool). b && pointwise nat_eq text (slashed other)) head ∙ ap (λ (b : Bool). (byte == x) && b) tail

-- ---- pairs

pairs_of_slashed : (bytes : List ℕ) → are_pairs (slashed bytes) ≡ are_pairs bytes
pairs_of_slashed [] = refl
pairs_of_slashed (byte ∷ []) = refl
pairs_of_slashed (one ∷ other ∷ bytes) =
    let first = test_of_slashed 91 one refl in
    let second = test_of_slashed 93 other refl in
    let rest = pairs_of_slashed bytes in
    rw (first, second, rest) refl

before_slashed : (word : List ℕ) → before_pairs (slashed word) ≡ slashed (before_pairs word)
before_slashed [] = refl
before_slashed (byte ∷ bytes) =
    by_test (are_pairs (byte ∷ bytes)) refl (before_slashed bytes) where
      by_test : (b : Bool) → are_pairs (byte ∷ bytes) ≡ b → before_pairs (slashed bytes) ≡ slashed (before_pairs bytes)
          → before_pairs (slashed (byte ∷ bytes)) ≡ slashed (cond b [] (byte ∷ before_pairs bytes))
      by_test true e later = cond-true _ _ _ (pairs_of_slashed (byte ∷ bytes) ∙ e)
      by_test false e later = cond-false _ _ _ (pairs_of_slashed (byte ∷ bytes) ∙ e) ∙ ap (λ (l : List ℕ). slashed_byte byte ∷ l) later

count_of_slashed : (word : List ℕ) → count_of_pairs (slashed word) ≡ count_of_pairs word
count_of_slashed word =
    let whole : length (slashed word) ≡ length word = length-map word slashed_byte in
    let before : length (before_pairs (slashed word)) ≡ length (before_pairs word) =
    ap length (before_slashed word) ∙ length-map (before_pairs word) slashed_byte in
    rw (whole, before) refl

-- ---- what stands before them

-- types whose words have no dots and no slashes, by their words
types_of_slashed : (text : List ℕ) (elems : List Basic) → list_all (λ elem. list_all is_other (type_word elem)) elems ≡ true
    → find (λ elem. bytes_eq (type_word elem) (slashed text)) elems ≡ find (λ elem. bytes_eq (type_word elem) text) elems
types_of_slashed text [] are = refl
types_of_slashed text (elem ∷ elems) are =
    let parts = and_parts (list_all is_other (type_word elem)) (list_all (λ one. list_all is_other (type_word one)) elems) are in
    let later = types_of_slashed text elems parts.1 in
    ap (λ (b : Bool). cond b (Some elem) (find (λ one. bytes_eq (type_word one) (slashed text)) elems))
    (compared (type_word elem) text parts.0)
    ∙ ap (λ (o : Option Basic). cond (bytes_eq (type_word elem) text) (Some elem) o) later

type_of_slashed : (text : List ℕ) → type_named (slashed text) ≡ type_named text
type_of_slashed text = types_of_slashed text primitive_types refl

all_alike : (a b c x y z : Bool) → a ≡ x → b ≡ y → c ≡ z → (a && b && c) ≡ (x && y && z)
all_alike a b c x y z one two three = cc

descriptor_of_slashed : (text : List ℕ) → is_class_descriptor (slashed text) ≡ is_class_descriptor text
descriptor_of_slashed text =
    let long : length (slashed text) ≡ length text = length-map text slashed_byte in
    all_alike _ _ _ (nat_lt 2 (length text)) (starts_with nat_eq text (codes "L")) (ends_with nat_eq text (codes ";"))
    (ap (λ (n : ℕ). nat_lt 2 n) long)
    (ap (λ (l : List ℕ). pointwise nat_eq (codes "L") l) (take-map slashed_byte 1 text) ∙ compared (codes "L") (take 1 text) refl)
    (ap (λ (n : ℕ). pointwise nat_eq (codes ";") (drop (n - 1) (slashed text))) long
    ∙ ap (λ (l : List ℕ). pointwise nat_eq (codes ";") l) (drop-map slashed_byte (length text - 1) text)
    ∙ compared (codes ";") (drop (length text - 1) text) refl)

bare_slashed : (text : List ℕ) → bare_name (slashed text) ≡ slashed (bare_name text)
bare_slashed text = by_test (is_class_descriptor text) refl where
  within : take (length (slashed text) - 2) (drop 1 (slashed text)) ≡ slashed (take (length text - 2) (drop 1 text))
  within =
      ap (λ (n : ℕ). take (n - 2) (drop 1 (slashed text))) (length-map text slashed_byte)
      ∙ ap (λ (l : List ℕ). take (length text - 2) l) (drop-map slashed_byte 1 text)
      ∙ take-map slashed_byte (length text - 2) (drop 1 text)

  by_test : (b : Bool) → is_class_descriptor text ≡ b
      → bare_name (slashed text) ≡ slashed (cond b (take (length text - 2) (drop 1 text)) text)
  by_test true e = cond-true _ _ _ (descriptor_of_slashed text ∙ e) ∙ within
  by_test false e = cond-false _ _ _ (descriptor_of_slashed text ∙ e)

-- ---- labels

slashed_letter : (elem : Basic) → slashed (type_letter elem) ≡ type_letter elem
slashed_letter basics.Array = refl
slashed_letter basics.Object = refl
slashed_letter basics.Boolean = refl
slashed_letter basics.Char = refl
slashed_letter basics.Float = refl
slashed_letter basics.Double = refl
slashed_letter basics.Byte = refl
slashed_letter basics.Short = refl
slashed_letter basics.Int = refl
slashed_letter basics.Long = refl

slashed_descriptor : (elem : Option Basic) (name : List ℕ) → descriptor_of elem (slashed name) ≡ slashed (descriptor_of elem name)
slashed_descriptor (Some elem) name = sym (slashed_letter elem)
slashed_descriptor None name = ap (λ (l : List ℕ). 76 ∷ l) (sym (map-append slashed_byte name (59 ∷ [])))

slashed_brackets : (count : ℕ) → slashed (replicate count 91) ≡ replicate count 91
slashed_brackets zero = refl
slashed_brackets (suc count) = ap (λ (l : List ℕ). 91 ∷ l) (slashed_brackets count)

slashed_label : (dimensions : ℕ) (elem : Option Basic) (name : List ℕ)
    → label_with dimensions elem (slashed name) ≡ slashed (label_with dimensions elem name)
slashed_label dimensions elem name = by_test (dimensions == 0) where
  by_test : (b : Bool) → cond b (slashed name) (replicate dimensions 91 ++ descriptor_of elem (slashed name))
      ≡ slashed (cond b name (replicate dimensions 91 ++ descriptor_of elem name))
  by_test true = refl
  by_test false =
      ap (λ (l : List ℕ). l ++ descriptor_of elem (slashed name)) (sym (slashed_brackets dimensions))
      ∙ ap (λ (l : List ℕ). slashed (replicate dimensions 91) ++ l) (slashed_descriptor elem name)
      ∙ sym (map-append slashed_byte (replicate dimensions 91) (descriptor_of elem name))

-- the label that a word with slashes means has slashes, and is otherwise that of the word
pub meant_of_slashed : (word : List ℕ) → meant_label (slashed word) ≡ slashed (meant_label word)
meant_of_slashed word =
    let count : count_of_pairs (slashed word) ≡ count_of_pairs word = count_of_slashed word in
    let before : before_pairs (slashed word) ≡ slashed (before_pairs word) = before_slashed word in
    let text = before_pairs word in
    ap (λ (n : ℕ). label_with n (type_named (before_pairs (slashed word))) (bare_name (before_pairs (slashed word)))) count
    ∙ ap (λ (l : List ℕ). label_with (count_of_pairs word) (type_named l) (bare_name l)) before
    ∙ ap (λ (o : Option Basic). label_with (count_of_pairs word) o (bare_name (slashed text))) (type_of_slashed text)
    ∙ ap (λ (l : List ℕ). label_with (count_of_pairs word) (type_named text) l) (bare_slashed text)
    ∙ slashed_label (count_of_pairs word) (type_named text) (bare_name text)

-- words that are the same with slashes mean the same labels
pub same_words : (one other label : List ℕ) → slashed one ≡ slashed other → Means one label → Means other label
same_words one other label same means =
    means ∙ sym (meant_of_slashed one) ∙ ap meant_label same ∙ meant_of_slashed other
