-- Labels with numbers; no public contract speaks of them.
use Rattle.std.specs.Prelude.{◌≡◌, ◌<◌, ℕ, List, [], Some, String, length, map, string_bytes}
use Rattle.std.specs.BTreeMap.{get_by_text}
use Rattle.std.proofs.Common.{get_or}
use Rattle.hprof_by_label.specs.declared.texts.Texts.{Texts}

-- the label with a number
abbrev pub text_in : {A : Type 0} → List (String A) → ℕ → List ℕ
text_in texts number = get_or (map string_bytes texts) number []

-- the number has that label
abbrev pub IsTextIn : {A : Type 0} → List (String A) → ℕ → List ℕ → Type 0
IsTextIn texts number text = (number < length texts) × (text_in texts number ≡ text)

-- each number keeps its label
abbrev pub StaysIn : {A : Type 0} → List (String A) → List (String A) → Type 0
StaysIn old new = (number : ℕ) (text : List ℕ) → IsTextIn old number text → IsTextIn new number text

-- no two numbers have one label
abbrev pub AreApart : {A : Type 0} → List (String A) → Type 0
AreApart texts = (one other : ℕ) → one < length texts → other < length texts → text_in texts one ≡ text_in texts other → one ≡ other

-- each label is found at its number
pub record AreNumbered (texts : Texts) : Type 0 where
  pub found : (number : ℕ) → number < length texts.texts.items → get_by_text texts.numbers (text_in texts.texts.items number) ≡ Some number
  pub only : (text : List ℕ) (number : ℕ) → get_by_text texts.numbers text ≡ Some number → IsTextIn texts.texts.items number text
