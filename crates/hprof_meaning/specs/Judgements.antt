-- Whether labels are meant, as tests.
use Rattle.std.specs.Prelude.{◌≡◌, ℕ, Bool, List, Option, Some, bytes_eq}
use Rattle.std.specs.List.{filter}
use Rattle.std.specs.Ordering.{nat_cmp}
use Rattle.std.specs.BTreeMap.{BTreeMap, get}
use Rattle.hprof_items.specs.FactValue.{FactValue}
use Rattle.hprof_naming.specs.MeantLabel.{meant_label, slashed}
use Rattle.hprof_meaning.specs.BareLabels.{IsBareLabel, IsBareLabelOf}

-- whether the word means the label
abbrev pub is_meant : (word label : List ℕ) → Bool
is_meant word label = bytes_eq (slashed label) (slashed (meant_label word))

-- those of the classes whose label is meant
abbrev pub meant_of : List ℕ → (ℕ → List ℕ) → List ℕ → List ℕ
meant_of word label classes = filter (λ class. is_meant word (label class)) classes

-- so it is with the label of a name
abbrev pub IsJudged : List FactValue → List ℕ → Option ℕ → Bool → Type 0
IsJudged facts word name is = (label : List ℕ) → IsBareLabelOf facts name label → is ≡ is_meant word label

-- so it is with the label of a class
abbrev pub IsClassJudged : List FactValue → List ℕ → ℕ → Bool → Type 0
IsClassJudged facts word class is = (label : List ℕ) → IsBareLabel facts class label → is ≡ is_meant word label

-- what is kept of each name is so
abbrev pub AreJudged : List FactValue → List ℕ → BTreeMap ℕ Bool → Type 0
AreJudged facts word judged = (name : ℕ) (is : Bool) → get nat_cmp judged name ≡ Some is → IsJudged facts word (Some name) is
