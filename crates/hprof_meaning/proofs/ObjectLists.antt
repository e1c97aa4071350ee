-- The objects of several classes among facts.
use Rattle.std.specs.Prelude.{map}
use Rattle.std.proofs.Common.{◌≡◌, ℕ, Bool, true, false, cond, List, ◌∷◌, ap}
use Rattle.hprof_values.specs.declared.ids.IdSize.{IdSize}
use Rattle.hprof_items.specs.FactValue.{FactValue}
use Rattle.hprof_histogram.specs.declared.objects.SizedObject.{SizedObject}
use Rattle.hprof_histogram.specs.Histogram.{object_kind}
use Rattle.hprof_histogram.specs.Objects.{sized_of}
use Rattle.hprof_meaning.specs.ObjectsOf.{is_kind_of, of_classes}

-- those of the classes among these, each with its bytes
abbrev pub of_these : IdSize → List ℕ → List FactValue → List SizedObject
of_these ids classes facts = map (sized_of ids) (of_classes classes facts)

pub kept_first : (classes : List ℕ) (fact : FactValue) (facts : List FactValue) → is_kind_of classes (object_kind fact) ≡ true
    → of_classes classes (fact ∷ facts) ≡ fact ∷ of_classes classes facts
kept_first classes fact facts e = ap (λ (b : Bool). cond b (fact ∷ of_classes classes facts) (of_classes classes facts)) e

pub left_out : (classes : List ℕ) (fact : FactValue) (facts : List FactValue) → is_kind_of classes (object_kind fact) ≡ false
    → of_classes classes (fact ∷ facts) ≡ of_classes classes facts
left_out classes fact facts e = ap (λ (b : Bool). cond b (fact ∷ of_classes classes facts) (of_classes classes facts)) e
