-- Chosen objects, collected one by one.
use Rattle.std.specs.Prelude.{map}
use Rattle.std.proofs.Common.{◌≡◌, Bool, true, false, cond, List, [], ◌∷◌, ◌++◌, refl, sym, ap, ◌∙◌, append-nil, append_assoc}
use Rattle.std.proofs.lemmas.List.Elements.{filter-append}
use Rattle.std.proofs.lemmas.List.{map-append}
use Rattle.hprof_values.specs.declared.ids.IdSize.{IdSize}
use Rattle.hprof_items.specs.FactValue.{FactValue}
use Rattle.hprof_passes.specs.Passing.{TakesObjects, objects_among}
use Rattle.hprof_histogram.specs.declared.chosen.Chosen.{Chosen}
use Rattle.hprof_histogram.specs.declared.chosen.Choosing.{Choosing}
use Rattle.hprof_histogram.specs.declared.objects.SizedObject.{SizedObject}
use Rattle.hprof_histogram.specs.Chosen.{chosen_among, is_chosen}
use Rattle.hprof_histogram.specs.Choosing.{ChoosesObject}
use Rattle.hprof_histogram.specs.Histogram.{object_kind}
use Rattle.hprof_histogram.specs.Objects.{sized_of}
use Rattle.hprof_histogram.proofs.FactCounts.{same_passing}

-- the chosen ones among these, each with its bytes
abbrev of_these : IdSize → Chosen → List FactValue → List SizedObject
of_these ids chosen facts = map (sized_of ids) (chosen_among chosen facts)

-- one fact and others
of_more : (ids : IdSize) (chosen : Chosen) (object : FactValue) (objects : List FactValue)
    → of_these ids chosen (object ∷ objects) ≡ of_these ids chosen (object ∷ []) ++ of_these ids chosen objects
of_more ids chosen object objects =
    ap (map (sized_of ids)) (filter-append (λ (fact : FactValue). is_chosen chosen (object_kind fact)) (object ∷ []) objects)
    ∙ map-append (sized_of ids) (chosen_among chosen (object ∷ [])) (chosen_among chosen objects)

-- what was collected before, and behind it the chosen ones among the objects
collected_behind : (ids : IdSize) (objects : List FactValue) (old new : Choosing) → TakesObjects ChoosesObject ids old objects new
    → new.objects.items ≡ old.objects.items ++ of_these ids old.chosen objects
collected_behind ids [] old new same = ap (λ (it : Choosing). it.objects.items) (sym same) ∙ sym (append-nil old.objects.items)
collected_behind ids (object ∷ objects) old new takes =
    let first = of_these ids old.chosen (object ∷ []) in
    let rest = of_these ids old.chosen objects in
    collected_behind ids objects takes.0 new takes.2
    ∙ ap (λ (chosen : Chosen). takes.0.objects.items ++ of_these ids chosen objects) takes.1.chosen
    ∙ ap (λ (l : List SizedObject). l ++ rest) takes.1.objects
    ∙ append_assoc old.objects.items first rest
    ∙ ap (λ (l : List SizedObject). old.objects.items ++ l) (sym (of_more ids old.chosen object objects))

-- all chosen ones are collected
pub collected_all : (ids : IdSize) (facts : List FactValue) (old new : Choosing) → old.objects.items ≡ []
    → TakesObjects ChoosesObject ids old (objects_among facts) new → new.objects.items ≡ of_these ids old.chosen facts
collected_all ids facts old new none takes =
    collected_behind ids (objects_among facts) old new takes
    ∙ ap (λ (l : List SizedObject). l ++ of_these ids old.chosen (objects_among facts)) none
    ∙ ap (map (sized_of ids)) (same_passing (is_chosen old.chosen) refl facts)

chosen_first : (chosen : Chosen) (fact : FactValue) → is_chosen chosen (object_kind fact) ≡ true
    → chosen_among chosen (fact ∷ []) ≡ fact ∷ []
chosen_first chosen fact e = ap (λ (b : Bool). cond b (fact ∷ []) []) e

left_out : (chosen : Chosen) (fact : FactValue) → is_chosen chosen (object_kind fact) ≡ false → chosen_among chosen (fact ∷ []) ≡ []
left_out chosen fact e = ap (λ (b : Bool). cond b (fact ∷ []) []) e

-- one object is put behind those that were collected, and another one is not
pub chooses_one : (old new : Choosing) (ids : IdSize) (fact : FactValue) (object : SizedObject) → new.chosen ≡ old.chosen
    → is_chosen old.chosen (object_kind fact) ≡ true → object ≡ sized_of ids fact → new.objects.items ≡ old.objects.items ++ object ∷ []
    → ChoosesObject old ids fact new
chooses_one old new ids fact object same is sized pushed = record {
  chosen = same;
  objects =
      pushed ∙ ap (λ (o : SizedObject). old.objects.items ++ o ∷ []) sized
      ∙ ap (λ (l : List FactValue). old.objects.items ++ map (sized_of ids) l) (sym (chosen_first old.chosen fact is));
}

pub chooses_none : (old new : Choosing) (ids : IdSize) (fact : FactValue) → new ≡ old → is_chosen old.chosen (object_kind fact) ≡ false
    → ChoosesObject old ids fact new
chooses_none old new ids fact same other = record {
  chosen = ap (λ (it : Choosing). it.chosen) same;
  objects =
      ap (λ (it : Choosing). it.objects.items) same ∙ sym (append-nil old.objects.items)
      ∙ ap (λ (l : List FactValue). old.objects.items ++ map (sized_of ids) l) (sym (left_out old.chosen fact other));
}
