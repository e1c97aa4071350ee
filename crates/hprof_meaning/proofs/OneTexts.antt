-- The texts that tell classes and their objects are there, and each is the only one.
use Rattle.std.proofs.Common.{◌≡◌, ℕ, List, refl, sym, ap, ◌∙◌}
use Rattle.hprof_values.specs.declared.ids.IdSize.{IdSize}
use Rattle.hprof_items.specs.FactValue.{FactValue}
use Rattle.hprof_rows.specs.Conflict.{IsConsistent}
use Rattle.hprof_lines.specs.ObjectsText.{objects_text}
use Rattle.hprof_describe.specs.Findings.{Findings}
use Rattle.hprof_describe.proofs.OneFinding.{findings_exist, one_findings}
use Rattle.hprof_meaning.specs.NamedText.{IsNamedText, named_text}
use Rattle.hprof_meaning.specs.ObjectsOfText.{IsObjectsOfText}
use Rattle.hprof_meaning.proofs.ObjectsInOrder.{one_list, some_list}

pub some_objects_text : (ids : IdSize) (facts : List FactValue) (classes : List ℕ)
    → (text : List ℕ) × IsObjectsOfText ids facts classes text
some_objects_text ids facts classes =
    let objects = some_list ids facts classes in
    (objects_text objects.0, record { objects = objects.0; are_objects = objects.1; is = refl })

pub one_objects_text : (ids : IdSize) (facts : List FactValue) (classes one other : List ℕ) → IsObjectsOfText ids facts classes one
    → IsObjectsOfText ids facts classes other → one ≡ other
one_objects_text ids facts classes one other is too =
    is.is ∙ ap objects_text (one_list ids facts classes is.objects too.objects is.are_objects too.are_objects) ∙ sym too.is

pub some_named_text : (ids : IdSize) (facts : List FactValue) (classes : List ℕ) → IsConsistent facts
    → (text : List ℕ) × IsNamedText ids facts classes text
some_named_text ids facts classes agree =
    let found = findings_exist ids facts agree in
    (named_text found.0 classes, record { agree = agree; found = found.0; are_found = found.1; is = refl })

pub one_named_text : (ids : IdSize) (facts : List FactValue) (classes one other : List ℕ) → IsNamedText ids facts classes one
    → IsNamedText ids facts classes other → one ≡ other
one_named_text ids facts classes one other is too =
    is.is
    ∙ ap (λ (found : Findings). named_text found classes) (one_findings ids facts is.agree is.found too.found is.are_found too.are_found)
    ∙ sym too.is
