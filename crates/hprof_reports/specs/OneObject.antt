-- The report `object` is one text.
use Rattle.std.proofs.Common.{◌≡◌, ℕ, List, Option, Some, None, refl, sym, ap, ◌∙◌}
use Rattle.hprof_values.specs.declared.ids.IdSize.{IdSize}
use Rattle.hprof_items.specs.FactValue.{FactValue}
use Rattle.hprof_rows.specs.declared.key.Key.TheVariants as keys
use Rattle.hprof_rows.specs.Conflict.{IsConsistent}
use Rattle.hprof_heap.specs.Classes.{ClassValue}
use Rattle.hprof_heap.proofs.ClassFacts.{one_dump_each}
use Rattle.hprof_heap.specs.Found.{IsClassFound, IsObjectFound}
use Rattle.hprof_layouts.specs.Fields.{FieldsValue}
use Rattle.hprof_layouts.proofs.FieldAnswers.{fields_once}
use Rattle.hprof_naming.specs.Naming.{Naming}
use Rattle.hprof_naming.proofs.Namings.{one_naming}
use Rattle.hprof_reports.specs.ObjectText.{found_text, IsObjectText}

module _ (facts : List FactValue) (agree : IsConsistent facts) (id : ℕ) where
  -- one class dump is found, or none
  one_class : (one other : Option ClassValue) → IsClassFound facts id one → IsClassFound facts id other → one ≡ other
  one_class (Some one) (Some other) is is_too = ap Some (one_dump_each facts agree one other is.0 is_too.0 (is.1 ∙ sym is_too.1))
  one_class (Some one) None is none = absurd (none one is.0 is.1)
  one_class None (Some other) none is = absurd (none other is.0 is.1)
  one_class None None none none_too = refl

  -- and one object dump
  one_object_found : (one other : Option FactValue) → IsObjectFound facts id one → IsObjectFound facts id other → one ≡ other
  one_object_found (Some one) (Some other) is is_too = ap Some (agree (keys.Object id) one other is.0 is_too.0 is.1 is_too.1)
  one_object_found (Some one) None is none = absurd (none one is.0 is.1)
  one_object_found None (Some other) none is = absurd (none other is.0 is.1)
  one_object_found None None none none_too = refl

pub one_object : (ids : IdSize) (facts : List FactValue) (id : ℕ) (one other : List ℕ) → IsObjectText ids facts id one
    → IsObjectText ids facts id other → one ≡ other
one_object ids facts id one other is is_too =
    let agree = is.agree in
    let naming = one_naming facts agree is.naming is_too.naming is.is_naming is_too.is_naming in
    let fields = fields_once ids facts id is.fields is_too.fields agree is.are_fields is_too.are_fields in
    let class = one_class facts agree id is.class is_too.class is.class_found is_too.class_found in
    let object = one_object_found facts agree id is.object is_too.object is.object_found is_too.object_found in
    is.is ∙ ap (λ (n : Naming). found_text n ids id is.fields is.class is.object) naming
    ∙ ap (λ (f : FieldsValue). found_text is_too.naming ids id f is.class is.object) fields
    ∙ ap (λ (c : Option ClassValue). found_text is_too.naming ids id is_too.fields c is.object) class
    ∙ ap (λ (o : Option FactValue). found_text is_too.naming ids id is_too.fields is_too.class o) object ∙ sym is_too.is
