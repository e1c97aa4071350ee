-- What facts have of an identifier: there is one answer, and a look-up gives it.
use Rattle.std.proofs.Common.{◌≡◌, ℕ, List, Option, Some, None, refl, sym, ap, ◌∙◌}
use Rattle.std.specs.Option.{option_map}
use Rattle.hprof_values.specs.declared.ids.IdSize.{IdSize}
use Rattle.hprof_items.specs.FactValue.{FactValue}
use Rattle.hprof_rows.specs.declared.key.Key.TheVariants as keys
use Rattle.hprof_rows.specs.Conflict.{IsConsistent}
use Rattle.hprof_heap.specs.declared.class_dump.ClassDump.{ClassDump}
use Rattle.hprof_heap.specs.declared.object_dump.ObjectDump.{ObjectDump}
use Rattle.hprof_heap.specs.ClassDump.{AnswersClass, class_value}
use Rattle.hprof_heap.specs.Classes.{ClassValue}
use Rattle.hprof_heap.specs.Found.{IsClassFound, IsObjectFound}
use Rattle.hprof_heap.specs.ObjectDump.{AnswersObject, fact_of_object}
use Rattle.hprof_heap.proofs.ClassFacts as classes
use Rattle.hprof_heap.proofs.ObjectFacts as objects

-- ---- there is an answer

pub class_exists : (facts : List FactValue) (id : ℕ) → (class : Option ClassValue) × IsClassFound facts id class
class_exists facts id = elim (classes.look_up facts id) [
  | classes.Found dump has same ↦ (Some dump, (has, same))
  | classes.NotFound none ↦ (None, none)
]

pub object_exists : (facts : List FactValue) (id : ℕ) → (object : Option FactValue) × IsObjectFound facts id object
object_exists facts id = elim (objects.look_up facts id) [
  | objects.Found fact has is ↦ (Some fact, (has, is))
  | objects.NotFound none ↦ (None, none)
]

-- ---- and one at most

module _ (facts : List FactValue) (agree : IsConsistent facts) (id : ℕ) where
  pub class_once : (one other : Option ClassValue) → IsClassFound facts id one → IsClassFound facts id other → one ≡ other
  class_once (Some one) (Some other) is is_too =
      ap Some (classes.one_dump_each facts agree one other is.0 is_too.0 (is.1 ∙ sym is_too.1))
  class_once (Some one) None is none = absurd (none one is.0 is.1)
  class_once None (Some other) none is = absurd (none other is.0 is.1)
  class_once None None none none_too = refl

  pub object_once : (one other : Option FactValue) → IsObjectFound facts id one → IsObjectFound facts id other → one ≡ other
  object_once (Some one) (Some other) is is_too = ap Some (agree (keys.Object id) one other is.0 is_too.0 is.1 is_too.1)
  object_once (Some one) None is none = absurd (none one is.0 is.1)
  object_once None (Some other) none is = absurd (none other is.0 is.1)
  object_once None None none none_too = refl

-- ---- a look-up gives it

pub class_is_found : (ids : IdSize) (facts : List FactValue) (id : ℕ) (row : Option ClassDump) → AnswersClass ids facts id row
    → IsClassFound facts id (option_map class_value row)
class_is_found ids facts id (Some row) is = (is.found, is.id)
class_is_found ids facts id None is = is.none

pub object_is_found : (ids : IdSize) (facts : List FactValue) (id : ℕ) (row : Option ObjectDump) → AnswersObject ids facts id row
    → IsObjectFound facts id (option_map fact_of_object row)
object_is_found ids facts id (Some row) is = (is.found, is.id)
object_is_found ids facts id None is = is.none
