-- An object dump as it lies in a heap.
use Rattle.std.specs.Prelude.{◌≡◌, ℕ, List, Option, IfNone, IfSome, ⊤}
use Rattle.hprof_values.specs.declared.ids.IdSize.{IdSize}
use Rattle.hprof_values.specs.Lists.{identifiers_of, identifiers_size}
use Rattle.hprof_items.specs.FactValue.{FactValue, Instance, ObjArray, PrimArray}
use Rattle.hprof_rows.specs.Facts.{Has}
use Rattle.hprof_heap.specs.declared.object_dump.ObjectDump.{ObjectDump}
use Rattle.hprof_heap.specs.declared.object_dump.ObjectDump.TheVariants as dumps
use Rattle.hprof_heap.specs.Objects.{IsObject, HasNoObject}

-- the fact that it is
abbrev pub fact_of_object : ObjectDump → FactValue
fact_of_object (dumps.Instance id trace class bytes) = Instance id trace class bytes.now
fact_of_object (dumps.ObjArray id trace class elements) = ObjArray id trace class (identifiers_of elements)
fact_of_object (dumps.PrimArray id trace elem bytes) = PrimArray id trace elem bytes.now

-- its elements are identifiers of that size
abbrev pub ElementsHave : IdSize → ObjectDump → Type 0
ElementsHave ids (dumps.ObjArray id trace class elements) = identifiers_size elements ≡ ids
ElementsHave ids dump = ⊤

-- what is found of an object among facts whose identifiers have that size: its dump, or None if it has none
pub record AnswersObject (ids : IdSize) (facts : List FactValue) (object : ℕ) (answer : Option ObjectDump) : Type 0 where
  pub found : IfSome answer (λ dump. Has facts (fact_of_object dump))
  pub id : IfSome answer (λ dump. IsObject object (fact_of_object dump))
  pub lists : IfSome answer (ElementsHave ids)
  -- it is the only one
  pub only : IfSome answer (λ dump. (fact : FactValue) → Has facts fact → IsObject object fact → fact_of_object dump ≡ fact)
  pub none : IfNone answer (HasNoObject facts object)
