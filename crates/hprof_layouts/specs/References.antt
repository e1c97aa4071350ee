-- What an instance refers to.
use Rattle.std.specs.Prelude.{◌≡◌, ◌↔◌, ◌==◌, ℕ, Bool, true, List, map, filter, Some, slice_get, Contains}
use Rattle.std.specs.List.Sorted.{IsStrictlyIncreasing}
use Rattle.hprof_values.specs.declared.ids.IdSize.{IdSize}
use Rattle.hprof_items.specs.FactValue.{FactValue}
use Rattle.hprof_layouts.specs.declared.field_value.FieldValue.{FieldValue}
use Rattle.hprof_layouts.specs.Fields.{HasValues}
use Rattle.hprof_layouts.specs.declared.reference.Reference.{Reference}
use Rattle.hprof_layouts.specs.declared.reference.Wanted.{Wanted}
use Rattle.hprof_layouts.specs.declared.reference.Wanted.TheVariants as wanted
use Rattle.hprof_layouts.specs.Refers.{refers}

-- an instance of the class that has these bytes has a field at that place that refers to that
pub record HasReference (ids : IdSize) (facts : List FactValue) (class : ℕ) (bytes : List ℕ) (reference : Reference) : Type 0 where
  pub values : List FieldValue
  pub values_are : HasValues ids facts class bytes values
  pub value : FieldValue
  pub there : slice_get values reference.place ≡ Some value
  pub refers_is : refers value.basic ≡ true
  pub to_is : value.bits ≡ reference.to

-- these are what an instance of the class that has these bytes refers to, in the order of its fields
pub record AreReferences (ids : IdSize) (facts : List FactValue) (class : ℕ) (bytes : List ℕ) (references : List Reference) : Type 0 where
  pub each : (reference : Reference) → Contains references reference ↔ HasReference ids facts class bytes reference
  pub ascending : IsStrictlyIncreasing (map (λ reference. reference.place) references)

-- ---- what is wanted

-- whether a reference to that is
abbrev pub is_wanted : Wanted → ℕ → Bool
is_wanted wanted.All to = true
is_wanted (wanted.To id) to = to == id

-- those that are
abbrev pub wanted_of : Wanted → List Reference → List Reference
wanted_of which references = filter (λ reference. is_wanted which reference.to) references

-- these are what an instance of the class that has these bytes refers to, in the order of its fields, as far as it is wanted
pub record AreWanted (ids : IdSize) (facts : List FactValue) (class : ℕ) (bytes : List ℕ) (which : Wanted) (references : List Reference)
    : Type 0 where
  pub all : List Reference
  pub all_are : AreReferences ids facts class bytes all
  pub wanted_are : references ≡ wanted_of which all
