-- What was counted.
use Rattle.std.specs.Prelude.{◌+◌, ◌≡◌, ℕ, List, [], ◌∷◌, Bool, cond, nat_lt, length, sum_by, unwrap_or, map, slice_index_or}
use Rattle.hprof_tables.specs.declared.hinted_map.HintedMap.{HintedMap}
use Rattle.hprof_tables.specs.HintedMap.{value_in}
use Rattle.hprof_values.specs.declared.ids.IdSize.{IdSize}
use Rattle.hprof_values.specs.declared.basic.Basic.{Basic}
use Rattle.hprof_values.specs.declared.basic.Basic.TheVariants as basics
use Rattle.hprof_values.specs.Basic.{code_of_basic}
use Rattle.hprof_items.specs.FactValue.{FactValue}
use Rattle.hprof_histogram.specs.declared.row.Kind.{Kind}
use Rattle.hprof_histogram.specs.declared.row.Kind.TheVariants.{Class, Prim}
use Rattle.hprof_histogram.specs.declared.row.Row.{Row}
use Rattle.hprof_histogram.specs.declared.counted.Counted.{Counted}
use Rattle.hprof_histogram.specs.declared.counted_kinds.CountedKinds.{CountedKinds}
use Rattle.hprof_histogram.specs.Histogram.{is_kind, object_kind, of_kind, size_of_object}

-- no objects
abbrev pub nothing : Counted
nothing = record { count = 0; bytes = 0 }

-- these objects and those
abbrev pub both : Counted → Counted → Counted
both these those = record { count = these.count + those.count; bytes = these.bytes + those.bytes }

-- one object of that size
abbrev pub one_of : ℕ → Counted
one_of size = record { count = 1; bytes = size }

-- the objects of a kind among facts
abbrev pub counted_of : IdSize → Kind → List FactValue → Counted
counted_of ids kind facts =
    record { count = length (of_kind kind facts); bytes = sum_by (size_of_object ids) (of_kind kind facts) }

-- what is kept of a class
abbrev pub kept_of : HintedMap Counted → ℕ → Counted
kept_of classes class = unwrap_or (value_in classes class) nothing

-- what is kept of a type
abbrev pub type_of : List Counted → Basic → Counted
type_of types elem = slice_index_or types (code_of_basic elem) nothing

-- what a tally has of a kind
abbrev pub counted_in : CountedKinds → Kind → Counted
counted_in tally (Class class) = kept_of tally.classes class
counted_in tally (Prim elem) = type_of tally.types elem

-- an object is counted among those of its kind
abbrev pub CountsObject : CountedKinds → IdSize → FactValue → CountedKinds → Type 0
CountsObject old ids object new = (kind : Kind) → counted_in new kind
    ≡ cond (is_kind kind (object_kind object)) (both (counted_in old kind) (one_of (size_of_object ids object))) (counted_in old kind)

-- the tally has the objects among these facts, of each kind
abbrev pub IsTally : IdSize → List FactValue → CountedKinds → Type 0
IsTally ids facts tally = (kind : Kind) → counted_in tally kind ≡ counted_of ids kind facts

-- the types that elements of arrays may have, by their codes
abbrev pub element_types : List Basic
element_types = basics.Boolean ∷ basics.Char ∷ basics.Float ∷ basics.Double ∷ basics.Byte ∷ basics.Short ∷ basics.Int ∷ basics.Long ∷ []

abbrev pub row_of : Kind → Counted → Row
row_of kind counted = record { kind = kind; count = counted.count; bytes = counted.bytes }

-- whether there are objects
abbrev pub has_objects : Row → Bool
has_objects row = nat_lt 0 row.count

-- a row for each class of a map, and for each type
abbrev pub class_rows : List (ℕ × Counted) → List Row
class_rows entries = map (λ entry. row_of (Class entry.0) entry.1) entries

abbrev pub type_rows : List Counted → List Basic → List Row
type_rows types elems = map (λ elem. row_of (Prim elem) (type_of types elem)) elems
