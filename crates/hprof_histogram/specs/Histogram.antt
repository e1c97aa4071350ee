-- How many objects of each kind there are, and how many bytes they have. The facts are a set: a list that has each once.
use Rattle.std.specs.Prelude.{◌≡◌, ◌<◌, ◌*◌, ℕ, List, Option, Some, None, length, sum_by, Contains, Bool, false, ◌==◌}
use Rattle.std.specs.List.{filter}
use Rattle.std.specs.List.Sorted.{IsStrictlySortedBy}
use Rattle.std.specs.Ordering.{nat_cmp, ordering_then}
use Rattle.std.specs.declared.cmp.Ordering.{Ordering}
use Rattle.std.specs.declared.cmp.Ordering.TheVariants.{Less, Greater}
use Rattle.hprof_values.specs.declared.ids.IdSize.{IdSize}
use Rattle.hprof_values.specs.Basic.{code_of_basic}
use Rattle.hprof_values.specs.Ids.{width_of}
use Rattle.hprof_items.specs.FactValue.{FactValue, Instance, ObjArray, PrimArray}
use Rattle.hprof_rows.specs.Facts.{Has}
use Rattle.hprof_histogram.specs.declared.row.Kind.{Kind}
use Rattle.hprof_histogram.specs.declared.row.Kind.TheVariants.{Class, Prim}
use Rattle.hprof_histogram.specs.declared.row.Row.{Row}

-- the kind of an object: its class, or for an array of numbers or truth values their type
abbrev pub object_kind : FactValue → Option Kind
object_kind (Instance id trace class bytes) = Some (Class class)
object_kind (ObjArray id trace class elements) = Some (Class class)
object_kind (PrimArray id trace elem bytes) = Some (Prim elem)
object_kind fact = None

-- how many bytes the fields or the elements of an object have
abbrev pub size_of_object : IdSize → FactValue → ℕ
size_of_object ids (Instance id trace class bytes) = length bytes
size_of_object ids (ObjArray id trace class elements) = length elements * width_of ids
size_of_object ids (PrimArray id trace elem bytes) = length bytes
size_of_object ids fact = 0

abbrev pub same_kind : Kind → Kind → Bool
same_kind (Class class) (Class other) = class == other
same_kind (Prim elem) (Prim other) = code_of_basic elem == code_of_basic other
same_kind kind other = false

-- whether the fact is an object of the kind
abbrev pub is_kind : Kind → Option Kind → Bool
is_kind kind None = false
is_kind kind (Some other) = same_kind kind other

-- the objects of a kind
abbrev pub of_kind : Kind → List FactValue → List FactValue
of_kind kind facts = filter (λ fact. is_kind kind (object_kind fact)) facts

-- classes by their identifiers, and then types by their codes
abbrev pub kind_cmp : Kind → Kind → Ordering
kind_cmp (Class class) (Class other) = nat_cmp class other
kind_cmp (Class class) (Prim elem) = Less
kind_cmp (Prim elem) (Class class) = Greater
kind_cmp (Prim elem) (Prim other) = nat_cmp (code_of_basic elem) (code_of_basic other)

-- the most bytes first, then the most objects, then by kind
abbrev pub row_cmp : Row → Row → Ordering
row_cmp row other =
    ordering_then (nat_cmp other.bytes row.bytes) (ordering_then (nat_cmp other.count row.count) (kind_cmp row.kind other.kind))

-- the row counts the objects of its kind, of which there are some
pub record CountsKind (ids : IdSize) (facts : List FactValue) (row : Row) : Type 0 where
  pub some : 0 < row.count
  pub count : row.count ≡ length (of_kind row.kind facts)
  pub bytes : row.bytes ≡ sum_by (size_of_object ids) (of_kind row.kind facts)

-- one row for each kind of which there are objects, in order
pub record IsHistogram (ids : IdSize) (facts : List FactValue) (rows : List Row) : Type 0 where
  pub ascend : IsStrictlySortedBy row_cmp rows
  pub counts : (row : Row) → Contains rows row → CountsKind ids facts row
  pub all : (fact : FactValue) (kind : Kind) → Has facts fact → object_kind fact ≡ Some kind
      → (row : Row) × Contains rows row × (row.kind ≡ kind)
