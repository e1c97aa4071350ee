-- The names of static fields and of fields of instances, by the place at which an edge refers.
use Rattle.std.specs.Prelude.{◌≡◌, ℕ, List, Option, Some, None, slice_get}
use Rattle.hprof_values.specs.declared.entry.Entry.{Entry}
use Rattle.hprof_values.specs.Value.{static_of}
use Rattle.hprof_items.specs.FactValue.{FactValue}
use Rattle.hprof_heap.specs.Classes.{ClassValue, HasDump}
use Rattle.hprof_heap.specs.Objects.{HasInstance}
use Rattle.hprof_layouts.specs.declared.slot.Slot.{Slot}
use Rattle.hprof_layouts.specs.Layout.{IsKnown}
use Rattle.hprof_edges.specs.declared.edge.Via.{Via}
use Rattle.hprof_edges.specs.declared.edge.Via.TheVariants as vias

-- the static field at that place of the class has that name: heapDumper.cpp, HPROF_GC_CLASS_DUMP, static field name
pub record IsStaticNamed (facts : List FactValue) (class place name : ℕ) : Type 0 where
  pub dump : ClassValue
  pub has : HasDump facts dump
  pub id : dump.id ≡ class
  pub entry : Entry
  pub there : slice_get dump.statics place ≡ Some entry
  pub name_is : name ≡ (static_of entry).name

-- the field at that place of the layout of the instance's class has that name
pub record IsFieldNamed (facts : List FactValue) (object place name : ℕ) : Type 0 where
  pub class : ℕ
  pub bytes : List ℕ
  pub instance : HasInstance facts object class bytes
  pub slots : List Slot
  pub known : IsKnown facts class slots
  pub slot : Slot
  pub there : slice_get slots place ≡ Some slot
  pub name_is : name ≡ slot.name

-- the name of the part at that place by which the identifier refers; of static fields and fields alone
abbrev pub IsPlaceName : List FactValue → ℕ → Via → ℕ → Option ℕ → Type 0
IsPlaceName facts from vias.Static place (Some name) = IsStaticNamed facts from place name
IsPlaceName facts from vias.Static place None = ⊥
IsPlaceName facts from vias.Field place (Some name) = IsFieldNamed facts from place name
IsPlaceName facts from vias.Field place None = ⊥
IsPlaceName facts from vias.Class place name = name ≡ None
IsPlaceName facts from vias.Parent place name = name ≡ None
IsPlaceName facts from vias.Loader place name = name ≡ None
IsPlaceName facts from vias.Signers place name = name ≡ None
IsPlaceName facts from vias.Domain place name = name ≡ None
IsPlaceName facts from vias.Constant place name = name ≡ None
IsPlaceName facts from vias.Element place name = name ≡ None
