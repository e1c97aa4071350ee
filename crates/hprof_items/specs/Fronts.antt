-- The fields in front of what a sub-record holds, as numbers.
use Rattle.std.specs.Prelude.{ℕ, List, [], ◌∷◌}
use Rattle.hprof_items.specs.declared.class_reading.ClassFront.{ClassFront}
use Rattle.hprof_items.specs.declared.object_reading.InstanceFront.{InstanceFront}
use Rattle.hprof_items.specs.declared.object_reading.ObjArrayFront.{ObjArrayFront}
use Rattle.hprof_items.specs.declared.object_reading.PrimArrayFront.{PrimArrayFront}

abbrev pub class_front : ClassFront → List ℕ
class_front front = front.id ∷ front.trace ∷ front.parent ∷ front.loader ∷ front.signers ∷ front.domain ∷ front.reserved1
    ∷ front.reserved2 ∷ front.size ∷ []

abbrev pub instance_front : InstanceFront → List ℕ
instance_front front = front.id ∷ front.trace ∷ front.class ∷ front.len ∷ []

abbrev pub obj_array_front : ObjArrayFront → List ℕ
obj_array_front front = front.id ∷ front.trace ∷ front.count ∷ front.class ∷ []

abbrev pub prim_array_front : PrimArrayFront → List ℕ
prim_array_front front = front.id ∷ front.trace ∷ front.count ∷ front.code ∷ []
