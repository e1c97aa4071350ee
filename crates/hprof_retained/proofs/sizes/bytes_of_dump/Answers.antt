use Rattle.std.proofs.Common.{◌<◌, ◌*◌, ◌^◌, ℕ, List, length, subst, arith}
use Rattle.hprof_values.specs.declared.ids.IdSize.{IdSize}
use Rattle.hprof_values.specs.declared.ids.IdSize.TheVariants.{Four, Eight}
use Rattle.hprof_values.specs.Ids.{width_of}
use Rattle.hprof_values.specs.Lists.{ids_in}
use Rattle.hprof_values.proofs.IdLists.{length-ids}
use Rattle.hprof_heap.specs.ObjectDump.{ElementsHave}
use Rattle.hprof_retained.proofs.sizes.bytes_of_dump.Goals as goal

-- identifiers have no more bytes than they are read from
few_bytes : (ids : IdSize) (bytes : List ℕ) → length bytes < 2 ^ 64 → length (ids_in ids bytes) * width_of ids < 2 ^ 64
few_bytes Four bytes few = let e = length-ids Four bytes in omega (arith, e, few)
few_bytes Eight bytes few = let e = length-ids Eight bytes in omega (arith, e, few)

pub overflow_mul-result : goal.overflow_mul-result
overflow_mul-result c =
    let elements = c.in-ObjArray.elements in
    let same = subst (ElementsHave c.args.ids) c.in-ObjArray.is c.requires in
    let few = subst (λ (ids : IdSize). length (ids_in elements.ids elements.bytes.now) * width_of ids < 2 ^ 64) same
    (few_bytes elements.ids elements.bytes.now elements.few) in
    rw (c.len.ensures, c.width.ensures) (omega (arith, few))
