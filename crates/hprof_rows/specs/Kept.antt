-- Instances and arrays, as a heap keeps them: without their identifiers, which are their keys.
use Rattle.std.specs.Prelude.{◌≡◌, ◌≤◌, ℕ, ◌+◌, List, [], ◌∷◌, ◌++◌, length, take, drop}
use Rattle.byteorder.specs.Endian.{big_bytes, big_number}
use Rattle.hprof_values.specs.Lists.{ids_in}
use Rattle.hprof_values.specs.declared.basic.Basic.{Basic}
use Rattle.hprof_values.specs.declared.ids.IdSize.{IdSize}
use Rattle.hprof_values.specs.Ids.{width_of}
use Rattle.hprof_items.specs.FactValue.{FactValue, Instance, ObjArray, PrimArray}
use Rattle.hprof_items.specs.Spelling.{longest_body}
use Rattle.hprof_items.specs.SubRecord.{DumpFits, dump_bytes}
use Rattle.hprof_rows.specs.Order.{order_of}

-- the bytes of a sub-record without the identifier behind its tag
abbrev pub without_id : IdSize → List ℕ → List ℕ
without_id ids bytes = take 1 bytes ++ drop (1 + width_of ids) bytes

-- and with it again
abbrev pub with_id : IdSize → ℕ → List ℕ → List ℕ
with_id ids id kept = take 1 kept ++ (big_bytes (width_of ids) id ++ drop 1 kept)

-- the bytes are what is kept of the fact under the identifier: it is an instance or an array that has this identifier, and a spelling
pub record KeepsObject (ids : IdSize) (id : ℕ) (fact : FactValue) (kept : List ℕ) : Type 0 where
  pub stands : order_of fact ≡ 9 ∷ id ∷ []
  pub fits : DumpFits ids fact
  pub kept_is : kept ≡ without_id ids (dump_bytes ids fact)
  pub short : length (dump_bytes ids fact) ≤ longest_body

-- ---- what is read behind the tag

abbrev pub instance_kept : IdSize → ℕ → List ℕ → FactValue
instance_kept ids id bytes =
    Instance id (big_number 4 bytes) (big_number (width_of ids) (drop 4 bytes)) (drop (8 + width_of ids) bytes)

abbrev pub obj_array_kept : IdSize → ℕ → List ℕ → FactValue
obj_array_kept ids id bytes =
    ObjArray id (big_number 4 bytes) (big_number (width_of ids) (drop 4 (drop 4 bytes))) (ids_in ids (drop (8 + width_of ids) bytes))

abbrev pub prim_array_kept : ℕ → Basic → List ℕ → FactValue
prim_array_kept id elem bytes = PrimArray id (big_number 4 bytes) elem (drop 9 bytes)
