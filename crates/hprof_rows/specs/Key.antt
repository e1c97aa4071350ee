-- Keys: what two facts may not both be about. A key has one content, which is the form of its fact and every field
-- but the key itself.
use Rattle.std.specs.Prelude.{◌≡◌, ◌==◌, ◌||◌, ◌&&◌, ℕ, Bool, false, nat_lt, nat_le, Option, Some, None, if◌then◌else◌}
use Rattle.hprof_items.specs.FactValue.{FactValue, Name, Load, Unload, Frame, Trace, Start, End, Rooted, Class, Instance, ObjArray}
use Rattle.hprof_items.specs.FactValue.{PrimArray}
use Rattle.hprof_rows.specs.declared.key.Key.{Key}
use Rattle.hprof_rows.specs.declared.key.Key.TheVariants as keys

-- the key of a fact; a fact that is its own key has none
abbrev pub key_of : FactValue → Option Key
key_of (Name id text) = Some (keys.Name id)
key_of (Load serial class trace name) = Some (keys.Load serial)
key_of (Unload serial) = None
key_of (Frame id method signature source class_serial line) = Some (keys.Frame id)
key_of (Trace serial thread frames) = Some (keys.Trace serial)
key_of (Start thread object trace name group parent_group) = Some (keys.Thread thread)
key_of (End thread) = None
key_of (Rooted root) = None
key_of (Class id trace parent loader signers domain reserved1 reserved2 size constants statics fields) = Some (keys.Class id)
key_of (Instance id trace class bytes) = Some (keys.Object id)
key_of (ObjArray id trace class elements) = Some (keys.Object id)
key_of (PrimArray id trace elem bytes) = Some (keys.Object id)

-- the two facts have a key, and one
pub record HaveOneKey (one other : FactValue) : Type 0 where
  pub key : Key
  pub key_of_one : key_of one ≡ Some key
  pub key_of_other : key_of other ≡ Some key

-- keys are ordered as they are listed here, and then by number
abbrev pub rank_of : Key → ℕ
rank_of (keys.Name id) = 0
rank_of (keys.Load serial) = 1
rank_of (keys.Frame id) = 2
rank_of (keys.Trace serial) = 3
rank_of (keys.Thread serial) = 4
rank_of (keys.Class id) = 5
rank_of (keys.Object id) = 6

abbrev pub number_of : Key → ℕ
number_of (keys.Name id) = id
number_of (keys.Load serial) = serial
number_of (keys.Frame id) = id
number_of (keys.Trace serial) = serial
number_of (keys.Thread serial) = serial
number_of (keys.Class id) = id
number_of (keys.Object id) = id

-- the first key is the second, or comes before it
abbrev pub key_le : Key → Key → Bool
key_le key other = nat_lt (rank_of key) (rank_of other) || ((rank_of key == rank_of other) && nat_le (number_of key) (number_of other))

abbrev pub lesser_key : Key → Key → Key
lesser_key key other = if key_le key other then key else other

-- whether that is the key
abbrev pub is_key : Key → Option Key → Bool
is_key key None = false
is_key key (Some other) = (rank_of key == rank_of other) && (number_of key == number_of other)

-- whether the fact has that key
abbrev pub has_key : Key → FactValue → Bool
has_key key fact = is_key key (key_of fact)
