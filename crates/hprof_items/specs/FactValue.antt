-- What a record or a sub-record states, as a value over numbers and lists.
use Rattle.std.specs.Prelude.{ℕ, ℤ, List, ◌≡◌, ⊤}
use Rattle.hprof_values.specs.declared.basic.Basic.{Basic}
use Rattle.hprof_values.specs.declared.entry.Entry.{Entry}
use Rattle.hprof_values.specs.declared.root.Root.{Root}
use Rattle.hprof_values.specs.declared.ids.IdSize.{IdSize}
use Rattle.hprof_items.specs.declared.fact.Fact.{Fact}
use Rattle.hprof_items.specs.declared.fact.Fact.TheVariants as facts
use Rattle.hprof_values.specs.Lists.{entries_of, entries_size, identifiers_of, identifiers_size}

pub data FactValue : Type 0 where
  -- UTF8: the identifier of a name, and its bytes
  Name : (id : ℕ) (text : List ℕ) → FactValue
  -- LOAD_CLASS: a class object, under the serial of the class, with its name
  Load : (serial class trace name : ℕ) → FactValue
  -- UNLOAD_CLASS
  Unload : (serial : ℕ) → FactValue
  -- FRAME: a frame of a stack; its line is above 0, or -1 unknown, -2 compiled, -3 native
  Frame : (id method signature source class_serial : ℕ) (line : ℤ) → FactValue
  -- TRACE: the frames of a stack
  Trace : (serial thread : ℕ) (frames : List ℕ) → FactValue
  -- START_THREAD
  Start : (thread object trace name group parent_group : ℕ) → FactValue
  -- END_THREAD
  End : (thread : ℕ) → FactValue
  -- the nine sub-records of roots
  Rooted : (root : Root) → FactValue
  -- a class, with its constants, static fields and own instance fields
  Class : (id trace parent loader signers domain reserved1 reserved2 size : ℕ) (constants statics fields : List Entry) → FactValue
  -- an instance, with the bytes of its fields
  Instance : (id trace class : ℕ) (bytes : List ℕ) → FactValue
  -- an array of objects
  ObjArray : (id trace class : ℕ) (elements : List ℕ) → FactValue
  -- an array of numbers or truth values, with the bytes of its elements
  PrimArray : (id trace : ℕ) (elem : Basic) (bytes : List ℕ) → FactValue

-- what a fact in hand states
abbrev pub value_of : Fact → FactValue
value_of (facts.Name id text) = Name id text.now
value_of (facts.Load serial class trace name) = Load serial class trace name
value_of (facts.Unload serial) = Unload serial
value_of (facts.Frame id method signature source class_serial line) = Frame id method signature source class_serial line
value_of (facts.Trace serial thread frames) = Trace serial thread (identifiers_of frames)
value_of (facts.Start thread object trace name group parent_group) = Start thread object trace name group parent_group
value_of (facts.End thread) = End thread
value_of (facts.Root root) = Rooted root
value_of (facts.Class id trace parent loader signers domain reserved1 reserved2 size constants statics fields) =
    Class id trace parent loader signers domain reserved1 reserved2 size (entries_of constants) (entries_of statics) (entries_of fields)
value_of (facts.Instance id trace class bytes) = Instance id trace class bytes.now
value_of (facts.ObjArray id trace class elements) = ObjArray id trace class (identifiers_of elements)
value_of (facts.PrimArray id trace elem bytes) = PrimArray id trace elem bytes.now

-- the lists of the fact have identifiers of that size
abbrev pub ListsHave : IdSize → Fact → Type 0
ListsHave ids (facts.Trace serial thread frames) = identifiers_size frames ≡ ids
ListsHave ids (facts.Class id trace parent loader signers domain reserved1 reserved2 size constants statics fields) =
    (entries_size constants ≡ ids) × (entries_size statics ≡ ids) × (entries_size fields ≡ ids)
ListsHave ids (facts.ObjArray id trace class elements) = identifiers_size elements ≡ ids
ListsHave ids _ = ⊤
