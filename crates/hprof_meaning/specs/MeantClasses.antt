-- The classes that a word means. The rule is this project's own.
use Rattle.std.specs.Prelude.{◌≡◌, ◌↔◌, ℕ, List, Option, Some, None, Contains}
use Rattle.std.specs.List.Sorted.{IsStrictlyIncreasing}
use Rattle.hprof_items.specs.FactValue.{FactValue, Class, Instance, Load, ObjArray}
use Rattle.hprof_rows.specs.Facts.{Has}
use Rattle.hprof_heap.specs.Classes.{ClassValue, HasDump}
use Rattle.hprof_naming.specs.MeantLabel.{Means}
use Rattle.hprof_meaning.specs.BareLabels.{IsBareLabel}

-- ---- classes

-- the class that a fact is about: a class dump, a load, or the dump of an instance or of an array of objects
abbrev pub class_named : FactValue → Option ℕ
class_named (Class id trace parent loader signers domain reserved1 reserved2 size constants statics fields) = Some id
class_named (Load serial class trace name) = Some class
class_named (Instance id trace class bytes) = Some class
class_named (ObjArray id trace class elements) = Some class
class_named fact = None

-- one of the facts is about it
pub record IsClass (facts : List FactValue) (id : ℕ) : Type 0 where
  pub fact : FactValue
  pub has : Has facts fact
  pub names : class_named fact ≡ Some id

-- it has a class dump
pub record IsDumped (facts : List FactValue) (id : ℕ) : Type 0 where
  pub dump : ClassValue
  pub has : HasDump facts dump
  pub id_is : dump.id ≡ id

-- ---- those that are meant

-- the word means its label
pub record HasMeantLabel (facts : List FactValue) (word : List ℕ) (id : ℕ) : Type 0 where
  pub label : List ℕ
  pub is_label : IsBareLabel facts id label
  pub means : Means word label

-- a class that the word means
pub record IsMeantClass (facts : List FactValue) (word : List ℕ) (id : ℕ) : Type 0 where
  pub is_class : IsClass facts id
  pub labelled : HasMeantLabel facts word id

-- a class dump that the word means
pub record IsMeantDump (facts : List FactValue) (word : List ℕ) (id : ℕ) : Type 0 where
  pub is_dumped : IsDumped facts id
  pub labelled : HasMeantLabel facts word id

-- ---- all of them

-- these are all of which that holds, ascending, each once
pub record AreAll (Holds : ℕ → Type 0) (classes : List ℕ) : Type 0 where
  pub ascend : IsStrictlyIncreasing classes
  pub exact : (id : ℕ) → Contains classes id ↔ Holds id

abbrev pub AreMeantClasses : List FactValue → List ℕ → List ℕ → Type 0
AreMeantClasses facts word classes = AreAll (IsMeantClass facts word) classes

abbrev pub AreMeantDumps : List FactValue → List ℕ → List ℕ → Type 0
AreMeantDumps facts word classes = AreAll (IsMeantDump facts word) classes
