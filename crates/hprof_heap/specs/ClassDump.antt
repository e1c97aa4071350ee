-- A class dump as it lies in a heap.
use Rattle.std.specs.Prelude.{◌≡◌, ℕ, List, Option, IfNone, IfSome}
use Rattle.hprof_values.specs.declared.ids.IdSize.{IdSize}
use Rattle.hprof_items.specs.FactValue.{FactValue}
use Rattle.hprof_values.specs.Lists.{entries_of, entries_size}
use Rattle.hprof_heap.specs.declared.class_dump.ClassDump.{ClassDump}
use Rattle.hprof_heap.specs.Classes.{ClassValue, HasDump, HasNoDump}

-- what it says
abbrev pub class_value : ClassDump → ClassValue
class_value dump = record {
  id = dump.id;
  trace = dump.trace;
  parent = dump.parent;
  loader = dump.loader;
  signers = dump.signers;
  domain = dump.domain;
  reserved1 = dump.reserved1;
  reserved2 = dump.reserved2;
  size = dump.size;
  constants = entries_of dump.constants;
  statics = entries_of dump.statics;
  fields = entries_of dump.fields;
}

-- its lists have identifiers of that size
abbrev pub ClassListsHave : IdSize → ClassDump → Type 0
ClassListsHave ids dump = (entries_size dump.constants ≡ ids) × (entries_size dump.statics ≡ ids) × (entries_size dump.fields ≡ ids)

-- what is found of a class among facts whose identifiers have that size: its dump, or None if it has none
pub record AnswersClass (ids : IdSize) (facts : List FactValue) (class : ℕ) (answer : Option ClassDump) : Type 0 where
  pub found : IfSome answer (λ dump. HasDump facts (class_value dump))
  pub id : IfSome answer (λ dump. dump.id ≡ class)
  pub lists : IfSome answer (ClassListsHave ids)
  -- it is the only one
  pub only : IfSome answer (λ dump. (other : ClassValue) → HasDump facts other → other.id ≡ class → class_value dump ≡ other)
  pub none : IfNone answer (HasNoDump facts class)
