-- The class dumps among facts.
use Rattle.std.specs.Prelude.{◌↔◌, List, Option, Some, None, Contains}
use Rattle.std.specs.List.{filter_map}
use Rattle.std.specs.List.Sorted.{IsStrictlySortedBy}
use Rattle.std.specs.Ordering.{nat_cmp}
use Rattle.std.specs.declared.cmp.Ordering.{Ordering}
use Rattle.hprof_items.specs.FactValue.{FactValue, Class}
use Rattle.hprof_heap.specs.Classes.{ClassValue, HasDump}

-- by identifier
abbrev pub dump_cmp : ClassValue → ClassValue → Ordering
dump_cmp dump other = nat_cmp dump.id other.id

-- these are all class dumps, in order of identifier, each once
pub record AreClassDumps (facts : List FactValue) (dumps : List ClassValue) : Type 0 where
  pub ascend : IsStrictlySortedBy dump_cmp dumps
  pub exact : (dump : ClassValue) → Contains dumps dump ↔ HasDump facts dump

-- ---- one by one

-- the class dump that a fact is
abbrev pub class_in : FactValue → Option ClassValue
class_in (Class id trace parent loader signers domain reserved1 reserved2 size constants statics fields) = Some (record {
  id = id;
  trace = trace;
  parent = parent;
  loader = loader;
  signers = signers;
  domain = domain;
  reserved1 = reserved1;
  reserved2 = reserved2;
  size = size;
  constants = constants;
  statics = statics;
  fields = fields;
})
class_in fact = None

abbrev pub dumps_in : List FactValue → List ClassValue
dumps_in facts = filter_map class_in facts
