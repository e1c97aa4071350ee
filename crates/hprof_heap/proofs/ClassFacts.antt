-- Class dumps that are found by their keys.
use Rattle.std.specs.List.{find}
use Rattle.std.proofs.Common.{◌≡◌, ℕ, true, List, [], Option, Some, None, refl, sym, ap, subst, ◌∙◌}
use Rattle.hprof_values.specs.declared.ids.IdSize.{IdSize}
use Rattle.hprof_items.specs.declared.fact.Fact.{Fact}
use Rattle.hprof_items.specs.declared.fact.Fact.TheVariants as facts
use Rattle.hprof_items.specs.FactValue.{FactValue, value_of, Name, Load, Unload, Frame, Trace, Start, End, Rooted, Class, Instance}
use Rattle.hprof_items.specs.FactValue.{ObjArray, PrimArray}
use Rattle.hprof_rows.specs.declared.key.Key.TheVariants as keys
use Rattle.hprof_rows.specs.Facts.{Has}
use Rattle.hprof_rows.specs.Key.{has_key, key_of}
use Rattle.hprof_rows.specs.Conflict.{IsConsistent}
use Rattle.hprof_rows.proofs.Keys.{is_key-true, true-is_key}
use Rattle.hprof_rows.proofs.Picking.{found, not_found}
use Rattle.hprof_heap.specs.declared.class_dump.ClassDump.{ClassDump}
use Rattle.hprof_heap.specs.Classes.{ClassValue, HasDump, HasNoDump, fact_of_class}
use Rattle.hprof_heap.specs.ClassDump.{ClassListsHave, AnswersClass, class_value}

-- no class has two dumps; so it is where facts agree
abbrev pub OneDumpEach : List FactValue → Type 0
OneDumpEach facts = (one other : ClassValue) → HasDump facts one → HasDump facts other → one.id ≡ other.id → one ≡ other

-- what a class dump says
abbrev pub dump_in : FactValue → ClassValue
dump_in (Class id trace parent loader signers domain reserved1 reserved2 size constants statics fields) = record {
  id = id;
  trace = trace;
  parent = parent;
  loader = loader;
  signers = signers;
  domain = domain;
  reserved1 = reserved1;
  reserved2 = reserved2;
  size = size;
  constants = constants;
  statics = statics;
  fields = fields;
}
dump_in fact = record {
  id = 0;
  trace = 0;
  parent = 0;
  loader = 0;
  signers = 0;
  domain = 0;
  reserved1 = 0;
  reserved2 = 0;
  size = 0;
  constants = [];
  statics = [];
  fields = [];
}

-- facts that agree have one dump of each class
pub one_dump_each : (facts : List FactValue) → IsConsistent facts → OneDumpEach facts
one_dump_each facts agree one other has has_other same =
    ap dump_in (agree (keys.Class one.id) (fact_of_class one) (fact_of_class other) has has_other refl
    (ap (λ (id : ℕ). Some (keys.Class id)) (sym same)))

-- ---- by the key

-- a dump of the class has its key
pub dump_key : (class : ℕ) (dump : ClassValue) → dump.id ≡ class → has_key (keys.Class class) (fact_of_class dump) ≡ true
dump_key class dump e = true-is_key (keys.Class class) (Some (keys.Class dump.id)) (ap (λ (id : ℕ). Some (keys.Class id)) e)

-- a dump with its key is one of the class
pub key_dump : (class : ℕ) (dump : ClassValue) → has_key (keys.Class class) (fact_of_class dump) ≡ true → dump.id ≡ class
key_dump class dump e =
    let same : Some (keys.Class dump.id) ≡ Some (keys.Class class) = is_key-true (keys.Class class) (Some (keys.Class dump.id)) e in
    cc

pub none_found : (facts : List FactValue) (class : ℕ) → find (has_key (keys.Class class)) facts ≡ None → HasNoDump facts class
none_found facts class e dump has is =
    not_found (has_key (keys.Class class)) facts (fact_of_class dump) e has (dump_key class dump is)

-- ---- what is found

pub no_class_found : (ids : IdSize) (facts : List FactValue) (class : ℕ) → find (has_key (keys.Class class)) facts ≡ None
    → AnswersClass ids facts class None
no_class_found ids facts class e = record { found = tt; id = tt; lists = tt; only = tt; none = none_found facts class e }

pub class_found : (ids : IdSize) (facts : List FactValue) (class : ℕ) (dump : ClassDump) → IsConsistent facts
    → HasDump facts (class_value dump) → dump.id ≡ class → ClassListsHave ids dump → AnswersClass ids facts class (Some dump)
class_found ids facts class dump agree has is lists = record {
  found = has;
  id = is;
  lists = lists;
  only = λ other has_other is_other. one_dump_each facts agree (class_value dump) other has has_other (is ∙ sym is_other);
  none = tt;
}

-- the fact is a dump of the class
pub record IsDump (class : ℕ) (fact : FactValue) : Type 0 where
  pub dump : ClassValue
  pub is : fact_of_class dump ≡ fact
  pub id : dump.id ≡ class

-- so it is where it has its key
pub key_is_dump : (class : ℕ) (fact : FactValue) → key_of fact ≡ Some (keys.Class class) → IsDump class fact
key_is_dump class (Class id trace parent loader signers domain reserved1 reserved2 size constants statics fields) e = record {
  dump = dump_in (Class id trace parent loader signers domain reserved1 reserved2 size constants statics fields);
  is = refl;
  id = let same : Some (keys.Class id) ≡ Some (keys.Class class) = e in cc;
}
key_is_dump class (Name id text) e = absurd cc
key_is_dump class (Load serial other trace name) e = absurd cc
key_is_dump class (Unload serial) e = absurd cc
key_is_dump class (Frame id method signature source class_serial line) e = absurd cc
key_is_dump class (Trace serial thread frames) e = absurd cc
key_is_dump class (Start thread object trace name group parent_group) e = absurd cc
key_is_dump class (End thread) e = absurd cc
key_is_dump class (Rooted root) e = absurd cc
key_is_dump class (Instance id trace other bytes) e = absurd cc
key_is_dump class (ObjArray id trace other elements) e = absurd cc
key_is_dump class (PrimArray id trace elem bytes) e = absurd cc

-- a fact in hand that is no class states no class dump
pub no_class_no_dump : (fact : Fact)
    → ((id trace parent loader signers domain reserved1 reserved2 size : ℕ) (constants : _) (statics : _) (fields : _)
    → fact ≡ facts.Class id trace parent loader signers domain reserved1 reserved2 size constants statics fields → ⊥)
    → (dump : ClassValue) → fact_of_class dump ≡ value_of fact → ⊥
no_class_no_dump (facts.Class id trace parent loader signers domain reserved1 reserved2 size constants statics fields) none dump e =
    none id trace parent loader signers domain reserved1 reserved2 size constants statics fields refl
no_class_no_dump (facts.Name id text) none dump e = cc
no_class_no_dump (facts.Load serial other trace name) none dump e = cc
no_class_no_dump (facts.Unload serial) none dump e = cc
no_class_no_dump (facts.Frame id method signature source class_serial line) none dump e = cc
no_class_no_dump (facts.Trace serial thread frames) none dump e = cc
no_class_no_dump (facts.Start thread object trace name group parent_group) none dump e = cc
no_class_no_dump (facts.End thread) none dump e = cc
no_class_no_dump (facts.Root root) none dump e = cc
no_class_no_dump (facts.Instance id trace other bytes) none dump e = cc
no_class_no_dump (facts.ObjArray id trace other elements) none dump e = cc
no_class_no_dump (facts.PrimArray id trace elem bytes) none dump e = cc

-- ---- a class has a dump or none

pub data Lookup (facts : List FactValue) (class : ℕ) : Type 0 where
  Found : (dump : ClassValue) → HasDump facts dump → dump.id ≡ class → Lookup facts class
  NotFound : HasNoDump facts class → Lookup facts class

pub look_up : (facts : List FactValue) (class : ℕ) → Lookup facts class
look_up facts class = go (find (has_key (keys.Class class)) facts) refl where
  go : (fact : Option FactValue) → find (has_key (keys.Class class)) facts ≡ fact → Lookup facts class
  go None e = NotFound (none_found facts class e)
  go (Some fact) e =
      let is = found (has_key (keys.Class class)) facts fact e in
      let of = key_is_dump class fact (is_key-true (keys.Class class) (key_of fact) is.passes) in
      Found of.dump (subst (Has facts) (sym of.is) is.has) of.id
