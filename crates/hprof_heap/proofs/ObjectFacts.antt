-- Object dumps that are found by their keys.
use Rattle.std.specs.List.{find}
use Rattle.std.proofs.Common.{◌≡◌, ℕ, List, Option, Some, None, refl, Bor}
use Rattle.hprof_values.specs.declared.basic.Basic.{Basic}
use Rattle.hprof_values.specs.declared.ids.IdSize.{IdSize}
use Rattle.hprof_values.specs.declared.lists.ids.IdList.{IdList}
use Rattle.hprof_items.specs.declared.fact.Fact.{Fact}
use Rattle.hprof_items.specs.declared.fact.Fact.TheVariants as facts
use Rattle.hprof_items.specs.FactValue.{FactValue, value_of}
use Rattle.hprof_rows.specs.declared.key.Key.TheVariants as keys
use Rattle.hprof_rows.specs.Conflict.{IsConsistent}
use Rattle.hprof_rows.specs.Facts.{Has}
use Rattle.hprof_rows.specs.Key.{has_key, key_of}
use Rattle.hprof_rows.proofs.Keys.{is_key-true, true-is_key}
use Rattle.hprof_rows.proofs.Picking.{found, not_found}
use Rattle.hprof_heap.specs.declared.object_dump.ObjectDump.{ObjectDump}
use Rattle.hprof_heap.specs.Objects.{IsObject, HasNoObject}
use Rattle.hprof_heap.specs.ObjectDump.{ElementsHave, AnswersObject, fact_of_object}

-- the fact is the only dump of the object
pub record IsOnlyObject (facts : List FactValue) (object : ℕ) (fact : FactValue) : Type 0 where
  pub has : Has facts fact
  pub id : IsObject object fact
  pub only : (other : FactValue) → Has facts other → IsObject object other → fact ≡ other

-- so it is where it is found, if the facts agree
pub only_object : (facts : List FactValue) (object : ℕ) (fact : FactValue) → IsConsistent facts
    → find (has_key (keys.Object object)) facts ≡ Some fact → IsOnlyObject facts object fact
only_object facts object fact agree e =
    let is = found (has_key (keys.Object object)) facts fact e in
    let id = is_key-true (keys.Object object) (key_of fact) is.passes in
    record {
      has = is.has;
      id = id;
      only = λ other has_other id_other. agree (keys.Object object) fact other is.has has_other id id_other;
    }

pub none_found : (facts : List FactValue) (object : ℕ) → find (has_key (keys.Object object)) facts ≡ None → HasNoObject facts object
none_found facts object e fact has is =
    not_found (has_key (keys.Object object)) facts fact e has (true-is_key (keys.Object object) (key_of fact) is)

-- ---- what is found

pub no_object_found : (ids : IdSize) (facts : List FactValue) (object : ℕ) → find (has_key (keys.Object object)) facts ≡ None
    → AnswersObject ids facts object None
no_object_found ids facts object e = record { found = tt; id = tt; lists = tt; only = tt; none = none_found facts object e }

pub object_found : (ids : IdSize) (facts : List FactValue) (object : ℕ) (dump : ObjectDump)
    → IsOnlyObject facts object (fact_of_object dump) → ElementsHave ids dump → AnswersObject ids facts object (Some dump)
object_found ids facts object dump is lists = record { found = is.has; id = is.id; lists = lists; only = is.only; none = tt }

-- a fact in hand with the key of an object is an object dump
pub is_object_fact : (object : ℕ) (fact : Fact) → IsObject object (value_of fact)
    → ((id trace class : ℕ) (bytes : Bor (List ℕ)) → fact ≡ facts.Instance id trace class bytes → ⊥)
    → ((id trace class : ℕ) (elements : IdList) → fact ≡ facts.ObjArray id trace class elements → ⊥)
    → ((id trace : ℕ) (elem : Basic) (bytes : Bor (List ℕ)) → fact ≡ facts.PrimArray id trace elem bytes → ⊥) → ⊥
is_object_fact object (facts.Instance id trace class bytes) e no_instance no_elements no_numbers = no_instance id trace class bytes refl
is_object_fact object (facts.ObjArray id trace class elements) e no_instance no_elements no_numbers =
    no_elements id trace class elements refl
is_object_fact object (facts.PrimArray id trace elem bytes) e no_instance no_elements no_numbers = no_numbers id trace elem bytes refl
is_object_fact object (facts.Name id text) e no_instance no_elements no_numbers = absurd cc
is_object_fact object (facts.Load serial class trace name) e no_instance no_elements no_numbers = absurd cc
is_object_fact object (facts.Unload serial) e no_instance no_elements no_numbers = absurd cc
is_object_fact object (facts.Frame id method signature source class_serial line) e no_instance no_elements no_numbers = absurd cc
is_object_fact object (facts.Trace serial thread frames) e no_instance no_elements no_numbers = absurd cc
is_object_fact object (facts.Start thread other trace name group parent_group) e no_instance no_elements no_numbers = absurd cc
is_object_fact object (facts.End thread) e no_instance no_elements no_numbers = absurd cc
is_object_fact object (facts.Root root) e no_instance no_elements no_numbers = absurd cc
is_object_fact object (facts.Class id trace parent loader signers domain reserved1 reserved2 size constants statics fields) e
    no_instance no_elements no_numbers = absurd cc

-- ---- an object has a dump or none

pub data Lookup (facts : List FactValue) (object : ℕ) : Type 0 where
  Found : (fact : FactValue) → Has facts fact → IsObject object fact → Lookup facts object
  NotFound : HasNoObject facts object → Lookup facts object

pub look_up : (facts : List FactValue) (object : ℕ) → Lookup facts object
look_up facts object = go (find (has_key (keys.Object object)) facts) refl where
  go : (fact : Option FactValue) → find (has_key (keys.Object object)) facts ≡ fact → Lookup facts object
  go None e = NotFound (none_found facts object e)
  go (Some fact) e =
      let is = found (has_key (keys.Object object)) facts fact e in
      Found fact is.has (is_key-true (keys.Object object) (key_of fact) is.passes)
