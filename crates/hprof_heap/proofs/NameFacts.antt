-- Names that are found by their keys.
use Rattle.std.specs.List.{find}
use Rattle.std.proofs.Common.{◌≡◌, ℕ, true, List, [], Option, Some, None, Bor, refl, sym, ap, subst}
use Rattle.hprof_items.specs.declared.fact.Fact.{Fact}
use Rattle.hprof_items.specs.declared.fact.Fact.TheVariants as facts
use Rattle.hprof_items.specs.FactValue.{FactValue, value_of, Name, Load, Unload, Frame, Trace, Start, End, Rooted, Class, Instance}
use Rattle.hprof_items.specs.FactValue.{ObjArray, PrimArray}
use Rattle.hprof_rows.specs.declared.key.Key.TheVariants as keys
use Rattle.hprof_rows.specs.Facts.{Has}
use Rattle.hprof_rows.specs.Key.{has_key, key_of}
use Rattle.hprof_rows.specs.Conflict.{IsConsistent}
use Rattle.hprof_rows.proofs.Keys.{is_key-true, true-is_key}
use Rattle.hprof_rows.proofs.Picking.{found, not_found}
use Rattle.hprof_heap.specs.Names.{HasName, HasNoName}

-- the bytes of a name
abbrev bytes_in : FactValue → List ℕ
bytes_in (Name id text) = text
bytes_in fact = []

-- where facts agree, a name has one list of bytes
pub one_name : (facts : List FactValue) (name : ℕ) (one other : List ℕ) → IsConsistent facts → HasName facts name one
    → HasName facts name other → one ≡ other
one_name facts name one other agree has has_other =
    ap bytes_in (agree (keys.Name name) (Name name one) (Name name other) has has_other refl refl)

-- ---- by the key

pub none_found : (facts : List FactValue) (name : ℕ) → find (has_key (keys.Name name)) facts ≡ None → HasNoName facts name
none_found facts name e bytes has =
    not_found (has_key (keys.Name name)) facts (Name name bytes) e has (true-is_key (keys.Name name) (Some (keys.Name name)) refl)

-- a name with the key has that identifier
pub key_name : (name id : ℕ) (text : List ℕ) → has_key (keys.Name name) (Name id text) ≡ true → id ≡ name
key_name name id text e =
    let same : Some (keys.Name id) ≡ Some (keys.Name name) = is_key-true (keys.Name name) (Some (keys.Name id)) e in
    cc

-- the fact gives the name these bytes
pub record IsName (name : ℕ) (fact : FactValue) : Type 0 where
  pub bytes : List ℕ
  pub is : Name name bytes ≡ fact

-- so it is where it has its key
key_is_name : (name : ℕ) (fact : FactValue) → key_of fact ≡ Some (keys.Name name) → IsName name fact
key_is_name name (Name id text) e =
    let same : Some (keys.Name id) ≡ Some (keys.Name name) = e in
    let one : name ≡ id = cc in
    record { bytes = text; is = ap (λ (n : ℕ). Name n text) one }
key_is_name name (Class id trace parent loader signers domain reserved1 reserved2 size constants statics fields) e = absurd cc
key_is_name name (Load serial other trace id) e = absurd cc
key_is_name name (Unload serial) e = absurd cc
key_is_name name (Frame id method signature source class_serial line) e = absurd cc
key_is_name name (Trace serial thread frames) e = absurd cc
key_is_name name (Start thread object trace id group parent_group) e = absurd cc
key_is_name name (End thread) e = absurd cc
key_is_name name (Rooted root) e = absurd cc
key_is_name name (Instance id trace other bytes) e = absurd cc
key_is_name name (ObjArray id trace other elements) e = absurd cc
key_is_name name (PrimArray id trace elem bytes) e = absurd cc

-- a fact in hand with the key of a name is one
pub is_name_fact : (name : ℕ) (fact : Fact) → has_key (keys.Name name) (value_of fact) ≡ true
    → ((id : ℕ) (text : Bor (List ℕ)) → fact ≡ facts.Name id text → ⊥)
    → ⊥
is_name_fact name (facts.Name id text) e none = none id text refl
is_name_fact name (facts.Class id trace parent loader signers domain reserved1 reserved2 size constants statics fields) e none = absurd cc
is_name_fact name (facts.Load serial other trace id) e none = absurd cc
is_name_fact name (facts.Unload serial) e none = absurd cc
is_name_fact name (facts.Frame id method signature source class_serial line) e none = absurd cc
is_name_fact name (facts.Trace serial thread frames) e none = absurd cc
is_name_fact name (facts.Start thread object trace id group parent_group) e none = absurd cc
is_name_fact name (facts.End thread) e none = absurd cc
is_name_fact name (facts.Root root) e none = absurd cc
is_name_fact name (facts.Instance id trace other bytes) e none = absurd cc
is_name_fact name (facts.ObjArray id trace other elements) e none = absurd cc
is_name_fact name (facts.PrimArray id trace elem bytes) e none = absurd cc

-- ---- a name has bytes or none

pub data Lookup (facts : List FactValue) (name : ℕ) : Type 0 where
  Found : (bytes : List ℕ) → HasName facts name bytes → Lookup facts name
  NotFound : HasNoName facts name → Lookup facts name

pub look_up : (facts : List FactValue) (name : ℕ) → Lookup facts name
look_up facts name = go (find (has_key (keys.Name name)) facts) refl where
  go : (fact : Option FactValue) → find (has_key (keys.Name name)) facts ≡ fact → Lookup facts name
  go None e = NotFound (none_found facts name e)
  go (Some fact) e =
      let is = found (has_key (keys.Name name)) facts fact e in
      let of = key_is_name name fact (is_key-true (keys.Name name) (key_of fact) is.passes) in
      Found of.bytes (subst (Has facts) (sym of.is) is.has)
