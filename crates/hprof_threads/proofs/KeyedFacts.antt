-- Facts that are found by their keys: a fact with the key of a load, a frame, a stack trace or a thread is one.
use Rattle.std.specs.Prelude.{ℤ}
use Rattle.std.specs.List.{find}
use Rattle.std.proofs.Common.{◌≡◌, ℕ, List, Option, Some, None, refl, sym, subst}
use Rattle.hprof_values.specs.declared.lists.ids.IdList.{IdList}
use Rattle.hprof_items.specs.declared.fact.Fact.{Fact}
use Rattle.hprof_items.specs.declared.fact.Fact.TheVariants as facts
use Rattle.hprof_items.specs.FactValue.{FactValue, value_of, Name, Load, Unload, Frame, Trace, Start, End, Rooted, Class, Instance}
use Rattle.hprof_items.specs.FactValue.{ObjArray, PrimArray}
use Rattle.hprof_rows.specs.declared.key.Key.{Key}
use Rattle.hprof_rows.specs.declared.key.Key.TheVariants as keys
use Rattle.hprof_rows.specs.Facts.{Has}
use Rattle.hprof_rows.specs.Key.{has_key, key_of}
use Rattle.hprof_rows.proofs.Keys.{is_key-true, true-is_key}
use Rattle.hprof_rows.proofs.Picking.{found, not_found}

-- ---- a fact as a value

-- what a fact with the key is
abbrev pub IsOfKey : Key → FactValue → Type 0
IsOfKey (keys.Load serial) fact = (class : ℕ) × (trace : ℕ) × (name : ℕ) × (fact ≡ Load serial class trace name)
IsOfKey (keys.Frame id) fact = (method : ℕ) × (signature : ℕ) × (source : ℕ) × (class : ℕ) × (line : ℤ)
    × (fact ≡ Frame id method signature source class line)
IsOfKey (keys.Trace serial) fact = (thread : ℕ) × (frames : List ℕ) × (fact ≡ Trace serial thread frames)
IsOfKey (keys.Thread serial) fact = (object : ℕ) × (trace : ℕ) × (name : ℕ) × (group : ℕ) × (parent : ℕ)
    × (fact ≡ Start serial object trace name group parent)
IsOfKey key fact = Unit {0}

one_key : (one other : Key) → Some one ≡ Some other → one ≡ other
one_key one other e = cc

pub is_of_key : (key : Key) (fact : FactValue) → key_of fact ≡ Some key → IsOfKey key fact
is_of_key key (Load serial class trace name) e =
    subst (λ (k : Key). IsOfKey k (Load serial class trace name)) (one_key (keys.Load serial) key e) (class, trace, name, refl)
is_of_key key (Frame id method signature source class line) e =
    subst (λ (k : Key). IsOfKey k (Frame id method signature source class line)) (one_key (keys.Frame id) key e)
    (method, signature, source, class, line, refl)
is_of_key key (Trace serial thread frames) e =
    subst (λ (k : Key). IsOfKey k (Trace serial thread frames)) (one_key (keys.Trace serial) key e) (thread, frames, refl)
is_of_key key (Start thread object trace name group parent) e =
    subst (λ (k : Key). IsOfKey k (Start thread object trace name group parent)) (one_key (keys.Thread thread) key e)
    (object, trace, name, group, parent, refl)
is_of_key key (Name id text) e = subst (λ (k : Key). IsOfKey k (Name id text)) (one_key (keys.Name id) key e) tt
is_of_key key (Unload serial) e = absurd cc
is_of_key key (End thread) e = absurd cc
is_of_key key (Rooted root) e = absurd cc
is_of_key key (Class id trace parent loader signers domain reserved1 reserved2 size constants statics fields) e =
    subst (λ (k : Key). IsOfKey k (Class id trace parent loader signers domain reserved1 reserved2 size constants statics fields))
    (one_key (keys.Class id) key e) tt
is_of_key key (Instance id trace class bytes) e =
    subst (λ (k : Key). IsOfKey k (Instance id trace class bytes)) (one_key (keys.Object id) key e) tt
is_of_key key (ObjArray id trace class elements) e =
    subst (λ (k : Key). IsOfKey k (ObjArray id trace class elements)) (one_key (keys.Object id) key e) tt
is_of_key key (PrimArray id trace elem bytes) e =
    subst (λ (k : Key). IsOfKey k (PrimArray id trace elem bytes)) (one_key (keys.Object id) key e) tt

-- ---- a fact in hand

-- what a fact in hand with the key is
abbrev pub IsInHand : Key → Fact → Type 0
IsInHand (keys.Load serial) fact = (class : ℕ) × (trace : ℕ) × (name : ℕ) × (fact ≡ facts.Load serial class trace name)
IsInHand (keys.Frame id) fact = (method : ℕ) × (signature : ℕ) × (source : ℕ) × (class : ℕ) × (line : ℤ)
    × (fact ≡ facts.Frame id method signature source class line)
IsInHand (keys.Trace serial) fact = (thread : ℕ) × (frames : IdList) × (fact ≡ facts.Trace serial thread frames)
IsInHand (keys.Thread serial) fact = (object : ℕ) × (trace : ℕ) × (name : ℕ) × (group : ℕ) × (parent : ℕ)
    × (fact ≡ facts.Start serial object trace name group parent)
IsInHand key fact = Unit {0}

pub is_in_hand : (key : Key) (fact : Fact) → key_of (value_of fact) ≡ Some key → IsInHand key fact
is_in_hand key (facts.Load serial class trace name) e =
    subst (λ (k : Key). IsInHand k (facts.Load serial class trace name)) (one_key (keys.Load serial) key e) (class, trace, name, refl)
is_in_hand key (facts.Frame id method signature source class line) e =
    subst (λ (k : Key). IsInHand k (facts.Frame id method signature source class line)) (one_key (keys.Frame id) key e)
    (method, signature, source, class, line, refl)
is_in_hand key (facts.Trace serial thread frames) e =
    subst (λ (k : Key). IsInHand k (facts.Trace serial thread frames)) (one_key (keys.Trace serial) key e) (thread, frames, refl)
is_in_hand key (facts.Start thread object trace name group parent) e =
    subst (λ (k : Key). IsInHand k (facts.Start thread object trace name group parent)) (one_key (keys.Thread thread) key e)
    (object, trace, name, group, parent, refl)
is_in_hand key (facts.Name id text) e = subst (λ (k : Key). IsInHand k (facts.Name id text)) (one_key (keys.Name id) key e) tt
is_in_hand key (facts.Unload serial) e = absurd cc
is_in_hand key (facts.End thread) e = absurd cc
is_in_hand key (facts.Root root) e = absurd cc
is_in_hand key (facts.Class id trace parent loader signers domain reserved1 reserved2 size constants statics fields) e =
    subst (λ (k : Key). IsInHand k (facts.Class id trace parent loader signers domain reserved1 reserved2 size constants statics fields))
    (one_key (keys.Class id) key e) tt
is_in_hand key (facts.Instance id trace class bytes) e =
    subst (λ (k : Key). IsInHand k (facts.Instance id trace class bytes)) (one_key (keys.Object id) key e) tt
is_in_hand key (facts.ObjArray id trace class elements) e =
    subst (λ (k : Key). IsInHand k (facts.ObjArray id trace class elements)) (one_key (keys.Object id) key e) tt
is_in_hand key (facts.PrimArray id trace elem bytes) e =
    subst (λ (k : Key). IsInHand k (facts.PrimArray id trace elem bytes)) (one_key (keys.Object id) key e) tt

-- ---- looking up

-- the fact has the key, and is one of these
pub record IsKeyed (facts : List FactValue) (key : Key) (fact : FactValue) : Type 0 where
  pub has : Has facts fact
  pub key_is : key_of fact ≡ Some key

pub keyed : (facts : List FactValue) (key : Key) (fact : FactValue) → Some fact ≡ find (has_key key) facts → IsKeyed facts key fact
keyed facts key fact e =
    let is = found (has_key key) facts fact (sym e) in
    record { has = is.has; key_is = is_key-true key (key_of fact) is.passes }

-- none of the facts has the key
pub none_keyed : (facts : List FactValue) (key : Key) → None ≡ find (has_key key) facts → (fact : FactValue) → Has facts fact
    → key_of fact ≡ Some key → ⊥
none_keyed facts key e fact has is = not_found (has_key key) facts fact (sym e) has (true-is_key key (key_of fact) is)

-- a key has a fact or none
pub data Lookup (facts : List FactValue) (key : Key) : Type 0 where
  Found : (fact : FactValue) → IsKeyed facts key fact → Lookup facts key
  NotFound : ((fact : FactValue) → Has facts fact → key_of fact ≡ Some key → ⊥) → Lookup facts key

pub look_up : (facts : List FactValue) (key : Key) → Lookup facts key
look_up facts key = go (find (has_key key) facts) refl where
  go : (fact : Option FactValue) → find (has_key key) facts ≡ fact → Lookup facts key
  go None e = NotFound (none_keyed facts key (sym e))
  go (Some fact) e = Found fact (keyed facts key fact (sym e))
