-- Object dumps among facts.
use Rattle.std.specs.Prelude.{◌≡◌, ℕ, List, Some}
use Rattle.hprof_values.specs.declared.basic.Basic.{Basic}
use Rattle.hprof_items.specs.FactValue.{FactValue, Instance, ObjArray, PrimArray}
use Rattle.hprof_rows.specs.declared.key.Key.TheVariants as keys
use Rattle.hprof_rows.specs.Facts.{Has}
use Rattle.hprof_rows.specs.Key.{key_of}

-- the fact is a dump of the object
abbrev pub IsObject : ℕ → FactValue → Type 0
IsObject object fact = key_of fact ≡ Some (keys.Object object)

-- none of the facts is a dump of the object
abbrev pub HasNoObject : List FactValue → ℕ → Type 0
HasNoObject facts object = (fact : FactValue) → Has facts fact → IsObject object fact → ⊥

-- the object is an instance of the class, with these bytes
pub record HasInstance (facts : List FactValue) (object class : ℕ) (bytes : List ℕ) : Type 0 where
  pub trace : ℕ
  pub has : Has facts (Instance object trace class bytes)

-- the object is an array of objects, of the class, with these elements
pub record HasElements (facts : List FactValue) (object class : ℕ) (elements : List ℕ) : Type 0 where
  pub trace : ℕ
  pub has : Has facts (ObjArray object trace class elements)

-- the object is an array of numbers or truth values of the type, with these bytes
pub record HasNumbers (facts : List FactValue) (object : ℕ) (elem : Basic) (bytes : List ℕ) : Type 0 where
  pub trace : ℕ
  pub has : Has facts (PrimArray object trace elem bytes)
