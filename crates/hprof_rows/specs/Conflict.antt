-- Whether the facts of a set agree, and where they do not.
use Rattle.std.specs.Prelude.{◌≡◌, ◌≢◌, List, Some, IsTrue}
use Rattle.hprof_items.specs.FactValue.{FactValue}
use Rattle.hprof_rows.specs.declared.key.Key.{Key}
use Rattle.hprof_rows.specs.Key.{key_of, key_le}
use Rattle.hprof_rows.specs.Facts.{Has}

-- no two of the facts have one key and different contents
abbrev pub IsConsistent : List FactValue → Type 0
IsConsistent facts = (key : Key) (one other : FactValue) → Has facts one → Has facts other
    → key_of one ≡ Some key → key_of other ≡ Some key → one ≡ other

-- two of the facts have this key and different contents
pub record HasConflict (facts : List FactValue) (key : Key) : Type 0 where
  pub one : FactValue
  pub other : FactValue
  pub has_one : Has facts one
  pub has_other : Has facts other
  pub key_of_one : key_of one ≡ Some key
  pub key_of_other : key_of other ≡ Some key
  pub differ : one ≢ other

-- the least key that has two contents
pub record IsLeastConflict (facts : List FactValue) (key : Key) : Type 0 where
  pub conflict : HasConflict facts key
  pub least : (other : Key) → HasConflict facts other → IsTrue (key_le key other)
