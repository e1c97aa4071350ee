-- Class dumps among facts.
use Rattle.std.specs.Prelude.{◌≢◌, ℕ, List}
use Rattle.hprof_values.specs.declared.entry.Entry.{Entry}
use Rattle.hprof_items.specs.FactValue.{FactValue, Class}
use Rattle.hprof_rows.specs.Facts.{Has}

-- what a class dump says
pub record ClassValue : Type 0 where
  pub id : ℕ
  pub trace : ℕ
  pub parent : ℕ
  pub loader : ℕ
  pub signers : ℕ
  pub domain : ℕ
  pub reserved1 : ℕ
  pub reserved2 : ℕ
  pub size : ℕ
  pub constants : List Entry
  pub statics : List Entry
  pub fields : List Entry

-- the fact that it is
abbrev pub fact_of_class : ClassValue → FactValue
fact_of_class dump = Class dump.id dump.trace dump.parent dump.loader dump.signers dump.domain dump.reserved1 dump.reserved2 dump.size
    dump.constants dump.statics dump.fields

-- the dump is one of the facts
abbrev pub HasDump : List FactValue → ClassValue → Type 0
HasDump facts dump = Has facts (fact_of_class dump)

-- none of the facts is a dump of the class
abbrev pub HasNoDump : List FactValue → ℕ → Type 0
HasNoDump facts class = (dump : ClassValue) → HasDump facts dump → dump.id ≢ class
