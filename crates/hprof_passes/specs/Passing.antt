-- Facts whose objects are gone through, and what a pass gives to a sink.
use Rattle.std.specs.Prelude.{◌≡◌, ◌≢◌, List, [], ◌∷◌, ◌++◌, Result, Ok, Err, ⊤}
use Rattle.std.proofs.Common.{ap}
use Rattle.hprof_values.specs.declared.ids.IdSize.{IdSize}
use Rattle.hprof_items.specs.FactValue.{FactValue}
use Rattle.hprof_rows.specs.declared.table.Table.{Table}
use Rattle.hprof_rows.specs.declared.table.Table.TheVariants as tables
use Rattle.hprof_rows.specs.Facts.{AllFit}
use Rattle.hprof_rows.specs.Order.{IsCanonicalOrder}
use Rattle.hprof_rows.specs.Tables.{facts_of_table}
use Rattle.hprof_passes.specs.declared.pass_fault.PassFault.{PassFault}
use Rattle.hprof_passes.specs.declared.pass_fault.PassFault.TheVariants.{Sink, Lost}

-- the objects among facts
abbrev pub objects_among : List FactValue → List FactValue
objects_among facts = facts_of_table tables.Objects facts

-- these are the facts of a heap, and in each table but that of objects they are those facts
pub record IsWhole (ids : IdSize) (facts all : List FactValue) : Type 0 where
  pub others : (table : Table) → table ≢ tables.Objects → facts_of_table table all ≡ facts_of_table table facts
  pub fit : AllFit ids all
  pub ordered : IsCanonicalOrder all

-- they are those facts, which are the facts of a heap
pub record IsItself (ids : IdSize) (facts all : List FactValue) : Type 0 where
  pub same : all ≡ facts
  pub fit : AllFit ids all
  pub ordered : IsCanonicalOrder all

-- facts with their own objects
pub whole_itself : (ids : IdSize) (facts all : List FactValue) → IsItself ids facts all → IsWhole ids facts all
whole_itself ids facts all is = record {
  others = λ table other. ap (facts_of_table table) is.same;
  fit = is.fit;
  ordered = is.ordered;
}

module _ {T : Type 0} (takes : T → IdSize → FactValue → T → Type 0) (ids : IdSize) where
  -- a sink took these objects, one after the other
  abbrev pub TakesObjects : T → List FactValue → T → Type 0
  TakesObjects old [] new = old ≡ new
  TakesObjects old (object ∷ objects) new = (mid : T) × takes old ids object mid × TakesObjects mid objects new

  -- it took the first of these objects, or none
  pub record TakesFront (objects : List FactValue) (old new : T) : Type 0 where
    pub front : List FactValue
    pub behind : List FactValue
    pub are : objects ≡ front ++ behind
    pub took : TakesObjects old front new

module _ {T E : Type 0} (takes : T → IdSize → FactValue → T → Type 0) (refuses : T → IdSize → FactValue → E → T → Type 0) (ids : IdSize)
  where
    -- it took the objects before this one, which it refused
    pub record RefusesObject (objects : List FactValue) (fault : E) (old new : T) : Type 0 where
      pub front : List FactValue
      pub object : FactValue
      pub behind : List FactValue
      pub are : objects ≡ front ++ object ∷ behind
      pub mid : T
      pub took : TakesObjects takes ids old front mid
      pub refused : refuses mid ids object fault new

    -- what a pass over these objects does to a sink
    abbrev pub Passes : {A F : Type 0} → List FactValue → Result A (PassFault E F) → T → T → Type 0
    Passes objects (Ok done) old new = TakesObjects takes ids old objects new
    Passes objects (Err (Sink fault)) old new = RefusesObject objects fault old new
    Passes objects (Err (Lost fault)) old new = TakesFront takes ids objects old new

-- if the objects cannot be gone through, this holds of the reason
abbrev pub IfLost : {E F : Type 0} → (F → Type 0) → PassFault E F → Type 0
IfLost Tells (Sink fault) = ⊤
IfLost Tells (Lost fault) = Tells fault
