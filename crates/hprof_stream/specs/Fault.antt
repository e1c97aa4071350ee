-- What a part is refused with: the bytes are whole and right items and then a rest, and the rest does not begin
-- with one.
use Rattle.std.specs.Prelude.{◌≡◌, ◌==◌, ◌&&◌, ℕ, Bool, true, false, List, [], ◌++◌, length, Option, Some, None, Result, Ok, Err, is_ok}
use Rattle.hprof_items.specs.declared.header.Header.{Header}
use Rattle.hprof_values.specs.declared.reason.Reason.{Reason}
use Rattle.hprof_values.specs.declared.reason.Reason.TheVariants.{BadMagic, BadIdSize, Truncated, BadLength, BadSubTag, PastEnd, BadType}
use Rattle.hprof_values.specs.declared.parse_stop.ParseStop.{ParseStop}
use Rattle.hprof_values.specs.declared.parse_stop.ParseStop.TheVariants.{Short, TooLong, Fault}
use Rattle.hprof_items.specs.FactValue.{FactValue}
use Rattle.hprof_stream.specs.declared.part_fault.PartFault.{PartFault}
use Rattle.hprof_stream.specs.declared.part_fault.PartFault.TheVariants.{Malformed, ItemTooLong}
use Rattle.hprof_stream.specs.Part.{Stated, all_bytes, all_facts}
use Rattle.hprof_stream.specs.Item.{Place, Start, Found, header_before, may_end, AreItems, item_at}

-- whole and right items, and a rest that does not begin with one
pub record Splits (longest : ℕ) (bytes : List ℕ) (items : List Stated) (place : Place) (rest : List ℕ) : Type 0 where
  pub each : AreItems longest Start items place
  pub parts : bytes ≡ all_bytes items ++ rest

-- the fault of an item at that offset, by the test that fails
abbrev pub fault_at : ℕ → Result (Found × ℕ) ParseStop → Option PartFault
fault_at offset (Ok found) = None
fault_at offset (Err Short) = Some (Malformed offset Truncated)
fault_at offset (Err TooLong) = Some (ItemTooLong offset)
fault_at offset (Err (Fault reason)) = Some (Malformed offset reason)

-- nothing is left, where a part may end
abbrev pub is_done : Place → List ℕ → Bool
is_done place rest = may_end place && (length rest == 0)

-- the bytes are items, and no more
pub record HasNoFault (longest : ℕ) (bytes : List ℕ) : Type 0 where
  pub items : List Stated
  pub place : Place
  pub splits : Splits longest bytes items place []
  pub at_end : may_end place ≡ true

-- the fault with which the bytes are refused
pub record IsFirstFault (longest : ℕ) (bytes : List ℕ) (fault : PartFault) : Type 0 where
  pub items : List Stated
  pub place : Place
  pub rest : List ℕ
  pub splits : Splits longest bytes items place rest
  pub undone : is_done place rest ≡ false
  pub fails : fault_at (length (all_bytes items)) (item_at longest place rest) ≡ Some fault

-- a fault that no further byte changes
abbrev pub is_lasting : Reason → Bool
is_lasting BadMagic = true
is_lasting BadIdSize = true
is_lasting Truncated = false
is_lasting BadLength = true
is_lasting BadSubTag = true
is_lasting PastEnd = true
is_lasting BadType = true

abbrev pub is_settled : PartFault → Bool
is_settled (Malformed at reason) = is_lasting reason
is_settled other = true

-- no fault, or one that further bytes may change
abbrev pub HasNoSettledFault : ℕ → List ℕ → Type 0
HasNoSettledFault longest bytes = (fault : PartFault) → IsFirstFault longest bytes fault → is_settled fault ≡ false

-- the header and the facts of the whole items before the first that is not whole and right
pub record StatesSoFar (longest : ℕ) (bytes : List ℕ) (header : Option Header) (facts : List FactValue) : Type 0 where
  pub items : List Stated
  pub place : Place
  pub rest : List ℕ
  pub splits : Splits longest bytes items place rest
  pub ends : is_ok (item_at longest place rest) ≡ false
  pub has_header : header_before place ≡ header
  pub has_facts : all_facts items ≡ facts
