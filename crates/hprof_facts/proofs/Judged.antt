-- Which faults are judged by the bytes.
use Rattle.std.proofs.Common.{◌≡◌, ℕ, List, true, false, length, Some, Result, Ok, Err, refl, subst}
use Rattle.std.proofs.lemmas.Bool.{both_ways}
use Rattle.hprof_values.specs.declared.reason.Reason.TheVariants.{Truncated}
use Rattle.hprof_values.specs.declared.parse_stop.ParseStop.{ParseStop}
use Rattle.hprof_values.specs.declared.parse_stop.ParseStop.TheVariants.{Short, TooLong, Fault}
use Rattle.hprof_stream.specs.declared.limits.Limits.{Limits}
use Rattle.hprof_stream.specs.declared.part_fault.PartFault.{PartFault}
use Rattle.hprof_stream.specs.declared.part_fault.PartFault.TheVariants as faults
use Rattle.hprof_stream.specs.Part.{all_bytes}
use Rattle.hprof_stream.specs.Item.{Found, item_at}
use Rattle.hprof_stream.specs.Fault.{IsFirstFault, fault_at}
use Rattle.hprof_stream.specs.Reader.{IsSettledFault}
use Rattle.hprof_facts.specs.OfBytes.{is_of_bytes}

-- the test that fails at an item
of_item : (offset : ℕ) (step : Result (Found × ℕ) ParseStop) (fault : PartFault) → fault_at offset step ≡ Some fault
    → is_of_bytes fault ≡ true
of_item offset (Ok (found, n)) fault e = absurd cc
of_item offset (Err Short) fault e = let same : faults.Malformed offset Truncated ≡ fault = cc in
    subst (λ (f : PartFault). is_of_bytes f ≡ true) same refl
of_item offset (Err TooLong) fault e = let same : faults.ItemTooLong offset ≡ fault = cc in
    subst (λ (f : PartFault). is_of_bytes f ≡ true) same refl
of_item offset (Err (Fault reason)) fault e = let same : faults.Malformed offset reason ≡ fault = cc in
    subst (λ (f : PartFault). is_of_bytes f ≡ true) same refl

-- the first fault of bytes
pub first_of_bytes : (longest : ℕ) (bytes : List ℕ) (fault : PartFault) → IsFirstFault longest bytes fault → is_of_bytes fault ≡ true
first_of_bytes longest bytes fault first =
    of_item (length (all_bytes first.items)) (item_at longest first.place first.rest) fault first.fails

-- a settled fault
settled_of_bytes : (limits : Limits) (bytes : List ℕ) (fault : PartFault) → IsSettledFault limits bytes fault → is_of_bytes fault ≡ true
settled_of_bytes limits bytes faults.BytesExceeded why = refl
settled_of_bytes limits bytes fault why = first_of_bytes limits.max_item _ fault why.0

-- no other is
pub no_other : (limits : Limits) (bytes : List ℕ) (fault : PartFault) → is_of_bytes fault ≡ false → IsSettledFault limits bytes fault → ⊥
no_other limits bytes fault other why = both_ways (is_of_bytes fault) other (settled_of_bytes limits bytes fault why)
